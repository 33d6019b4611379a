-- Ranks, one site further.
use Rattle.std.proofs.Common.{◌≡◌, ℕ, zero, suc, ◌+◌, ◌<◌, ◌≤◌, List, [], ◌∷◌, length, set, slice_index_or, refl, sym}
use Rattle.std.{proofs.Common.{◌∙◌, ap, subst, arith}, specs.Prelude.{Bool, true, false, if◌then◌else◌}}
use Rattle.std.proofs.lemmas.List.{get_or-set_other, get_or-set_same, length-set}
use Rattle.loop_core_model.{proofs.OneElement.{same_op}, specs.declared.access.Access.{Access, TheVariants.{Reduce}}}
use Rattle.loop_core_model.specs.Kinds.{by_one_operator}
use Rattle.lane_stamps.{specs.declared.{kind.Kind.{Kind}, site.Site.{Site}}, proofs.StampSteps.{each_more, pairs_more}}
use Rattle.lane_stamps.specs.Sites.{LaneRows, effect_at, leaves, log_of, ranked_as, unranked}
use Rattle.lane_stamps.specs.Stamps.{kind_by, last_kind, reduce_alike}

-- two that reduce by one operator make accesses of one kind
same_kind : (a b : Access) → by_one_operator a b ≡ true → a ≡ b
same_kind (Reduce op) (Reduce other) h = ap Reduce (same_op op other h)
same_kind _ _ h = absurd (cc)

-- sites are ranked up to one of them; the last of them that leaves something is of this kind
pub record RankedTo (sites : List Site) (to rank : ℕ) (last : Kind) : Type 0 where
  pub some : (k : ℕ) (d : Site) → k < to → 0 < (slice_index_or sites k d).rank
  pub most : (k : ℕ) (d : Site) → k < to → (slice_index_or sites k d).rank ≤ rank
  pub rise : (i j : ℕ) (d : Site) → i < j → j < to → (slice_index_or sites i d).rank ≤ (slice_index_or sites j d).rank
  pub alike : (i j : ℕ) (d : Site) → i < j → j < to → leaves (slice_index_or sites i d).kind ≡ true
      → leaves (slice_index_or sites j d).kind ≡ true → (slice_index_or sites i d).rank
      ≡ (slice_index_or sites j d).rank
      → reduce_alike (slice_index_or sites i d).kind (slice_index_or sites j d).kind ≡ true
  pub ends : (k : ℕ) (d : Site) → k < to → leaves (slice_index_or sites k d).kind ≡ true
      → (slice_index_or sites k d).rank ≡ rank → kind_by (slice_index_or sites k d).kind ≡ kind_by last

module _ (sites : List Site) (to rank next : ℕ) (last : Kind) (e : Site) (inside : to < length sites)
    (ranked : RankedTo sites to rank last) (rises : rank ≤ next)
    (alike : leaves (slice_index_or sites to e).kind ≡ true → next ≡ rank
    → reduce_alike last (slice_index_or sites to e).kind ≡ true) (some : 0 < next) where
  abbrev pub this : Site
  this = slice_index_or sites to e

  abbrev pub after : List Site
  after = set sites to (ranked_as next this)

  one : (k : ℕ) (d : Site) → k < to → slice_index_or after k d ≡ slice_index_or sites k d
  one k d less = get_or-set_other sites to k (ranked_as next this) d (λ same. omega (arith, same, less))

  here : (d : Site) → slice_index_or after to d ≡ ranked_as next this
  here d = get_or-set_same sites to (ranked_as next this) d inside

  long : to < length after
  long = omega (arith, length-set sites to (ranked_as next this), inside)

  -- what is so of the others, and of this one, is so of one more
  more : (P : Site → Type 0) → ((k : ℕ) (d : Site) → k < to → P (slice_index_or sites k d)) → P (ranked_as next this)
      → (k : ℕ) (d : Site) → k < to + 1 → P (slice_index_or after k d)
  more P others at = each_more (λ (k : ℕ). P) after to e long (λ k d less. subst P (sym (one k d less)) (others k d less))
      (subst P (sym (here e)) at)

  both : (R : Site → Site → Type 0)
      → ((i j : ℕ) (d : Site) → i < j → j < to → R (slice_index_or sites i d) (slice_index_or sites j d))
      → ((i : ℕ) (d : Site) → i < to → R (slice_index_or sites i d) (ranked_as next this)) → (i j : ℕ) (d : Site)
      → i < j
      → j < to + 1 → R (slice_index_or after i d) (slice_index_or after j d)
  both R others at = pairs_more R after to e long
      (λ i j d order less. rw (one i d (omega (arith, order, less)), one j d less) (others i j d order less))
      (λ i d less. rw (one i d less, here e) (at i d less))

  before_last : (k : ℕ) (d : Site) → k < to → leaves (slice_index_or sites k d).kind ≡ true
      → (slice_index_or sites k d).rank ≡ next → kind_by (slice_index_or sites k d).kind
      ≡ kind_by (last_kind last this.kind)
  before_last k d less left same = go (leaves (slice_index_or sites to e).kind) refl
    where
      equal : next ≡ rank
      equal = omega (arith, ranked.most k d less, rises, same)

      go : (leave : Bool) → leaves (slice_index_or sites to e).kind ≡ leave → kind_by (slice_index_or sites k d).kind
          ≡ kind_by (if leave then (slice_index_or sites to e).kind else last)
      go true is = ranked.ends k d less left (same ∙ equal) ∙ same_kind (kind_by last)
          (kind_by (slice_index_or sites to e).kind) (alike is equal)
      go false is = ranked.ends k d less left (same ∙ equal)

  pub ranked_more : RankedTo after (to + 1) next (last_kind last this.kind)
  ranked_more = record {
    some = more (λ site. 0 < site.rank) ranked.some some;
    most = more (λ site. site.rank ≤ next) (λ k d less. omega (arith, ranked.most k d less, rises)) (omega arith);
    rise = both (λ a b. a.rank ≤ b.rank) ranked.rise (λ i d less. omega (arith, ranked.most i d less, rises));
    alike = both (λ a b. leaves a.kind ≡ true → leaves b.kind ≡ true → a.rank ≡ b.rank
        → reduce_alike a.kind b.kind ≡ true) ranked.alike
        (λ i d less left leave same.
        let equal : next ≡ rank = omega (arith, ranked.most i d less, rises, same) in
        subst (λ (kind : Access). by_one_operator kind (kind_by (slice_index_or sites to e).kind) ≡ true)
        (sym (ranked.ends i d less left (same ∙ equal))) (alike leave equal));
    ends = more (λ site. leaves site.kind ≡ true → site.rank ≡ next → kind_by site.kind
        ≡ kind_by (last_kind last (slice_index_or sites to e).kind)) before_last
        (λ left same. sym (ap (λ (b : Bool). kind_by (if b then (slice_index_or sites to e).kind else last)) left));
  }

-- nothing but a rank changes
pub same_but_rank : (sites : List Site) (k rank : ℕ) (d : Site)
    → unranked (set sites k (ranked_as rank (slice_index_or sites k d))) ≡ unranked sites
same_but_rank [] k rank d = refl
same_but_rank (site ∷ sites) zero rank d = refl
same_but_rank (site ∷ sites) (suc k) rank d = ap (λ all. ranked_as 0 site ∷ all) (same_but_rank sites k rank d)

-- and that says nothing of what lanes do
log_unranked : (lanes : LaneRows) (sites : List Site) → log_of (unranked sites) lanes ≡ log_of sites lanes
log_unranked lanes [] = refl
log_unranked lanes (site ∷ sites) = ap (λ log. effect_at lanes site ∷ log) (log_unranked lanes sites)

pub same_log : (lanes : LaneRows) (sites others : List Site) → unranked sites ≡ unranked others
    → log_of sites lanes ≡ log_of others lanes
same_log lanes sites others same =
    sym (log_unranked lanes sites) ∙ ap (λ all. log_of all lanes) same ∙ log_unranked lanes others
