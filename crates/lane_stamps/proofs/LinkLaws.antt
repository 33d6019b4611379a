-- Sites that are watched, by the links from each to the next.
use Rattle.std.proofs.Common.{◌≡◌, ℕ, ◌-◌, ◌<◌, ◌≤◌, true, false, inl, inr, List, length, set, slice_index}
use Rattle.std.proofs.{Common.{slice_index_or, refl, sym, subst, arith}, lemmas.Bool.{cases_eq, cases_lt}}
use Rattle.std.proofs.lemmas.List.{get_or-set_other, get_or-set_same, get_or_default}
use Rattle.std.specs.Prelude.{Bool, if◌then◌else◌}
use Rattle.lane_stamps.specs.{declared.site.Site.{Site}, Stamps.{IsLink}}

-- what is so of the watched sites below one is so of those below the next that is watched
pub skipped : (P : Site → Type 0) (sites : List Site) (k next : ℕ) → IsLink sites k next
    → ((j : ℕ) (d : Site) → j < k → (slice_index_or sites j d).watched ≡ true → P (slice_index_or sites j d)) → (j : ℕ)
    (d : Site) → j < next → (slice_index_or sites j d).watched ≡ true → P (slice_index_or sites j d)
skipped P sites k next link below j d less watched = elim (cases_lt j k) [
  | inl small ↦ below j d small watched
  | inr big ↦
      let not = link.between j d big less in
      let never : ⊥ = cc in absurd never
]

pub skipped_pairs : (R : Site → Site → Type 0) (sites : List Site) (k next : ℕ) → IsLink sites k next
    → ((i j : ℕ) (d : Site) → i < j → j < k → (slice_index_or sites i d).watched ≡ true
    → (slice_index_or sites j d).watched ≡ true → R (slice_index_or sites i d) (slice_index_or sites j d)) → (i j : ℕ)
    (d : Site) → i < j → j < next → (slice_index_or sites i d).watched ≡ true
    → (slice_index_or sites j d).watched ≡ true
    → R (slice_index_or sites i d) (slice_index_or sites j d)
skipped_pairs R sites k next link below i j d order less first second = elim (cases_lt j k) [
  | inl small ↦ below i j d order small first second
  | inr big ↦
      let not = link.between j d big less in
      let never : ⊥ = cc in absurd never
]

-- links are made from the last site on
pub link_end : (sites : List Site) → IsLink sites (length sites) (length sites)
link_end sites = record {
  onward = omega arith;
  within = omega arith;
  between = λ j d more less. absurd (omega (arith, more, less));
}

pub linked_end : (sites : List Site) (links : List ℕ) → length sites < length links → (k : ℕ) → length sites ≤ k
    → k ≤ length sites → IsLink sites k (slice_index (set links (length sites) (length sites)) k)
linked_end sites links room k more less =
    let last : length sites ≡ k = omega (arith, more, less) in
    subst (λ (n : ℕ). IsLink sites n (slice_index (set links (length sites) (length sites)) n)) last
    (subst (IsLink sites (length sites)) (sym (get_or-set_same links (length sites) (length sites) 0 room))
    (link_end sites))

pub link_more : (sites : List Site) (at next new : ℕ) (e : Site) → 0 < at → at ≤ length sites
    → new ≡ (if (slice_index_or sites (at - 1) e).watched then at - 1 else next) → IsLink sites at next
    → IsLink sites (at - 1) new
link_more sites at next new e some few is link = subst (IsLink sites (at - 1)) (sym is)
    (go (slice_index_or sites (at - 1) e).watched refl)
  where
    inside : at - 1 < length sites
    inside = omega (arith, some, few)

    go : (watched : Bool) → (slice_index_or sites (at - 1) e).watched ≡ watched
        → IsLink sites (at - 1) (if watched then at - 1 else next)
    go true watched_is = record {
      onward = omega arith;
      within = omega (arith, inside);
      between = λ j d more less. absurd (omega (arith, more, less));
    }
    go false watched_is = record {
      onward = omega (arith, link.onward);
      within = link.within;
      between = λ j d more less. elim (cases_eq j (at - 1)) [
        | inl same ↦ rw (same, ← get_or_default sites (at - 1) e d inside) watched_is
        | inr other ↦ link.between j d (omega (arith, more, other)) less
      ];
    }

pub linked_more : (sites : List Site) (links : List ℕ) (at new : ℕ) → 0 < at → at ≤ length sites
    → length sites < length links → IsLink sites (at - 1) new
    → ((k : ℕ) → at ≤ k → k ≤ length sites → IsLink sites k (slice_index links k)) → (k : ℕ) → at - 1 ≤ k
    → k ≤ length sites → IsLink sites k (slice_index (set links (at - 1) new) k)
linked_more sites links at new some few room link linked k more less = elim (cases_eq k (at - 1)) [
  | inl same ↦ rw (same, get_or-set_same links (at - 1) new 0 (omega (arith, few, room, some))) link
  | inr other ↦ rw (get_or-set_other links (at - 1) k new 0 other) (linked k (omega (arith, more, other)) less)
]
