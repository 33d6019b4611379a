-- Lists whose operations are cut one after another.
use Rattle.std.proofs.Common.{◌≡◌, ◌∙◌, ℕ, zero, suc, ◌+◌, ◌<◌, ◌⊎◌, Bool, true, List, [], ◌∷◌, ◌++◌}
use Rattle.std.proofs.Common.{length, map, take, sym, ap, subst, inl, inr, arith}
use Rattle.std.specs.Prelude.{slice_get, Some}
use Rattle.std.proofs.lemmas.{Grind.{common_steps}, List.{length_push}, Option.{slice_get-map, slice_get_within}}
use Rattle.std.{specs.Option.{option_map}}
use Rattle.row_list.specs.{declared.row_op.RowOp.{RowOp}, Places.{is_access}}
use Rattle.row_facts.{specs.{declared.site.Site.{Site}, Sites.{sites_of}}, proofs.FactLaws.{get-more}}
use Rattle.row_facts.proofs.SiteLaws.{some-same}
use Rattle.loop_inspector.proofs.SpanLaws.{get-kept, get-last}
use Rattle.loop_inspector.specs.{declared.reach.Span.{Span}, Slices.{AreCuts, AreOpens, IsClosed, IsCut}}

-- the operation of an access's site
pub site-at : (ops : List RowOp) (k : ℕ) (op : RowOp) → slice_get ops k ≡ Some op → is_access op ≡ true
    → slice_get (sites_of ops) (length (sites_of (take k ops))) ≡ Some op
site-at [] k op there is = absurd (cc)
site-at (x ∷ ops) zero op there is = grind (arith, common_steps)
site-at (x ∷ ops) (suc k) op there is =
    let before = site-at ops k op there is in
    grind (arith, common_steps, before)

-- of two accesses the earlier one has the lesser number
pub site-before : (ops : List RowOp) (j k : ℕ) (by : RowOp) → j < k → slice_get ops j ≡ Some by → is_access by ≡ true
    → length (sites_of (take j ops)) < length (sites_of (take k ops))
site-before [] j k by less there is = absurd (cc)
site-before ops j zero by less there is = absurd (omega (arith, less))
site-before (x ∷ ops) zero (suc k) by less there is = grind (arith, common_steps)
site-before (x ∷ ops) (suc j) (suc k) by less there is =
    let before = site-before ops j k by (omega (arith, less)) there is in
    grind (arith, common_steps, before)

-- one operation more
pub opens-more : (sites : List Site) (spans : List Span) (ops : List RowOp) (opens : List Bool) (op : RowOp)
    (flag : Bool) → length opens ≡ length ops → (is_access op ≡ true → flag ≡ true ⊎ IsClosed sites spans op)
    → AreOpens sites spans ops opens → AreOpens sites spans (ops ++ op ∷ []) (opens ++ flag ∷ [])
opens-more sites spans ops opens op flag count here before k one there is = elim (get-more ops op one k there) [
  | inl old ↦ elim (before k one old is) [
    | inl set ↦ inl (get-kept opens (flag ∷ []) true k set)
    | inr closed ↦ inr closed
  ]
  | inr new ↦ elim (here (ap is_access new.1 ∙ is)) [
    | inl set ↦ inl (get-last opens flag k (new.0 ∙ sym count) ∙ ap Some set)
    | inr closed ↦ inr (subst (IsClosed sites spans) new.1 closed)
  ]
]

pub cuts-more : (sites : List Site) (spans : List Span) (needed : List Bool) (number : ℕ) (list cuts : List RowOp)
    (op made : RowOp) → IsCut sites spans needed (length list) number op made
    → AreCuts sites spans needed number list cuts
    → AreCuts sites spans needed number (list ++ op ∷ []) (cuts ++ made ∷ [])
cuts-more sites spans needed number list cuts op made here before = record {
  count = length_push cuts made ∙ ap (λ n. n + 1) before.count ∙ sym (length_push list op);
  each = λ k one cut there cut_there. elim (get-more list op one k there) [
    | inl old ↦ elim (get-more cuts made cut k cut_there) [
      | inl same ↦ before.each k one cut old same
      | inr past ↦ absurd (omega (arith, past.0, before.count, slice_get_within list k one old))
    ]
    | inr new ↦ elim (get-more cuts made cut k cut_there) [
      | inl same ↦ absurd (omega (arith, new.0, before.count, slice_get_within cuts k cut same))
      | inr past ↦ rw (new.0, ← new.1, ← past.1) here
    ]
  ];
}

-- the site of an access has its operation
pub site-is : (sites : List Site) (ops : List RowOp) (k : ℕ) (site : Site) (op : RowOp)
    → map (λ s. s.op) sites ≡ sites_of ops → slice_get sites k ≡ Some site → slice_get (sites_of ops) k ≡ Some op
    → site.op ≡ op
site-is sites ops k site op same there is =
    let named : Site → RowOp = λ s. s.op in
    some-same site.op op (sym (ap (option_map named) there) ∙ sym (slice_get-map named sites k)
    ∙ ap (λ (xs : List RowOp). slice_get xs k) same ∙ is)
