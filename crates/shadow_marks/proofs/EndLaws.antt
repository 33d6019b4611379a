-- The flags of all touched elements come into the planes, one element after another.
use Rattle.std.proofs.Common.{◌≡◌, ℕ, ◌<◌, Bool, false, ◌&&◌, ◌||◌, List, [], ◌∷◌, ◌++◌, refl, sym, ◌∙◌}
use Rattle.std.proofs.{Common.{ap, subst, inl, inr, arith}, Math.{Bool.{or-false, and-false}, Nat.{max-zero}}}
use Rattle.std.proofs.lemmas.Bool.{cases_eq}
use Rattle.array_maps.specs.Accesses.{Action}
use Rattle.loop_core_model.{specs.{Flags.{Flags, no_flags}}, proofs.MarkLaws.{marks_merge}}
use Rattle.loop_core_model.specs.Marks.{Visit, Marks, marks_of, marks_of_one, merged}
use Rattle.shadow_marks.specs.declared.{element_flags.ElementFlags.{ElementFlags}, iter_flags.IterFlags.{IterFlags}}
use Rattle.shadow_marks.specs.{declared.planes.Planes.{Planes}, Kept.{flags_in}, Ending.{KeepsShape, Folds}}
use Rattle.shadow_marks.specs.Iteration.{element_count, flags_at, AreFlagsOf, IsEmptied, TakesFlags}
use Rattle.shadow_marks.{specs.Standing.{ArePlanes, StandAt, StandFor, one_more}, proofs.FoldLaws.{lesser_none}}

-- marks with those of an iteration that made no access are the same
pub merged-none : (marks : Marks) (index : ℕ) → merged marks (marks_of_one index no_flags) ≡ marks
merged-none marks index = λ i. record {
  written = or-false marks.written i;
  written_by_two = two marks.written_by_two marks.written i;
  read_only = or-false marks.read_only i;
  read_and_written = or-false marks.read_and_written i;
  first = lesser_none marks.first i;
  last = max-zero marks.last i;
  plain = or-false marks.plain i;
  by = λ op. or-false (marks.by op) i;
}
  where
    two : (m w : Bool) → ((m || false) || (w && false)) ≡ m
    two m w = ap (λ b. (m || false) || b) (and-false w) ∙ or-false (m || false) ∙ or-false m

-- an element's marks so far, which the flags that wait bring to some marks
pub record Comes (now : Planes) (flags : IterFlags) (index e : ℕ) (all : Marks) : Type 0 where
  pub so_far : Marks
  pub stand : StandAt now e so_far
  pub rest : merged so_far (marks_of_one index (flags_at flags e)) ≡ all

-- how far the end of an iteration has come: each element's marks are on their way to those with its flags
pub record AllCome (old now : Planes) (start flags : IterFlags) (index : ℕ) : Type 0 where
  pub shape : KeepsShape old now
  pub elements : element_count flags ≡ element_count start
  pub each : (e : ℕ) (marks : Marks) → StandAt old e marks
      → Comes now flags index e (merged marks (marks_of_one index (flags_at start e)))

pub begins : (old : Planes) (start : IterFlags) (index : ℕ) → ArePlanes old → AllCome old old start start index
begins old start index are = record {
  shape = record { whole = are; elements = refl; test = refl };
  elements = refl;
  each = λ e marks stand. record { so_far = marks; stand = stand; rest = refl };
}

-- one element's flags come in
one_here : (now next : Planes) (flags rest : IterFlags) (index e : ℕ) (kept : ElementFlags) (all : Marks)
    → TakesFlags flags rest e kept → Folds now next e index (flags_in kept) → Comes now flags index e all
    → Comes next rest index e all
one_here now next flags rest index e kept all takes folds comes = record {
  so_far = merged comes.so_far (marks_of_one index (flags_in kept));
  stand = folds.here comes.so_far comes.stand;
  rest = ap (λ (f : Flags). merged (merged comes.so_far (marks_of_one index (flags_in kept))) (marks_of_one index f))
      takes.emptied ∙ merged-none _ index
      ∙ ap (λ (f : Flags). merged comes.so_far (marks_of_one index f)) takes.taken ∙ comes.rest;
}

pub one_comes : (old now next : Planes) (start flags rest : IterFlags) (index e : ℕ) (kept : ElementFlags)
    → TakesFlags flags rest e kept → Folds now next e index (flags_in kept) → AllCome old now start flags index
    → AllCome old next start rest index
one_comes old now next start flags rest index e kept takes folds come = record {
  shape = record {
    whole = folds.shape.whole;
    elements = folds.shape.elements ∙ come.shape.elements;
    test = folds.shape.test ∙ come.shape.test;
  };
  elements = takes.elements ∙ come.elements;
  each = λ k marks stand. let comes = come.each k marks stand in elim (cases_eq k e) [
    | inl same ↦
        one_here now next flags rest index k kept _
        (subst (λ x. TakesFlags flags rest x kept) (sym same) takes)
        (subst (λ x. Folds now next x index (flags_in kept)) (sym same) folds) comes
    | inr other ↦ record {
      so_far = comes.so_far;
      stand = folds.others k other comes.so_far comes.stand;
      rest = ap (λ (f : Flags). merged comes.so_far (marks_of_one index f)) (takes.others k other) ∙ comes.rest;
    }
  ];
}

-- at the end all have come
pub all_come : (old now : Planes) (start flags : IterFlags) (index : ℕ) → IsEmptied flags
    → AllCome old now start flags index →
    (e : ℕ) (marks : Marks) → StandAt old e marks → StandAt now e (merged marks (marks_of_one index (flags_at start e)))
all_come old now start flags index emptied come e marks stand =
    let comes = come.each e marks stand in
    subst (λ (m : Marks). StandAt now e m)
    (sym (ap (λ (f : Flags). merged comes.so_far (marks_of_one index f)) (emptied.each e)
    ∙ merged-none comes.so_far index) ∙ comes.rest) comes.stand

-- so planes that stood for iterations stand for one more
pub stand_for_more : (old now : Planes) (start : IterFlags) (index : ℕ) → element_count start ≡ old.elements
    → KeepsShape old now →
    ((e : ℕ) (marks : Marks) → StandAt old e marks
    → StandAt now e (merged marks (marks_of_one index (flags_at start e)))) →
    (visits : ℕ → List Visit) (actions : ℕ → List Action) → AreFlagsOf actions start → StandFor old visits
    → StandFor now (one_more visits index actions)
stand_for_more old now start index elements shape ended visits actions flags stand = record {
  whole = shape.whole;
  marks = λ e h.
      let within : e < old.elements = omega (arith, shape.elements) in
      let inside : e < element_count start = omega (arith, elements) in
      let visit : Visit = record { index = index; actions = actions e } in
      let same : merged (marks_of (visits e)) (marks_of_one index (flags_at start e)) ≡ marks_of (visits e ++ visit
      ∷ []) =
      ap (λ (f : Flags). merged (marks_of (visits e)) (marks_of_one index f)) (flags e inside)
      ∙ ap (λ (m : Marks). merged (marks_of (visits e)) m) (sym (marks_merge.one visit))
      ∙ sym (marks_merge.both (visits e) (visit ∷ [])) in
      subst (λ (m : Marks). StandAt now e m) same (ended e (marks_of (visits e)) (stand.marks e within));
}
