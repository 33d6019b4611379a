-- What isn't in the pages that a block touched.
use Rattle.std.proofs.Common.{◌≡◌, ℕ, ◌<◌, true, false, eqb, List, [], ◌∷◌, ◌++◌, length, None, inl, inr}
use Rattle.std.proofs.Common.{refl, ap, arith, eq-eqb}
use Rattle.std.proofs.{lemmas.{Bool.{cases_Bool, eqb-true}, List.Folds.{list_any-append}}, Math.Bool.{or-true}}
use Rattle.array_maps.specs.Accesses.{Access, actions_at}
use Rattle.bpf_insn_types.specs.Program.{Program}
use Rattle.bpf_step_model.specs.State.{LoopCall}
use Rattle.loop_core_model.specs.{declared.loop_test.Test.{Test}, Actions.{writes, joined}, Committed.{last_that}}
use Rattle.loop_core_model.specs.{Conflict.{at_element}, LeastBreak.{accesses_of_each}}
use Rattle.loop_core_model.proofs.Turns.{actions_at-append}
use Rattle.private_copy.specs.Touched.{page_of, has_page, with_page, pages_after}
use Rattle.loop_core_block.specs.{Blocks.{BlockOf}, Ran.{RecordsRun}}
use Rattle.loop_core_gather.specs.Held.{IsUntouchedElement}

-- a page that is there stays
stays_there : (pages : List ℕ) (accesses : List Access) (page : ℕ) → has_page pages page ≡ true
    → has_page (pages_after pages accesses) page ≡ true
stays_there pages [] page has = has
stays_there pages (access ∷ accesses) page has =
    stays_there (with_page pages (page_of access.element)) accesses page (kept (page_of access.element))
  where
    kept : (p : ℕ) → has_page (with_page pages p) page ≡ true
    kept p = elim (cases_Bool (has_page pages p)) [
      | inl there ↦ rw there has
      | inr new ↦ rw (new, list_any-append (λ other. eqb page other) pages (p ∷ []), has) refl
    ]

-- and the page of an access is
placed : (pages : List ℕ) (p : ℕ) → has_page (with_page pages p) p ≡ true
placed pages p = elim (cases_Bool (has_page pages p)) [
  | inl there ↦ rw there there
  | inr new ↦ rw (new, list_any-append (λ other. eqb p other) pages (p ∷ []), eq-eqb p p refl)
      (or-true (has_page pages p))
]

-- so no access was made of an element whose page isn't there
none_made : (e : ℕ) (pages : List ℕ) (accesses : List Access) → has_page (pages_after pages accesses) (page_of e)
    ≡ false → actions_at e accesses ≡ []
none_made e pages [] absent = refl
none_made e pages (access ∷ accesses) absent = elim (cases_Bool (eqb access.element e)) [
  | inl is ↦
      let there = stays_there (with_page pages (page_of access.element)) accesses (page_of access.element)
      (placed pages (page_of access.element)) in
      let gone = rw (← eqb-true access.element e is) at absent in
      absurd (cc)
  | inr other ↦ rw other (none_made e (with_page pages (page_of access.element)) accesses absent)
]

-- two lists of which nothing is left
none_of : {A : Type 0} (xs ys : List A) → xs ++ ys ≡ [] → (xs ≡ []) × (ys ≡ [])
none_of [] ys none = (refl, none)
none_of (x ∷ xs) ys none = absurd (cc)

-- what is remembered of iterations that did nothing there
nothing_done : (e : ℕ) (runs : List (List Access)) → actions_at e (joined runs) ≡ []
    → (last_that writes (at_element e runs) ≡ None) × (joined (at_element e runs) ≡ [])
nothing_done e [] none = (refl, refl)
nothing_done e (run ∷ runs) none =
    let both = none_of (actions_at e run) (actions_at e (joined runs)) (rw actions_at-append at none) in
    let later = nothing_done e runs both.1 in
    (rw (both.0, later.0) refl, rw (both.0, later.1) refl)

-- a block that was run kept nothing at an element whose page it didn't touch
pub untouched : (test : Test) (program : Program) (call : LoopCall) (words : List ℕ) (b : BlockOf) (e : ℕ)
    → RecordsRun test program call words b → e < length words →
    has_page b.copy.pages (page_of e) ≡ false → IsUntouchedElement e b
untouched test program call words b e ran inside absent =
    let remembers = ran.copy.remembers in
    let long : length b.copy.start ≡ length words = ap length ran.start in
    let within : e < length b.copy.start = omega arith in
    let none = nothing_done e (accesses_of_each ran.ran)
    (none_made e [] (joined (accesses_of_each ran.ran)) (rw remembers.pages at absent)) in
    record {
      last_value = rw (remembers.last e within, none.0) refl;
      partial = rw (remembers.reduction e within, none.1) refl;
    }
