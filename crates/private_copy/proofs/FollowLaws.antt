-- A copy follows the accesses of the iteration under way.
use Rattle.std.proofs.Common.{◌≡◌, ◌≢◌, ℕ, ◌+◌, ◌<◌, List, [], ◌∷◌, ◌++◌, length, sym, ◌∙◌, ap, inl, inr, arith}
use Rattle.std.{proofs.{Common.{append_assoc}, lemmas.List.{append-nil}}, specs.Prelude.{slice_index, ◌==◌}}
use Rattle.std.proofs.lemmas.Bool.{cases_Bool, eqb-true, eqb-false}
use Rattle.array_maps.specs.{Accesses.{Access, Action, actions_at, words_after}, Store.{Effects}}
use Rattle.array_maps.proofs.{ElementLaws.{element_after_all}, StoreLaws.{words_after_all-more}}
use Rattle.loop_core_model.specs.{Committed.{last_value}, Conflict.{at_element}, Flags.{flags_of, flagged, kind_of}}
use Rattle.loop_core_model.proofs.{FlagLaws.{flags_follow_kinds}, Turns.{actions_at-append}}
use Rattle.shadow_marks.specs.Iteration.{flags_at}
use Rattle.private_copy.specs.{declared.private.Private.{Private}, Reductions.{reduction_of}}
use Rattle.private_copy.specs.{Touched.{with_page, page_of}, Shown.{copy_of}, CopyLaw.{AccessEffect, AccessesFollow}}
use Rattle.private_copy.specs.Copies.{PrivateCopy, Accessed, CopyRecordsWithin}
use Rattle.private_copy.proofs.IterationLaws.{last_more, reduction_more, pages_more, at_last}

-- what holds of an element's actions after one access more: of one more of them where the access is of the element
one_more : (P : List Action → Type 0) (e : ℕ) (accesses : List Access) (access : Access)
    → (access.element ≡ e → P (actions_at e accesses ++ access.action ∷ []))
    → (e ≢ access.element → P (actions_at e accesses)) → P (actions_at e (accesses ++ access ∷ []))
one_more P e accesses access here other = rw (actions_at-append e accesses (access ∷ [])) (
    elim (cases_Bool (access.element == e)) [
      | inl same ↦ rw same (here (eqb-true access.element e same))
      | inr differs ↦ rw (differs, append-nil (actions_at e accesses)) (other
          (λ same. eqb-false access.element e differs (sym same)))
    ])

-- one access more
step : (old new : PrivateCopy) (runs : List (List Access)) (accesses : List Access) (access : Access) →
    CopyRecordsWithin old runs accesses → Accessed old access new → CopyRecordsWithin new runs (accesses ++ access ∷ [])
step old new runs accesses access within done = record {
  under_way = done.under_way ∙ within.under_way;
  words = rw (done.start, words_after_all-more accesses access old.start) (done.words
      ∙ ap (words_after access) within.words);
  flags = λ e inside.
      let was = within.flags e (rw done.elements at inside) in
      one_more (λ actions. flags_at new.flags e ≡ flags_of actions) e accesses access
      (λ same. (rw same at done.mark) ∙ ap (λ f. flagged f (kind_of access.action)) was
      ∙ sym (flags_follow_kinds.next (actions_at e accesses) access.action))
      (λ other. done.other_marks e other ∙ was);
  remembers = record {
    last = λ e inside.
        let at : e < length old.start = rw done.start at inside in
        let word : ℕ = slice_index old.start e in
        let was : old.last e ≡ last_value (at_element e runs ++ actions_at e accesses ∷ []) word =
        within.remembers.last e at ∙ ap (λ its. last_value its word) (at_last e runs accesses) in
        let saw : slice_index old.words e ≡ _ = ap (λ ws. slice_index ws e) within.words
        ∙ element_after_all accesses old.start e at in
        rw (done.start, at_last e runs (accesses ++ access ∷ []))
        (one_more (λ actions. new.last e ≡ last_value (at_element e runs ++ actions ∷ []) word) e accesses access
        (λ same. (rw same at done.last) ∙ rw (was, saw) (sym (last_more (at_element e runs) (actions_at e accesses)
        access.action word)))
        (λ other. done.other_lasts e other ∙ was));
    reduction = λ e inside.
        let was : old.reduction e ≡ reduction_of (at_element e runs ++ actions_at e accesses ∷ []) =
        within.remembers.reduction e (rw done.start at inside) ∙ ap reduction_of (at_last e runs accesses) in
        rw (at_last e runs (accesses ++ access ∷ []))
        (one_more (λ actions. new.reduction e ≡ reduction_of (at_element e runs ++ actions ∷ [])) e accesses access
        (λ same. (rw same at done.reduction) ∙ rw was (sym (reduction_more (at_element e runs) (actions_at e accesses)
        access.action)))
        (λ other. done.other_reductions e other ∙ was));
    pages = done.pages ∙ ap (λ pages. with_page pages (page_of access.element)) within.remembers.pages
        ∙ sym (pages_more runs accesses access);
  };
}

-- and accesses in turn
records : (old new : Private) (runs : List (List Access)) (before more : List Access) →
    CopyRecordsWithin (copy_of old) runs before → Effects AccessEffect old more new
    → CopyRecordsWithin (copy_of new) runs (before ++ more)
records old new runs before [] within same = rw (append-nil before, same) within
records old new runs before (access ∷ more) within effects =
    rw (← append_assoc before (access ∷ []) more)
    (records effects.0 new runs (before ++ access ∷ []) more
    (step (copy_of old) (copy_of effects.0) runs before access within effects.1) effects.2)

start : (old new : Private) (more : List Access) → Effects AccessEffect old more new
    → (copy_of new).start ≡ (copy_of old).start
start old new [] same = ap (λ (p : Private). (copy_of p).start) same
start old new (access ∷ more) effects = start effects.0 new more effects.2 ∙ effects.1.start

begun : (old new : Private) (more : List Access) → Effects AccessEffect old more new
    → (copy_of new).begun ≡ (copy_of old).begun
begun old new [] same = ap (λ (p : Private). (copy_of p).begun) same
begun old new (access ∷ more) effects = begun effects.0 new more effects.2 ∙ effects.1.begun

serves : (old new : Private) (more : List Access) → Effects AccessEffect old more new
    → (copy_of new).serves + length more ≡ (copy_of old).serves
serves old new [] same = let h = ap (λ (p : Private). (copy_of p).serves) same in omega (arith, h)
serves old new (access ∷ more) effects = let h = serves effects.0 new more effects.2 in let k = effects.1.serves in
    omega (arith, h, k)

pub accesses_follow : AccessesFollow
accesses_follow = record { records = records; start = start; begun = begun; serves = serves }
