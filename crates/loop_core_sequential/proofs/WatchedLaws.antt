-- Loops that are watched while they run in order.
use Rattle.std.proofs.Common.{◌≡◌, ℕ, suc, ◌+◌, ◌-◌, ◌<◌, ◌≤◌, Bool, true, false, ◌||◌, ◌⊎◌, inl, inr, List, length}
use Rattle.std.proofs.Common.{slice_index, Some, None, refl, sym, ap, ◌∙◌, arith}
use Rattle.std.proofs.lemmas.Bool.{both_ways, cases_Bool, cases_lt, or_cases, or_left, or_parts, or_right}
use Rattle.array_maps.specs.{Accesses.{Access, SawEach, actions_at, words_after_all}, MapList.{MapList}}
use Rattle.array_maps.proofs.ElementLaws.{element_after_all, length-words_after_all}
use Rattle.bpf_insn_types.specs.Program.{Program}
use Rattle.bpf_step_model.specs.{State.{LoopCall}, Run.{Ended}, Iteration.{Iterated, iteration}}
use Rattle.bpf_step_model.proofs.Endings.{ended_same}
use Rattle.loop_core_model.{specs.Actions.{writes, exposed}, proofs.OneElement.{sealed_saw, unwritten_left}}
use Rattle.loop_core_model.{proofs.RunAgain.{iteration_local}, specs.LoopByEffects.{EndsInZero}}
use Rattle.loop_core_sequential.specs.{Rests.{RanOn}, Watched.{WentWatched, RanAndPasses}}
use Rattle.loop_core_sequential.specs.Watched.{accesses_if_ended, accesses_at, NoneReadsWritten}
use Rattle.loop_core_sequential.proofs.InOrder.{RanOne, stayed, went_both, next, breaks, ran_all}
use Rattle.loop_core_sequential.proofs.WatchedFlow.{none_scanned, last_scanned, passes_flow}

-- what makes a test true that is false is false too
not_so : (a b : Bool) → (a ≡ true → b ≡ true) → b ≡ false → a ≡ false
not_so false b makes off = refl
not_so true b makes off = sym (makes refl) ∙ off

-- one of the iterations from an index up to another writes an element
pub record WritesAt (index to : ℕ) (accesses : ℕ → List Access) (e : ℕ) : Type 0 where
  pub i : ℕ
  pub low : index ≤ i
  pub below : i < to
  pub wrote : writes (actions_at e (accesses i)) ≡ true

-- an iteration over other words where it makes the same accesses
abbrev over_words : List ℕ → Iterated → Iterated
over_words words it = record {
  ret = it.ret;
  steps = it.steps;
  accesses = it.accesses;
  words = words_after_all it.accesses words;
}

module _ {program : Program} {call : LoopCall} {index : ℕ} {start now : MapList} {written : ℕ → Bool}
    (w : WentWatched program call index start now written) where
  -- an iteration that reads nothing noted as written is the same on the start words: it saw there what it saw now
  it_again : (at : ℕ) (it : Iterated) → iteration program 4096 call at now.words ≡ Ended it
      → ((e : ℕ) → e < length start.words → written e ≡ true → exposed (actions_at e it.accesses) ≡ false)
      → iteration program 4096 call at start.words ≡ Ended (over_words start.words it)
  it_again at it told unread =
      let here = iteration_local program 4096 call at in
      here.again now.words start.words it told (sym w.count) (λ e inside.
      let saw : SawEach (actions_at e it.accesses) (slice_index now.words e) =
      here.saw now.words it told e (rw w.count inside) in
      elim (cases_Bool (written e)) [
        | inl was ↦ sealed_saw (actions_at e it.accesses) (slice_index now.words e) (slice_index start.words e)
            (unread e inside was) saw
        | inr other ↦ rw (w.kept e inside other) at saw
      ])

  pub on_start : (at : ℕ) (accesses : List Access) → EndsInZero program 4096 call at now.words accesses
      → ((e : ℕ) → e < length start.words → written e ≡ true → exposed (actions_at e accesses) ≡ false)
      → EndsInZero program 4096 call at start.words accesses
  on_start at accesses on unread = record {
    iterated = over_words start.words on.iterated;
    ended = it_again at on.iterated on.ended (rw on.made unread);
    returned = on.returned;
    made = on.made;
  }

  module _ (to : ℕ) (accesses : ℕ → List Access)
      (among : (e earlier later : ℕ) → index ≤ earlier → earlier < later → later < to
      → writes (actions_at e (accesses earlier)) ≡ true → exposed (actions_at e (accesses later)) ≡ false)
      (unread : (e i : ℕ) → e < length start.words → index ≤ i → i < to → written e ≡ true
      → exposed (actions_at e (accesses i)) ≡ false) where
    -- iterations more that read nothing that an earlier one writes
    unread_more : ((i : ℕ) → index ≤ i → i < to → accesses_at program call start.words i ≡ accesses i)
        → NoneReadsWritten program call start.words to
    unread_more told e earlier later inside order below wrote = elim (cases_lt later index) [
      | inl old ↦ w.unread e earlier later inside order old wrote
      | inr late ↦ rw (told later late below) (elim (cases_lt earlier index) [
        | inl before ↦ unread e later inside late below (w.marked e earlier inside before wrote)
        | inr also ↦ among e earlier later also order below (rw (told earlier also (omega arith)) at wrote)
      ])
    ]

    -- which go on
    pub more_watched : (new : MapList) (written' : ℕ → Bool)
        → ((i : ℕ) → index ≤ i → i < to → EndsInZero program 4096 call i start.words (accesses i))
        → RanOn program call index to now new → length new.words ≡ length now.words
        → ((e : ℕ) → e < length start.words → written' e ≡ false → slice_index new.words e ≡ slice_index now.words e)
        → ((e : ℕ) → e < length start.words → written e ≡ true → written' e ≡ true)
        → ((i e : ℕ) → index ≤ i → i < to → e < length start.words → writes (actions_at e (accesses i)) ≡ true
        → written' e ≡ true)
        → ((e : ℕ) → e < length start.words → written' e ≡ true → (written e ≡ true) ⊎ WritesAt index to accesses e)
        → WentWatched program call to start new written'
    more_watched new written' on went many stays grows notes only = record {
      went = went_both program call 0 index to start now new w.went went;
      count = many ∙ w.count;
      each = λ i below. elim (cases_lt i index) [
        | inl old ↦ w.each i old
        | inr late ↦ rw (told i late below) (on i late below)
      ];
      unread = unread_more told;
      marked = λ e i inside below wrote. elim (cases_lt i index) [
        | inl old ↦ grows e inside (w.marked e i inside old wrote)
        | inr late ↦ notes i e late below inside (rw (told i late below) at wrote)
      ];
      only = λ e inside was. elim (only e inside was) [
        | inl old ↦
            let before = w.only e inside old in
            record { earlier = before.earlier; below = omega arith; wrote = before.wrote }
        | inr late ↦
            record { earlier = late.i; below = late.below; wrote = rw (told late.i late.low late.below) late.wrote }
      ];
      kept = λ e inside off.
          stays e inside off ∙ w.kept e inside (not_so (written e) (written' e) (grows e inside) off);
    }
      where
        told : (i : ℕ) → index ≤ i → i < to → accesses_at program call start.words i ≡ accesses i
        told i low high = ap accesses_if_ended (on i low high).ended ∙ (on i low high).made

  module _ {ret : ℕ} {new : MapList} (below : index < call.n) (one : RanOne program call index now ret new)
      (unread : (e : ℕ) → e < length start.words → written e ≡ true → exposed (actions_at e one.it.accesses) ≡ false)
    where
      none_among : (e earlier later : ℕ) → index ≤ earlier → earlier < later → later < index + 1
          → writes (actions_at e one.it.accesses) ≡ true → exposed (actions_at e one.it.accesses) ≡ false
      none_among e earlier later low order high wrote = absurd (omega arith)

      -- what it leaves
      left : new.words ≡ words_after_all one.it.accesses now.words
      left =
          let here = iteration_local program 4096 call index in
          sym one.words ∙ ap (λ (it : Iterated). it.words) (ended_same one.it (over_words now.words one.it)
          (sym one.told ∙ here.again now.words now.words one.it one.told refl (here.saw now.words one.it one.told)))

      -- one iteration more, which goes on
      pub one_watched : (written' : ℕ → Bool) → ret ≡ 0
          → ((e : ℕ) → e < length start.words → written' e ≡ (written e || writes (actions_at e one.it.accesses)))
          → WentWatched program call (index + 1) start new written'
      one_watched written' nought is =
          more_watched (index + 1) (λ i. one.it.accesses) none_among (λ e i inside low high. unread e inside) new
          written'
          (λ i low high.
          let same : i ≡ index = omega arith in
          rw same (on_start index one.it.accesses
          (record { iterated = one.it; ended = one.told; returned = one.returned ∙ nought; made = refl }) unread))
          (next (stayed program call index now (omega arith)) one nought below)
          (ap length left ∙ length-words_after_all one.it.accesses now.words)
          (λ e inside off.
          ap (λ (words : List ℕ). slice_index words e) left
          ∙ element_after_all one.it.accesses now.words e (rw w.count inside)
          ∙ unwritten_left (actions_at e one.it.accesses) (slice_index now.words e)
          (or_parts (written e) (writes (actions_at e one.it.accesses)) (sym (is e inside) ∙ off)).1)
          (λ e inside was. is e inside ∙ or_left (written e) (writes (actions_at e one.it.accesses)) was)
          (λ i e low high inside wrote.
          is e inside ∙ or_right (written e) (writes (actions_at e one.it.accesses)) wrote)
          (λ e inside was. elim (or_cases (written e) (writes (actions_at e one.it.accesses))
          (sym (is e inside) ∙ was)) [
            | inl old ↦ inl old
            | inr wrote ↦ inr (record { i = index; low = omega arith; below = omega arith; wrote = wrote })
          ])

      -- or breaks: the loop ends
      pub break_watched : ret ≡ 1 → RanAndPasses program call start new (index + 1)
      break_watched is =
          let again = it_again index one.it one.told unread in
          record {
            ran = ran_all program call call.n start new (Some (index + 1)) (index + 1) refl
                (breaks w.went one call.n below is) refl;
            passes = passes_flow program call start.words index (suc (call.n - (index + 1))) 1 (index + 1) w.each
                (omega arith) refl
                (last_scanned program call start.words (call.n - (index + 1)) index (over_words start.words one.it)
                again (one.returned ∙ is))
                (unread_more (index + 1) (λ i. one.it.accesses) none_among (λ e i inside low high. unread e inside)
                (λ i low high. let same : i ≡ index = omega arith in rw (same, again) refl));
          }

  -- all iterations are done: the loop ends
  pub all_watched : index ≡ call.n → RanAndPasses program call start now index
  all_watched all = record {
    ran = ran_all program call index start now None index all w.went refl;
    passes = passes_flow program call start.words index 0 0 index w.each (omega arith) (omega arith)
        (none_scanned program call start.words index) w.unread;
  }

-- before the first iteration
pub begun : (program : Program) (call : LoopCall) (start : MapList) (written : ℕ → Bool)
    → ((e : ℕ) → written e ≡ false) → WentWatched program call 0 start start written
begun program call start written none = record {
  went = stayed program call 0 start (omega arith);
  count = refl;
  each = λ earlier below. absurd (omega arith);
  unread = λ e earlier later inside order below wrote. absurd (omega arith);
  marked = λ e earlier inside below wrote. absurd (omega arith);
  only = λ e inside was. absurd (both_ways (written e) (none e) was);
  kept = λ e inside off. refl;
}
