-- How an iteration goes on, and how it ends.
use Rattle.std.proofs.Common.{◌≡◌, ℕ, zero, suc, ◌+◌, ◌<◌, ◌≤◌, ◌^◌, List, [], ◌∷◌, ◌++◌, length, Option, Some}
use Rattle.std.{proofs.Common.{None, refl, sym, ap, subst, ◌∙◌, add-one, arith}, specs.Prelude.{slice_get, slice_index}}
use Rattle.std.{specs.List.{sum}, proofs.lemmas.{List.{append-nil}, Option.{slice_get-get_or}}}
use Rattle.array_maps.specs.{Accesses.{Access, words_after, left_by}, MapList.{MapList, AreWords}}
use Rattle.bpf_insn_types.specs.Program.{Program}
use Rattle.bpf_step_model.specs.Iteration.{exited, iteration}
use Rattle.bpf_step_model.specs.{State.{Machine, LoopCall, callback_entry}, Steps.{access_of, GoesOn, EndsBy, Steps}}
use Rattle.bpf_step_model.specs.Step.{Request, StepOutcome, NoStep, Next, Asks, Loops, Refuses, Exits, step}
use Rattle.bpf_step_model.specs.Run.{Ended, Exit, action_of, after_request, followed, after_access, after_step, run}
use Rattle.bpf_step_model.proofs.StateLists.{runs_states}
use Rattle.bpf_verify_sound.specs.Soundness.{IsSoundProgram, AreMapWords, OverApproximatesCall, StepsOverApproximated}
use Rattle.bpf_verify_sound.specs.Soundness.{EachRunEnds, CallbacksExit, most_from}
use Rattle.bpf_verify_sound.proofs.RunLaws.{word-at, words-known}
use Rattle.bpf_step_ir.specs.{declared.ir_op.IrOp.{IrOp}, Plain.{plain_after_request}, PlainRun.{op_of}}
use Rattle.bpf_step_ir.specs.Plain.{Plain, PlainStepOutcome, Goes, Wants, CallsLoop, RefusesLoop, Ends, plain_step}
use Rattle.bpf_step.specs.{Standing.{Simulates, SimulatesStep}, Laws.{BeginsCallback, EntrySimulates}}
use Rattle.bpf_step.proofs.Limits.{few_steps}
use Rattle.bpf_step_plain.specs.declared.outcome.Outcome.{Outcome, TheVariants.{On, End}}
use Rattle.bpf_step_plain.specs.{Machine.{plain}, Moving.{DidStep}}
use Rattle.loop_core_trace.specs.declared.{touch.Touch.{Touch}, journal.Note.{Note}, slots.Slots.{Slots}}
use Rattle.loop_core_trace.specs.{Touches.{touched_by, no_slots, slots_here, noted}, Journals.{Undoes}}
use Rattle.loop_core_trace.specs.{Places.{ComesTo, AccessesAt}, Traced.{AreSlots, IsTraceOf}}
use Rattle.loop_core_trace.proofs.{TouchLaws.{seen_as, AsTouched, as_touched}, SlotLaws.{no_slots_yet, slots_next}}
use Rattle.loop_core_trace.proofs.Underway.{EndsByExit, ends_by_exit, later, steps_more, requested, Underway, Grounds}
use Rattle.loop_core_trace.proofs.{Underway.{over, simulated}, JournalLaws.{undoes_next}}

-- maps as a store
abbrev pub words_of : MapList → List ℕ
words_of maps = maps.words

abbrev pub map_effect : MapList → Access → MapList → Type 0
map_effect old access new = new ≡ record { sizes = old.sizes; words = words_after access old.words }

module _ {program : Program} {ops : List IrOp} (grounds : Grounds program ops) {call : LoopCall} {index element : ℕ}
    {first : MapList} {steps : ℕ} {p : Plain} {maps : MapList} {journal : List Note} {slots : Slots}
    (under : Underway program call index element first steps p maps journal slots) where
  abbrev Then : ℕ → Plain → MapList → List Note → Slots → Type 0
  Then count = Underway program call index element first count

  -- one step fewer is left
  abbrev Fewer : StepOutcome → Type 0
  Fewer move = (less : ℕ) × (steps + 1 + less ≡ 4096)
      × EndsByExit (after_step (run program less) under.machine.slot move maps.words)

  fewer : (move : StepOutcome) → step program under.machine ≡ move → Fewer move
  fewer move moves = go under.left under.all under.ends
    where
      go : (left : ℕ) → steps + left ≡ 4096 → EndsByExit (run program left under.machine maps.words) → Fewer move
      go zero all ends = absurd ends
      go (suc less) all ends = (
        less,
        omega (arith, all),
        subst (λ (o : StepOutcome). EndsByExit (after_step (run program less) under.machine.slot o maps.words)) moves
            ends,
      )

  -- it is at its slot
  abbrev comes : ComesTo program call index first.words p.slot under.accesses
  comes = record {
    count = steps;
    machine = under.machine;
    between = maps.words;
    steps = under.came;
    slot_is = sym under.stands.slot;
  }

  -- without an access
  went : (m : Machine) (q : Plain) → step program under.machine ≡ Next m → Simulates program.sizes m q
      → Then (steps + 1) q maps journal slots
  went m q moves stands =
      let less = fewer (Next m) moves in
      let goes : GoesOn (step program under.machine) maps.words [] m maps.words =
      subst (λ (o : StepOutcome). GoesOn o maps.words [] m maps.words) (sym moves) (refl, refl, refl) in
      record {
        machine = m;
        accesses = under.accesses ++ [];
        came = rw add-one (steps_more program steps (callback_entry call index) first.words under.accesses
            under.machine maps.words [] m maps.words under.came goes);
        known = subst (StepsOverApproximated program) moves (over grounds under);
        stands = stands;
        fit = under.fit;
        left = less.0;
        all = less.1;
        ends = later [] (run program less.0 m maps.words) less.2;
        slots_are = rw (append-nil under.accesses) under.slots_are;
        undoes = under.undoes;
      }

  -- with one
  abbrev AfterTouch : Option Touch → Plain → MapList → Type 0
  AfterTouch touched q after =
      Then (steps + 1) q after (noted touched maps.words journal) (slots_here touched element p.slot slots)

  asked : (e : ℕ) (request : Request) (m : Machine) (q : Plain) → step program under.machine ≡ Asks e request m
      → Simulates program.sizes m q →
      AfterTouch (Some (seen_as e (action_of request (slice_index maps.words e))))
      (plain_after_request request (slice_index maps.words e) q) (record {
        sizes = maps.sizes;
        words = words_after (access_of e request (slice_index maps.words e)) maps.words;
      })
  asked e request m q moves stands =
      let word : ℕ = slice_index maps.words e in
      let access : Access = access_of e request word in
      let next : Machine = after_request request word m in
      let known : StepsOverApproximated program (Asks e request m) =
      subst (StepsOverApproximated program) moves (over grounds under) in
      let inside : e < length maps.words = (let count = under.fit.count in let below = known.0 in
      omega (arith, count, below)) in
      let there : slice_get maps.words e ≡ Some word = slice_get-get_or maps.words e 0 inside in
      let small : word < 2 ^ 64 = word-at maps.words e word under.fit.fit there in
      let goes : GoesOn (step program under.machine) maps.words (access ∷ []) next (words_after access maps.words) =
      subst (λ (o : StepOutcome). GoesOn o maps.words (access ∷ []) next (words_after access maps.words)) (sym moves)
      (word, there, refl, refl, refl) in
      let less = fewer (Asks e request m) moves in
      let made : AccessesAt program call index first.words p.slot under.accesses access =
      record { comes = comes; next = next; after = words_after access maps.words; makes = goes } in
      record {
        machine = next;
        accesses = under.accesses ++ access ∷ [];
        came = rw add-one (steps_more program steps (callback_entry call index) first.words under.accesses
            under.machine maps.words (access ∷ []) next (words_after access maps.words) under.came goes);
        known = (known.1 word small).0;
        stands = requested program.sizes request word m q stands;
        fit = words-known program maps.words e word request under.fit there (known.1 word small).1;
        left = less.0;
        all = less.1;
        ends = later (access ∷ []) (run program less.0 next (words_after access maps.words))
            (subst (λ (o : Option ℕ). EndsByExit (after_access (run program less.0) e request m maps.words o)) there
            less.2);
        slots_are = slots_next program call index first.words element under.accesses access slots p.slot made
            under.slots_are;
        undoes = undoes_next journal maps first _ (record { element = e; word = word })
            (left_by (action_of request word) word) under.undoes inside refl refl refl;
      }

  -- the iteration that returned
  iterated : (m : Machine) (accesses : List Access) (words : List ℕ) (ret : ℕ) → steps < 4096
      → Steps program steps (callback_entry call index) first.words accesses m words →
      step program m ≡ Exits ret → iteration program 4096 call index first.words
      ≡ Ended (record { ret = ret; steps = suc steps; accesses = accesses; words = words })
  unfolding iteration
  iterated m accesses words ret few came moves =
      let ends : EndsBy m.slot (step program m) (Exit ret) = subst (λ (o : StepOutcome). EndsBy m.slot o (Exit ret))
      (sym moves) refl in
      let within : suc steps ≤ 4096 = omega (arith, few) in
      ap (followed exited) (runs_states program steps 4096 within (callback_entry call index) first.words accesses m
      words (Exit ret) came ends)

  -- what an operation leaves, by its outcome: the next is to be done, or the trace is whole; and it calls no loop
  abbrev pub Leaves : Outcome → (registers frame caller : List ℕ) → MapList → List Note → Slots → Type 0
  Leaves (On slot) registers frame caller after notes seen =
      Then (steps + 1) (plain slot registers frame caller) after notes seen
  Leaves (End ret) registers frame caller after notes seen =
      IsTraceOf program call index first.words element (record { ret = ret; exit = p.slot; slots = seen })
      × Undoes notes after first
  Leaves outcome registers frame caller after notes seen = ⊥

  returned : (n ret : ℕ) (after : MapList) → step program under.machine ≡ Exits ret → n ≡ ret → after ≡ maps
      → steps < 4096 →
      IsTraceOf program call index first.words element (record { ret = n; exit = p.slot; slots = slots })
      × Undoes journal after first
  returned n ret after moves same left few = (
    record {
      iterated = record { ret = ret; steps = suc steps; accesses = under.accesses; words = maps.words };
      ended = iterated under.machine under.accesses maps.words ret few under.came moves;
      ret = same;
      returns = record {
        before = under.accesses;
        comes = comes;
        returns = moves ∙ ap Exits (sym same);
      };
      slots = under.slots_are;
    },
    subst (λ (l : MapList). Undoes journal l first) (sym left) under.undoes,
  )

  module _ (few : steps < 4096) (registers frame caller : List ℕ) (after : MapList) where
    by_move : (move : StepOutcome) (plain_move : PlainStepOutcome) (touched : Option Touch) (outcome : Outcome)
        → step program under.machine ≡ move → SimulatesStep program.sizes move plain_move
        → StepsOverApproximated program move → AsTouched plain_move touched
        → DidStep words_of map_effect p.slot plain_move maps outcome registers frame caller after
        → Leaves outcome registers frame caller after (noted touched maps.words journal)
        (slots_here touched element p.slot slots)
    by_move NoStep plain_move touched outcome moves sim known agrees did = absurd known
    by_move (Next m) (Goes q) None (On slot) moves sim known agrees did =
        subst (λ (r : Plain). AfterTouch None r after) (sym did.0)
        (subst (λ (l : MapList). AfterTouch None q l) (sym did.1) (went m q moves sim))
    by_move (Asks e request m) (Wants f wish q) (Some touch) (On slot) moves sim known agrees did =
        let same : step program under.machine ≡ Asks f wish m =
        moves ∙ ap (λ (k : ℕ). Asks k request m) (sym sim.0) ∙ ap (λ (r : Request). Asks f r m) (sym sim.1) in
        subst (λ (r : Plain). AfterTouch (Some touch) r after) (sym did.0)
        (rw (did.1, ← agrees (slice_index maps.words f)) (asked f wish m q same sim.2))
    by_move (Exits ret) (Ends k) None (End n) moves sim known agrees did =
        returned n ret after moves (did.0 ∙ sim) did.1 few
    by_move (Loops made m) (CallsLoop callback n ctx q) touched outcome moves sim known agrees did =
        absurd (fewer (Loops made m) moves).2
    by_move (Refuses call m) (RefusesLoop told q) touched outcome moves sim known agrees did =
        absurd (fewer (Refuses call m) moves).2
    by_move (Next m) (Goes q) (Some touch) outcome moves sim known agrees did = absurd agrees
    by_move (Asks e request m) (Wants f wish q) None outcome moves sim known agrees did = absurd agrees
    by_move (Exits ret) (Ends k) (Some touch) outcome moves sim known agrees did = absurd agrees
    by_move (Next m) (Goes q) None outcome moves sim known agrees did = absurd did
    by_move (Asks e request m) (Wants f wish q) (Some touch) outcome moves sim known agrees did = absurd did
    by_move (Exits ret) (Ends k) None outcome moves sim known agrees did = absurd did
    by_move move plain_move touched outcome moves sim known agrees did = absurd sim

  -- after its access was noted, the operation at its slot was done
  pub left_by_op : (op : IrOp) → op_of ops p.slot ≡ op → (touched : Option Touch) (words : List ℕ) (notes : List Note)
      (seen : Slots) → touched ≡ touched_by op p.registers → words ≡ maps.words → notes ≡ noted touched words journal
      → seen ≡ slots_here touched element p.slot slots → steps < 4096 →
      (outcome : Outcome) (registers frame caller : List ℕ) (after : MapList)
      → DidStep words_of map_effect p.slot (plain_step op p) maps outcome registers frame caller after
      → Leaves outcome registers frame caller after notes seen
  left_by_op op is touched words notes seen same there notes_are seen_are few outcome registers frame caller after did =
      let all_noted : notes ≡ noted (touched_by op p.registers) maps.words journal = cc in
      let all_seen : seen ≡ slots_here (touched_by op p.registers) element p.slot slots = cc in
      rw (all_noted, all_seen) (by_move few registers frame caller after (step program under.machine) (plain_step op p)
      (touched_by op p.registers) outcome refl (simulated grounds under op is) (over grounds under) (as_touched op p)
      did)

-- before its first operation
pub begun : EntrySimulates → EachRunEnds → CallbacksExit → (program : Program) → IsSoundProgram program
    → (call : LoopCall) → OverApproximatesCall program call → (index : ℕ) → index < call.n →
    (element : ℕ) (maps : MapList) → maps.sizes ≡ program.sizes → length maps.words ≡ sum maps.sizes
    → AreWords maps.words → (p : Plain) → BeginsCallback call index p → (journal : List Note) →
    journal ≡ [] → (slots : Slots) → slots ≡ no_slots → Underway program call index element maps 0 p maps journal slots
begun entry ends exits program sound call known index below element maps sizes count small p begins journal fresh slots
    unseen =
    let m : Machine = callback_entry call index in
    let over_entry = known.entries index below in
    let fit : AreMapWords program maps.words = record { count = count ∙ ap sum sizes; fit = small } in
    record {
      machine = m;
      accesses = [];
      came = (refl, refl, refl);
      known = over_entry;
      stands = entry.callback program.sizes call index p begins;
      fit = fit;
      left = 4096;
      all = omega arith;
      ends = ends_by_exit program (most_from program call.callback) (run program 4096 m maps.words)
          (ends program sound 4096 m over_entry maps.words fit (few_steps program call.callback sound.accepted))
          (exits program sound 4096 m over_entry refl maps.words fit);
      slots_are = subst (AreSlots program call index maps.words element []) (sym unseen)
          (no_slots_yet program call index maps.words element);
      undoes = subst (λ (ns : List Note). Undoes ns maps maps) (sym fresh) (record {
        within = tt;
        words = refl;
        sizes = refl;
      });
    }
