-- With a greater bound nothing changes but that what was unfinished may end.
use Rattle.std.proofs.Common.{ℕ, zero, suc, ◌+◌, ◌≤◌, Bool, true, false, inl, inr, List, [], ◌∷◌, Option, Some, None}
use Rattle.std.{proofs.Common.{refl, sym, ap, subst, arith}, specs.Prelude.{slice_get, if◌then◌else◌, ◌==◌}}
use Rattle.array_maps.specs.Accesses.{Access, words_after}
use Rattle.bpf_insn_types.specs.Program.{Program}
use Rattle.bpf_step_model.specs.State.{Machine, LoopCall, callback_entry, main_entry}
use Rattle.bpf_step_model.specs.Step.{Request, StepOutcome, NoStep, Next, Asks, Loops, Refuses, Exits, step}
use Rattle.bpf_step_model.specs.Run.{BoundedResult, Ended, Stuck, Unfinished, StopReason, Exit, Loop, Refused}
use Rattle.bpf_step_model.specs.Run.{RunSegment, action_of, after_request, mapped, followed, with_first_step}
use Rattle.bpf_step_model.specs.{Run.{after_access, after_step, run}, Iteration.{Iterated, exited, iteration}}
use Rattle.bpf_step_model.specs.LoopInOrder.{Looped, behind, loop_from, loop_in_order}
use Rattle.bpf_step_model.specs.ProgramInOrder.{Finished, with_loop, resumed, after_loop, after_stop, after_segment}
use Rattle.bpf_step_model.specs.{ProgramInOrder.{main_from, program_in_order}, Bounds.{Extends, GreaterBoundAgrees}}

-- a changed value
pub mapped_extends : {A B : Type 0} (change : A → B) {e g : BoundedResult A} → Extends e g
    → Extends (mapped change e) (mapped change g)
mapped_extends change (inl h) = inl (ap (mapped change) h)
mapped_extends change (inr h) = inr (ap (mapped change) h)

-- what goes on from a value
followed_same : {A B : Type 0} (low high : A → BoundedResult B) → ((value : A) → Extends (low value) (high value))
    → (e : BoundedResult A) →
    Extends (followed low e) (followed high e)
followed_same low high each (Ended value) = each value
followed_same low high each Stuck = inr refl
followed_same low high each Unfinished = inl refl

pub followed_extends : {A B : Type 0} (low high : A → BoundedResult B)
    → ((value : A) → Extends (low value) (high value)) → (e g : BoundedResult A) → Extends e g →
    Extends (followed low e) (followed high g)
followed_extends low high each e g (inl h) = inl (ap (followed low) h)
followed_extends low high each e g (inr h) = subst (λ k. Extends (followed low e) (followed high k)) (sym h)
    (followed_same low high each e)

-- what goes on from a machine, with a lower bound and a greater one
abbrev pub ExtendsEach : (Machine → List ℕ → BoundedResult RunSegment) → (Machine → List ℕ → BoundedResult RunSegment)
    → Type 0
ExtendsEach low high = (m : Machine) (words : List ℕ) → Extends (low m words) (high m words)

access_extends : (low high : Machine → List ℕ → BoundedResult RunSegment) → ExtendsEach low high
    → (element : ℕ) (request : Request) (next : Machine) (words : List ℕ) (o : Option ℕ) →
    Extends (after_access low element request next words o) (after_access high element request next words o)
access_extends low high each element request next words None = inr refl
access_extends low high each element request next words (Some word) =
    let access : Access = record { element = element; action = action_of request word } in
    mapped_extends (with_first_step (access ∷ [])) (each (after_request request word next) (words_after access words))

move_extends : (low high : Machine → List ℕ → BoundedResult RunSegment) → ExtendsEach low high
    → (slot : ℕ) (move : StepOutcome) (words : List ℕ) →
    Extends (after_step low slot move words) (after_step high slot move words)
move_extends low high each slot NoStep words = inr refl
move_extends low high each slot (Next next) words = mapped_extends (with_first_step []) (each next words)
move_extends low high each slot (Asks element request next) words = access_extends low high each element request next
    words (slice_get words element)
move_extends low high each slot (Loops call next) words = inr refl
move_extends low high each slot (Refuses call next) words = inr refl
move_extends low high each slot (Exits ret) words = inr refl

pub run_extends : (program : Program) (low high : ℕ) → low ≤ high → (m : Machine) (words : List ℕ)
    → Extends (run program low m words) (run program high m words)
run_extends program zero high h m words = inl refl
run_extends program (suc low) zero h m words = absurd (omega arith)
run_extends program (suc low) (suc high) h m words =
    move_extends (run program low) (run program high) (run_extends program low high (omega arith)) m.slot
    (step program m) words

pub iteration_extends : (program : Program) (low high : ℕ) → low ≤ high → (call : LoopCall) (index : ℕ) (words : List ℕ)
    →
    Extends (iteration program low call index words) (iteration program high call index words)
unfolding iteration
iteration_extends program low high h call index words =
    followed_extends exited exited (λ s. inr refl) (run program low (callback_entry call index) words)
    (run program high (callback_entry call index) words)
    (run_extends program low high h (callback_entry call index) words)

behind_extends : (low high : List ℕ → BoundedResult Looped) → ((words : List ℕ) → Extends (low words) (high words))
    → (index : ℕ) (it : Iterated) →
    Extends (behind low index it) (behind high index it)
behind_extends low high each index it = go (it.ret == 1) _
  where
    go : (one : Bool) (broken : BoundedResult Looped) → Extends (if one then broken else low it.words) (if one
        then broken else high it.words)
    go true broken = inr refl
    go false broken = each it.words

loop_from_extends : (program : Program) (low high : ℕ) → low ≤ high → (call : LoopCall) (left index : ℕ)
    (words : List ℕ) →
    Extends (loop_from program low call left index words) (loop_from program high call left index words)
loop_from_extends program low high h call zero index words = inr refl
loop_from_extends program low high h call (suc left) index words =
    followed_extends (behind (loop_from program low call left (index + 1)) index)
    (behind (loop_from program high call left (index + 1)) index)
    (behind_extends (loop_from program low call left (index + 1)) (loop_from program high call left (index + 1))
    (loop_from_extends program low high h call left (index + 1)) index)
    (iteration program low call index words) (iteration program high call index words) (iteration_extends program low
    high h call index words)

pub loop_extends : (program : Program) (low high : ℕ) → low ≤ high → (call : LoopCall) (words : List ℕ) →
    Extends (loop_in_order program low call words) (loop_in_order program high call words)
loop_extends program low high h call words = loop_from_extends program low high h call call.n 0 words

-- main, between its loop calls
module _ (program : Program) (low high : ℕ) (h : low ≤ high) (short long : Machine → List ℕ → BoundedResult Finished)
    (each : (m : Machine) (words : List ℕ) → Extends (short m words) (long m words)) where
  after_loop_extends : (call : LoopCall) (next : Machine) (words : List ℕ) (l : Looped)
      → Extends (after_loop short call next words l) (after_loop long call next words l)
  after_loop_extends call next words l = mapped_extends (with_loop _) (each (resumed next l.answer) l.words)

  after_turn_extends : (turn : StopReason) (words : List ℕ) → Extends (after_stop program low short turn words)
      (after_stop program high long turn words)
  after_turn_extends (Exit ret) words = inr refl
  after_turn_extends (Loop call next) words =
      followed_extends (after_loop short call next words) (after_loop long call next words)
      (after_loop_extends call next words)
      (loop_in_order program low call words) (loop_in_order program high call words) (loop_extends program low high h
      call words)
  after_turn_extends (Refused slot call next) words = mapped_extends (with_loop _) (each next words)

  after_stretch_extends : (s : RunSegment) → Extends (after_segment program low short s)
      (after_segment program high long s)
  after_stretch_extends s = after_turn_extends s.turn s.words

main_extends : (program : Program) (low high : ℕ) → low ≤ high → (few many : ℕ) → few ≤ many
    → (m : Machine) (words : List ℕ) →
    Extends (main_from program low few m words) (main_from program high many m words)
main_extends program low high h zero many k m words = inl refl
main_extends program low high h (suc few) zero k m words = absurd (omega arith)
main_extends program low high h (suc few) (suc many) k m words =
    followed_extends (after_segment program low (main_from program low few))
    (after_segment program high (main_from program high many))
    (after_stretch_extends program low high h (main_from program low few) (main_from program high many)
    (main_extends program low high h few many (omega arith)))
    (run program low m words) (run program high m words) (run_extends program low high h m words)

pub program_extends : (program : Program) (low high : ℕ) → low ≤ high → (argument : ℕ) (words : List ℕ) →
    Extends (program_in_order program low argument words) (program_in_order program high argument words)
unfolding program_in_order
program_extends program low high h argument words = main_extends program low high h low high h (main_entry argument)
    words

pub greater_bound_agrees : GreaterBoundAgrees
greater_bound_agrees = record {
  runs = run_extends;
  iterations = iteration_extends;
  loops = loop_extends;
  programs = program_extends;
}
