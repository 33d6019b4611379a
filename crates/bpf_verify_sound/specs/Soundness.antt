-- The soundness of the verifier: an accepted program's machine is never stuck.
use Rattle.std.specs.Prelude.{◌≡◌, ℕ, ℤ, pos, negsuc, ◌+◌, ◌<◌, ◌≤◌, ◌^◌, true, List, length, Option, Some, None}
use Rattle.std.specs.{Prelude.{is_some}, List.{AllByRecursion, sum}}
use Rattle.bpf_insn_types.specs.{Values.{AreInsns}, Program.{Program, slot_count, function_of}}
use Rattle.array_maps.specs.Accesses.{left_by}
use Rattle.bpf_verify_model.specs.{Accepted.{Accepted}, Count.{longest, function_start, count_of}}
use Rattle.bpf_verify_model.specs.Inflow.{state_before}
use Rattle.bpf_step_model.specs.{State.{Machine, LoopCall, main_entry, callback_entry}, Iteration.{Iterated, iteration}}
use Rattle.bpf_step_model.specs.Step.{StepOutcome, NoStep, Next, Asks, Loops, Refuses, Exits, step}
use Rattle.bpf_step_model.specs.Run.{BoundedResult, Ended, Stuck, Unfinished, StopReason, Exit, Loop, Refused}
use Rattle.bpf_step_model.specs.{Run.{RunSegment, after_request, action_of, run}, LoopInOrder.{Looped, loop_in_order}}
use Rattle.bpf_step_model.specs.ProgramInOrder.{LoopMade, Finished, resumed, program_in_order}
use Rattle.bpf_step_model.specs.SoundMachine.{IsStart, SoundMachine, SoundCall}
use Rattle.bpf_verify_sound.specs.{Containment.{ContainedBefore}, KnownStates.{IfReachedWellFormed}}

-- an accepted program of instructions whose fields fit
pub record IsSoundProgram (program : Program) : Type 0 where
  pub accepted : Accepted program
  pub fits : AreInsns program.insns

-- as many words as the sizes say, each below 2 ^ 64
pub record AreMapWords (program : Program) (words : List ℕ) : Type 0 where
  pub count : length words ≡ sum program.sizes
  pub fit : AllByRecursion (λ word. word < 2 ^ 64) words

-- a machine of a program that the abstract state before its slot contains
pub record OverApproximates (program : Program) (m : Machine) : Type 0 where
  pub sound : SoundMachine program m
  pub contained : ContainedBefore program m

-- a valid loop call, whose iterations begin within the abstract states
pub record OverApproximatesCall (program : Program) (call : LoopCall) : Type 0 where
  pub sound : SoundCall program call
  pub entries : (index : ℕ) → index < call.n → OverApproximates program (callback_entry call index)

-- main waits for an answer, and goes on within the abstract states whatever the answer is
abbrev pub OverApproximatesOnceResumed : Program → Machine → Type 0
OverApproximatesOnceResumed program next = (answer : ℕ) → answer < 2 ^ 64
    → OverApproximates program (resumed next answer)

-- there is a step, and each machine that it leads to is contained before its slot, whatever word below 2 ^ 64 is at
-- the element
abbrev pub StepContained : Program → StepOutcome → Type 0
StepContained program NoStep = ⊥
StepContained program (Next next) = ContainedBefore program next
StepContained program (Asks element request next) =
    (element < sum program.sizes)
    × ((word : ℕ) → word < 2 ^ 64 → ContainedBefore program (after_request request word next))
StepContained program (Loops call next) =
    ((index : ℕ) → index < call.n → ContainedBefore program (callback_entry call index))
    × ((answer : ℕ) → answer < 2 ^ 64 → ContainedBefore program (resumed next answer))
StepContained program (Refuses call next) = ContainedBefore program next
StepContained program (Exits ret) = Unit {0}

-- a step keeps a machine sound, and the words of the maps below 2 ^ 64
abbrev pub StepSound : Program → StepOutcome → Type 0
StepSound program NoStep = Unit {0}
StepSound program (Next next) = SoundMachine program next
StepSound program (Asks element request next) =
    (word : ℕ) → word < 2 ^ 64 → SoundMachine program (after_request request word next)
    × (left_by (action_of request word) word < 2 ^ 64)
StepSound program (Loops call next) = SoundCall program call × ((answer : ℕ) → answer < 2 ^ 64
    → SoundMachine program (resumed next answer))
StepSound program (Refuses call next) = SoundMachine program next
StepSound program (Exits ret) = ret < 2 ^ 64

-- the law of machines of real runs, of an accepted program or not: main and each iteration of a valid loop call start
-- as such, and each step keeps them
pub record MachinesStaySound : Type 0 where
  pub main : (program : Program) (argument : ℕ) → argument < 2 ^ 64 → SoundMachine program (main_entry argument)
  pub callbacks : (program : Program) (call : LoopCall) → SoundCall program call → (index : ℕ) → index < call.n
      → SoundMachine program (callback_entry call index)
  pub steps : (program : Program) → AreInsns program.insns → (m : Machine) → SoundMachine program m
      → StepSound program (step program m)

-- progress and preservation: there is a step, and each machine that it leads to is over-approximated, whatever word
-- below 2 ^ 64 is at the element; and what is left there is such a word again
abbrev pub StepsOverApproximated : Program → StepOutcome → Type 0
StepsOverApproximated program NoStep = ⊥
StepsOverApproximated program (Next next) = OverApproximates program next
StepsOverApproximated program (Asks element request next) =
    (element < sum program.sizes)
    × ((word : ℕ) → word < 2 ^ 64 → OverApproximates program (after_request request word next)
    × (left_by (action_of request word) word < 2 ^ 64))
StepsOverApproximated program (Loops call next) = OverApproximatesCall program call
    × OverApproximatesOnceResumed program next
StepsOverApproximated program (Refuses call next) = OverApproximates program next
StepsOverApproximated program (Exits ret) = ret < 2 ^ 64

-- the law of one step
abbrev pub ProgressAndPreservation : Type 0
ProgressAndPreservation = (program : Program) → IsSoundProgram program → (m : Machine) → OverApproximates program m
    → StepsOverApproximated program (step program m)

-- the abstract state before any slot is of eleven registers and 512 bytes, and its ranges are spans
abbrev pub EachStateIsWellFormed : Type 0
EachStateIsWellFormed = (program : Program) → IsSoundProgram program → (slot : ℕ)
    → IfReachedWellFormed (state_before program slot)

-- main starts within the abstract states, whatever its argument is; of callbacks each loop call says it
abbrev pub EntryIsOverApproximated : Type 0
EntryIsOverApproximated = (program : Program) → IsSoundProgram program → (argument : ℕ) → argument < 2 ^ 64
    → OverApproximates program (main_entry argument)

-- a run isn't stuck, and where it pauses at a turn, it goes on within the abstract states from there, over words that
-- are such again
abbrev pub StopIsOverApproximated : Program → StopReason → Type 0
StopIsOverApproximated program (Exit ret) = ret < 2 ^ 64
StopIsOverApproximated program (Loop call next) = OverApproximatesCall program call
    × OverApproximatesOnceResumed program next
StopIsOverApproximated program (Refused slot call next) = OverApproximates program next

abbrev pub RunIsOverApproximated : Program → BoundedResult RunSegment → Type 0
RunIsOverApproximated program Stuck = ⊥
RunIsOverApproximated program Unfinished = Unit {0}
RunIsOverApproximated program (Ended s) = StopIsOverApproximated program s.turn × AreMapWords program s.words

abbrev pub NoRunIsStuck : Type 0
NoRunIsStuck = (program : Program) → IsSoundProgram program → (bound : ℕ) (m : Machine) → OverApproximates program m →
    (words : List ℕ) → AreMapWords program words → RunIsOverApproximated program (run program bound m words)

-- the most instructions from a slot on, over all jumps
abbrev pub most_from : Program → ℕ → ℕ
most_from program slot = longest program.insns (slot_count program.insns) slot

-- the most that may come after a turn
abbrev pub most_after : Program → StopReason → ℕ
most_after program (Exit ret) = 0
most_after program (Loop call next) = most_from program next.slot
most_after program (Refused slot call next) = most_from program next.slot

-- a run ends, and what it took with what may still come is at most n instructions
abbrev pub EndsWithin : Program → ℕ → BoundedResult RunSegment → Type 0
EndsWithin program count Stuck = ⊥
EndsWithin program count Unfinished = ⊥
EndsWithin program count (Ended s) = (0 < s.steps) × (s.steps + most_after program s.turn ≤ count)

-- so each run does, from its slot on
abbrev pub EachRunEnds : Type 0
EachRunEnds = (program : Program) → IsSoundProgram program → (bound : ℕ) (m : Machine) → OverApproximates program m
    → (words : List ℕ) → AreMapWords program words →
    most_from program m.slot ≤ bound → EndsWithin program (most_from program m.slot) (run program bound m words)

-- a callback's run ends at an exit alone, with 0 or 1
abbrev pub IsExit : StopReason → Type 0
IsExit (Exit ret) = ret ≤ 1
IsExit (Loop call next) = ⊥
IsExit (Refused slot call next) = ⊥

abbrev pub EndsAtExit : BoundedResult RunSegment → Type 0
EndsAtExit Stuck = Unit {0}
EndsAtExit Unfinished = Unit {0}
EndsAtExit (Ended s) = IsExit s.turn

abbrev pub CallbacksExit : Type 0
CallbacksExit = (program : Program) → IsSoundProgram program → (bound : ℕ) (m : Machine) → OverApproximates program m
    → is_some m.caller ≡ true →
    (words : List ℕ) → AreMapWords program words → EndsAtExit (run program bound m words)

-- the function in which a callback starts has its start there
abbrev pub EachCallbackStartsItsFunction : Type 0
EachCallbackStartsItsFunction = (program : Program) (slot : ℕ) → IsStart program slot
    → function_start program.insns (function_of program.insns slot) ≡ slot

-- no function's worst-case instruction count is more than the program's slots
abbrev pub EachCountIsSmall : Type 0
EachCountIsSmall = (program : Program) (function : ℕ) → count_of program.insns function ≤ slot_count program.insns

-- the worst-case instruction count of the callback that a loop call names
abbrev pub callback_count : Program → LoopCall → ℕ
callback_count program call = count_of program.insns (function_of program.insns call.callback)

-- an iteration ends within n instructions with 0 or 1, and leaves words of the maps again
abbrev pub IterationEnds : Program → ℕ → BoundedResult Iterated → Type 0
IterationEnds program count Stuck = ⊥
IterationEnds program count Unfinished = ⊥
IterationEnds program count (Ended it) = (it.ret ≤ 1) × (it.steps ≤ count) × AreMapWords program it.words

-- so does a loop in order, and it answers at most its number of iterations
abbrev pub LoopEnds : Program → LoopCall → BoundedResult Looped → Type 0
LoopEnds program call Stuck = ⊥
LoopEnds program call Unfinished = ⊥
LoopEnds program call (Ended l) = (l.answer ≤ call.n) × AreMapWords program l.words

-- a loop call that main made, where it was valid: it was within the abstract states, and was answered at most its
-- number of iterations
abbrev pub IsAnswered : Program → ℤ → Option LoopCall → Type 0
IsAnswered program answer None = Unit {0}
IsAnswered program (pos answer) (Some call) = OverApproximatesCall program call × (answer ≤ call.n)
IsAnswered program (negsuc _) (Some call) = ⊥

-- and it was made over words of the maps
pub record OverApproximatesLoop (program : Program) (made : LoopMade) : Type 0 where
  pub words : AreMapWords program made.words
  pub answered : IsAnswered program made.answer made.call

-- a program in order ends with a word, each loop call that it made is within the abstract states, and it leaves words
-- of the maps again
abbrev pub ProgramEnds : Program → BoundedResult Finished → Type 0
ProgramEnds program Stuck = ⊥
ProgramEnds program Unfinished = ⊥
ProgramEnds program (Ended f) = (f.ret < 2 ^ 64) × AllByRecursion (OverApproximatesLoop program) f.loops
    × AreMapWords program f.words

-- it isn't stuck, and ends so or isn't finished yet
abbrev pub EndsIfFinished : Program → BoundedResult Finished → Type 0
EndsIfFinished program Stuck = ⊥
EndsIfFinished program Unfinished = Unit {0}
EndsIfFinished program (Ended f) = ProgramEnds program (Ended f)

-- each of them ends: main up to its first turn, with what may still come, within main's count; an iteration within its
-- callback's; a loop at a bound that isn't less than its callback's count, and a program at one that isn't less than
-- its slots; at any bound a program isn't stuck
pub record EachProgramEnds : Type 0 where
  pub main : (program : Program) → IsSoundProgram program → (bound : ℕ) → count_of program.insns 0 ≤ bound
      → (argument : ℕ) → argument < 2 ^ 64 →
      (words : List ℕ) → AreMapWords program words → EndsWithin program (count_of program.insns 0)
      (run program bound (main_entry argument) words)
  pub iterations : (program : Program) → IsSoundProgram program → (call : LoopCall) → OverApproximatesCall program call
      → (bound : ℕ) → callback_count program call ≤ bound →
      (index : ℕ) → index < call.n → (words : List ℕ) → AreMapWords program words
      → IterationEnds program (callback_count program call) (iteration program bound call index words)
  pub loops : (program : Program) → IsSoundProgram program → (call : LoopCall) → OverApproximatesCall program call
      → (bound : ℕ) → callback_count program call ≤ bound →
      (words : List ℕ) → AreMapWords program words → LoopEnds program call (loop_in_order program bound call words)
  pub programs : (program : Program) → IsSoundProgram program → (bound : ℕ) → slot_count program.insns ≤ bound
      → (argument : ℕ) → argument < 2 ^ 64 →
      (words : List ℕ) → AreMapWords program words → ProgramEnds program (program_in_order program bound argument words)
  pub never_stuck : (program : Program) → IsSoundProgram program → (bound argument : ℕ) → argument < 2 ^ 64 →
      (words : List ℕ) → AreMapWords program words
      → EndsIfFinished program (program_in_order program bound argument words)
