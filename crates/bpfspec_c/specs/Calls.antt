-- What the calls of the library give. Each has the handle's machine before and after it, its status, and the
-- contents of what it writes to, before and after it.
use Rattle.std.specs.Prelude.{◌≡◌, ℕ, ℤ, Bool, true, false, if◌then◌else◌, ◌==◌, List, length, slice_get, Option, Some}
use Rattle.std.specs.{Prelude.{None, Result, Ok, Err, Box}, declared.alloc.Global.{Global}}
use Rattle.bpf_insn_types.specs.Outcome.{MatchesUnlessMemory}
use Rattle.loop_core_model.specs.declared.verdict.LoopReport.{LoopReport}
use Rattle.bpfspec_machine.specs.{declared.load_error.LoadError.{LoadError}, Loading.{load_refusal}}
use Rattle.bpfspec_machine.specs.Machines.{MachineState, MachineRan, RanEach, count_at}
use Rattle.bpfspec_machine.specs.Elements.{has_element, element_of, with_element_if, has_words, words_of, with_words_if}
use Rattle.bpfspec_c.specs.declared.{refusal.Refusal.{Refusal}, loop_line.LoopLine.{LoopLine}}
use Rattle.bpfspec_c.specs.Refusals.{error_status, told_after}
use Rattle.bpfspec_c.specs.Statuses as status

-- what came of an empty handle that a machine was made for, or not: it holds the machine; or it is empty, and the
-- reason is reported
abbrev pub Holds : Result (Box MachineState Global) LoadError → (new : Option MachineState) → (result : ℤ)
    → (before after : Refusal) → Type 0
Holds (Ok machine) new result before after =
    (result ≡ status.done) × (new ≡ Some machine.value) × (after ≡ before)
Holds (Err error) new result before after =
    (result ≡ error_status error) × (new ≡ None) × (after ≡ told_after error before)

-- `meaning` is the machine that is to be made, or the refusal. Memory alone may come in place of either
pub record LoadedAs (meaning : Result MachineState LoadError) (new : Option MachineState) (result : ℤ)
    (before after : Refusal) : Type 0 where
  pub outcome : Result (Box MachineState Global) LoadError
  pub meant : MatchesUnlessMemory load_refusal (λ machine. machine.value) outcome meaning
  pub holds : Holds outcome new result before after

-- what a load gives: a handle that holds a machine keeps it
abbrev pub Loads : (meaning : Result MachineState LoadError) → (old new : Option MachineState) → (result : ℤ)
    → (before after : Refusal) → Type 0
Loads meaning (Some machine) new result before after =
    (result ≡ status.held) × (new ≡ Some machine) × (after ≡ before)
Loads meaning None new result before after = LoadedAs meaning new result before after

-- what a run gives: the answer, and the machine with what the program left
pub record Ran (argument : ℕ) (old : MachineState) (new : Option MachineState) (result : ℤ) (answer : ℕ) : Type 0 where
  pub done : result ≡ status.done
  pub machine : MachineState
  pub held : new ≡ Some machine
  pub ran : MachineRan argument old machine answer

abbrev pub Runs : (argument : ℕ) → (old new : Option MachineState) → (result : ℤ) → (before after : ℕ) → Type 0
Runs argument None new result before after = (result ≡ status.empty) × (new ≡ None) × (after ≡ before)
Runs argument (Some machine) new result before after = Ran argument machine new result after

-- what runs in turn give, one for each argument: the answers, and the machine with what the last run left
pub record RanAll (arguments : List ℕ) (old : MachineState) (new : Option MachineState) (result : ℤ) (answers : List ℕ)
    : Type 0 where
  pub done : result ≡ status.done
  pub machine : MachineState
  pub held : new ≡ Some machine
  pub ran : RanEach arguments old machine answers

-- nothing runs where there aren't as many answers as arguments
abbrev pub RunsIf : (fits : Bool) → (arguments : List ℕ) → (old : MachineState) → (new : Option MachineState)
    → (result : ℤ) → (before after : List ℕ) → Type 0
RunsIf true arguments machine new result before after = RanAll arguments machine new result after
RunsIf false arguments machine new result before after =
    (result ≡ status.out_of_range) × (new ≡ Some machine) × (after ≡ before)

abbrev pub RunsEach : (arguments : List ℕ) → (old new : Option MachineState) → (result : ℤ)
    → (before after : List ℕ) → Type 0
RunsEach arguments None new result before after = (result ≡ status.empty) × (new ≡ None) × (after ≡ before)
RunsEach arguments (Some machine) new result before after =
    RunsIf (length before == length arguments) arguments machine new result before after

-- what there is, or nothing
abbrev pub Answers : {X : Type 0} → Option X → (result : ℤ) → (before after : X) → Type 0
Answers None result before after = (result ≡ status.out_of_range) × (after ≡ before)
Answers (Some value) result before after = (result ≡ status.done) × (after ≡ value)

-- what a question about a machine gives, which stays as it is
abbrev pub Tells : {X : Type 0} → (MachineState → Option X) → (old new : Option MachineState) → (result : ℤ)
    → (before after : X) → Type 0
Tells question None new result before after = (result ≡ status.empty) × (new ≡ None) × (after ≡ before)
Tells question (Some machine) new result before after =
    Answers (question machine) result before after × (new ≡ Some machine)

-- the value of an element
abbrev pub value_at : (map index : ℕ) → MachineState → Option ℕ
value_at map index machine = element_of machine.maps map index

-- how many elements a map has
abbrev pub size_at : (map : ℕ) → MachineState → Option ℕ
size_at map machine = slice_get machine.maps.sizes map

-- the values of all elements of a map that has this many
abbrev pub words_at : (map count : ℕ) → MachineState → Option (List ℕ)
words_at map count machine =
    if has_words machine.maps.sizes map count then Some (words_of machine.maps map) else None

-- the worst-case instruction count of a function
abbrev pub most_at : (function : ℕ) → MachineState → Option ℕ
most_at function machine = count_at machine.program function

-- the slot and the answer of a loop call
abbrev pub loop_line : Option LoopReport → Option LoopLine
loop_line None = None
loop_line (Some report) = Some (record { slot = report.slot; answer = report.answer })

-- those of a loop call of the last run, by its number
abbrev pub loop_at : (number : ℕ) → MachineState → Option LoopLine
loop_at number machine = loop_line (slice_get machine.loops number)

-- what setting an element gives
abbrev pub Sets : (map index value : ℕ) → (old new : Option MachineState) → (result : ℤ) → Type 0
Sets map index value None new result = (result ≡ status.empty) × (new ≡ None)
Sets map index value (Some machine) new result =
    (result ≡ (if has_element machine.maps.sizes map index then status.done else status.out_of_range))
    × (new ≡ Some (with_element_if (has_element machine.maps.sizes map index) machine map index value))

-- what setting all elements of a map gives
abbrev pub SetsWords : (map : ℕ) → (values : List ℕ) → (old new : Option MachineState) → (result : ℤ) → Type 0
SetsWords map values None new result = (result ≡ status.empty) × (new ≡ None)
SetsWords map values (Some machine) new result =
    (result ≡ (if has_words machine.maps.sizes map (length values) then status.done else status.out_of_range))
    × (new ≡ Some (with_words_if (has_words machine.maps.sizes map (length values)) machine map values))
