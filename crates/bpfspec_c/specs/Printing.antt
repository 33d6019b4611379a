-- What the calls that print give. Each has its status, and the contents of the buffer and of the size that is written,
-- before and after it.
use Rattle.std.specs.Prelude.{◌≡◌, ℕ, ℤ, Bool, true, false, nat_le, List, ◌++◌, length, drop, Option, Some, None}
use Rattle.std.specs.Prelude.{IfSome, Result, Ok, Err}
use Rattle.bpfspec_serve.specs.{declared.serving.{Served.{Served}, Answer.{Answer as AnswerGiven}}, Output.{Answer}}
use Rattle.bpfspec_serve.specs.Answering.{answer_of}
use Rattle.bpfspec_serve.specs.declared.serving.Served.TheVariants as served
use Rattle.bpfspec_c.specs.Statuses as status

-- the status of an answer, which says what the program's exit status does: accepted, refused, or no text of its form
abbrev pub answer_status : Served → ℤ
answer_status served.Done = status.done
answer_status served.Refused = status.refused
answer_status served.Text = status.malformed
answer_status served.Memory = status.memory
answer_status served.Device = status.memory

-- an answer is written to the front of a buffer that has room for it, the rest of which stays; else nothing is
abbrev pub WritesIf : (fits : Bool) → Answer → (result : ℤ) → (before after : List ℕ) → Type 0
WritesIf true answer result before after =
    (result ≡ answer_status answer.served) × (after ≡ answer.text ++ drop (length answer.text) before)
WritesIf false answer result before after = (result ≡ status.out_of_range) × (after ≡ before)

-- an answer is given, and its size whether there is room for it or not; or there is none, for want of memory
abbrev pub Gives : Option Answer → (result : ℤ) → (before after : List ℕ) → (size_before size_after : ℕ) → Type 0
Gives None result before after size_before size_after =
    (result ≡ status.memory) × (after ≡ before) × (size_after ≡ size_before)
Gives (Some answer) result before after size_before size_after =
    WritesIf (nat_le (length answer.text) (length before)) answer result before after
    × (size_after ≡ length answer.text)

-- what a call that prints gives: what is printed, unless there is no memory
pub record Prints (Is_printed : Answer → Type 0) (result : ℤ) (before after : List ℕ) (size_before size_after : ℕ)
    : Type 0 where
  pub answer : Option Answer
  pub printed : IfSome answer Is_printed
  pub gives : Gives answer result before after size_before size_after

-- what was printed, if anything was
abbrev pub given : {E : Type 0} → Result AnswerGiven E → Option Answer
given (Ok printed) = Some (answer_of printed)
given (Err error) = None
