-- The answer to an input.
use Rattle.std.specs.{Prelude.{◌≡◌, ℕ, List, Result, Ok, Err}, List.{flat_map}, String.{string_bytes}}
use Rattle.std.specs.declared.alloc.AllocError.{AllocError}
use Rattle.bpfspec_command_line.specs.declared.job.{Ask.{Ask}, Job.{Job, TheVariants.{Serve, Run, Facts}}}
use Rattle.bpfspec_output.specs.Refusals.{memory_line}
use Rattle.bpfspec_records.specs.{declared.records.Record.{Record}, Printed.{printed}}
use Rattle.bpfspec_records.specs.declared.records.Record.TheVariants as records
use Rattle.bpfspec_serve.specs.{declared.serving.Answer.{Answer as AnswerGiven}, Facts.{AreFacts, verify_served}}
use Rattle.bpfspec_serve.specs.Output.{Answer, InMode, ByPlan, OfInput, TextOutcome, readable, text_answer}

-- the text of what comes of an input
pub record IsText (Comes : List ℕ → TextOutcome → Type 0) (input : List ℕ) (answer : Answer) : Type 0 where
  pub outcome : TextOutcome
  pub comes : OfInput Comes input outcome
  pub answer_is : answer ≡ text_answer outcome

-- the lines of an input's facts, served as `verify` serves the input
pub record AreLines (ask : Ask) (input : List ℕ) (answer : Answer) : Type 0 where
  pub facts : List Record
  pub are : AreFacts ask (readable input) facts
  pub answer_is : answer ≡ record { served = verify_served ask.form (readable input); text = flat_map printed facts }

-- the answer to an input, as a job asks
abbrev pub Answers : Job → (input : List ℕ) → Answer → Type 0
Answers (Serve mode) input answer = IsText (InMode mode) input answer
Answers (Run form argument plan) input answer = IsText (ByPlan form argument plan) input answer
Answers (Facts ask) input answer = AreLines ask input answer

-- what is written where there is no memory for a job
abbrev pub memory_text : Job → List ℕ
memory_text (Serve mode) = memory_line
memory_text (Run form argument plan) = memory_line
memory_text (Facts ask) = printed (records.End 4)

-- an answer that was made
abbrev pub answer_of : AnswerGiven → Answer
answer_of given = record { served = given.served; text = string_bytes given.text }

-- the answer that was made, unless memory ran out
abbrev pub Gives : Result AnswerGiven AllocError → Answer → Type 0
Gives (Ok given) answer = answer ≡ answer_of given
Gives (Err error) answer = ⊥
