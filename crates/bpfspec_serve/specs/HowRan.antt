-- How the program came out.
use Rattle.std.specs.Prelude.{◌≡◌, ℕ, List, Option}
use Rattle.bpfspec_command_line.specs.{CommandLine.{WordsAskFor, bpfspec_app}, Faults.{AsksForHelp}}
use Rattle.bpfspec_command_line.specs.declared.job.{Job.{Job}, Request.{Request}}
use Rattle.bpfspec_serve.specs.declared.{program_end.ProgramEnd.{ProgramEnd}, serving.Served.{Served}}
use Rattle.bpfspec_serve.specs.{Answering.{memory_text}, HowServed.{HowServed, HowWritten}, Output.{Answer}}
use Rattle.bpfspec_serve.specs.declared.program_end.ProgramEnd.TheVariants as ends
use Rattle.bpfspec_serve.specs.declared.serving.Served.TheVariants as served
use Rattle.bpfspec_output.specs.Refusals.{memory_line}

-- the words of a command line ask for a job, by which an input is served; or for help or the version, whose text is
-- written; or there is no memory for them; or they ask for nothing, and nothing is written to the output
pub data HowRan (Is_answer : Job → Answer → Type 0) (end : ProgramEnd) (reads_failed writes_failed : ℕ → Type 0)
    (before after : Option (List ℕ)) : Type 0 where
  Serves : (words : List (List ℕ)) (request : Request) (result : Served) → WordsAskFor words request
      → end ≡ ends.Served result
      → HowServed (Is_answer request.job) (memory_text request.job) result reads_failed writes_failed before after
      → HowRan Is_answer end reads_failed writes_failed before after
  Helps : (words : List (List ℕ)) (text : List ℕ) (result : Served) → AsksForHelp bpfspec_app words
      → end ≡ ends.Served result → HowWritten text served.Done result writes_failed before after
      → HowRan Is_answer end reads_failed writes_failed before after
  No_memory : (result : Served) → end ≡ ends.Served result
      → HowWritten memory_line served.Memory result writes_failed before after
      → HowRan Is_answer end reads_failed writes_failed before after
  No_job : end ≡ ends.Usage → before ≡ after → HowRan Is_answer end reads_failed writes_failed before after
