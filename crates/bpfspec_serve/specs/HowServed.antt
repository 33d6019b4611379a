-- How a call that serves an input came out.
use Rattle.std.specs.{Prelude.{◌≡◌, ℕ, List, [], Option, IfSome}, Io.KnownBytes.{Appends}}
use Rattle.bpfspec_command_line.specs.declared.job.Job.{Job}
use Rattle.bpfspec_serve.specs.{declared.serving.Served.{Served}, Answering.{Answers}, Output.{Answer}}
use Rattle.bpfspec_serve.specs.declared.serving.Served.TheVariants as served
use Rattle.bpfspec_output.specs.Streams.{AppendsBeginning, ReadsToEnd}

-- the answer to what a reader had left, where that is known, and else to some input; of which no more than one byte
-- past the limit is read
pub record AnswersReader (job : Job) (old new : Option (List ℕ)) (answer : Answer) : Type 0 where
  pub input : List ℕ
  pub known : IfSome old (λ bytes. input ≡ bytes)
  pub answers : Answers job input answer
  pub read : List ℕ
  pub to_end : ReadsToEnd old new 3145729 read

-- a text was written whole, or a write failed and a beginning of it was written; between the bytes that the writer had
-- taken before and after
pub data HowWritten (text : List ℕ) (wanted result : Served) (writes_failed : ℕ → Type 0)
    (before after : Option (List ℕ)) : Type 0 where
  Written : result ≡ wanted → writes_failed 0 → Appends before after text → HowWritten text wanted result writes_failed
      before after
  Broke_off : result ≡ served.Device → writes_failed 1 → AppendsBeginning before after text
      → HowWritten text wanted result writes_failed before after

-- an answer was written, or the text that memory ran out; or a read failed, and nothing was
pub data HowServed (Is_answer : Answer → Type 0) (memory : List ℕ) (result : Served)
    (reads_failed writes_failed : ℕ → Type 0) (before after : Option (List ℕ)) : Type 0 where
  Answered : (answer : Answer) → Is_answer answer → reads_failed 0
      → HowWritten answer.text answer.served result writes_failed before after
      → HowServed Is_answer memory result reads_failed writes_failed before after
  Out_of_memory : reads_failed 0 → HowWritten memory served.Memory result writes_failed before after
      → HowServed Is_answer memory result reads_failed writes_failed before after
  Read_failed : result ≡ served.Device → reads_failed 1 → writes_failed 0 → Appends before after []
      → HowServed Is_answer memory result reads_failed writes_failed before after
