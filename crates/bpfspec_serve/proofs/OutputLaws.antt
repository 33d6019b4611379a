-- What inputs can be read.
use Rattle.std.proofs.Common.{◌≡◌, ℕ, ◌≤◌, ◌<◌, Bool, false, true, List, length, if◌then◌else◌, Result, Ok, Err, refl}
use Rattle.std.proofs.Common.{take, Option, Some, None, IfSome, sym, ap, ◌∙◌, subst, nat_eq, arith}
use Rattle.std.{specs.Prelude.{◌++◌, IfOk, codes, nat_lt, nat_le}, proofs.lemmas.Fmt.{decimal_digit}}
use Rattle.std.specs.{declared.alloc.AllocError.{AllocError}, Cmp.Lexicographic.{pointwise, same_text}}
use Rattle.std.{specs.{List.{concat}, Str.{IsUtf8, is_utf8}}, proofs.lemmas.Bool.Decides.{nat_tests}}
use Rattle.std.proofs.lemmas.{Str.{IsUtf8-from_is_utf8, is_utf8-from_IsUtf8}, List.{take_all, length-take}}
use Rattle.array_maps.specs.MapList.{lengths}
use Rattle.bpf_insn_types.specs.{Limits.{AreSizes, sizes_fit}, Program.{Program}}
use Rattle.loop_core_model.specs.{declared.{event.Event.{Event}, loop_test.Test.{Test}}}
use Rattle.bpfspec_output.specs.{Streams.{ReadsToEnd}}
use Rattle.bpfspec_output.specs.declared.refusal.Section.TheVariants as sections
use Rattle.bpfspec_output.specs.declared.refusal.Refusal.TheVariants as refusals
use Rattle.spec_run_replay.specs.{ProgramReplay.{LoopReplay}}
use Rattle.bpf_text_lex.specs.declared.text_error.TextFault.TheVariants as text_faults
use Rattle.bpfspec_serve.specs.HowServed.{AnswersReader, HowServed, Answered, Out_of_memory, Read_failed}
use Rattle.bpfspec_serve.specs.declared.{answer_error.AnswerError.{AnswerError}, serving.Served.{Served}}
use Rattle.bpfspec_serve.specs.{declared.serving.Answer.{Answer as AnswerGiven}, Facts.{AreFacts}}
use Rattle.bpfspec_serve.specs.Answering.{Answers, AreLines, Gives, IsText, answer_of}
use Rattle.bpfspec_serve.specs.Output.{refused, readable, fitting, ByPlan, InMode, OfReadable, OfInput, Answer}
use Rattle.bpfspec_serve.specs.Output.{IsReplayed, ReplaysTo}
use Rattle.bpfspec_serve.specs.Output.{SatisfiesUnlessMemory, AnswerGives, TextOutcome}
use Rattle.bpfspec_serve.specs.declared.answer_error.AnswerError.TheVariants as errors
use Rattle.bpfspec_command_line.specs.declared.job.{Ask.{Ask}, Job.{Job, TheVariants.{Facts, Run, Serve}}}
use Rattle.bpfspec_records.specs.{Printed.{printed}}
use Rattle.bpfspec_records.specs.Fields.{key, number, object, object_end, object_start}
use Rattle.bpfspec_records.specs.declared.records.Record.TheVariants as records

-- an input that isn't too long
short : (input : List ℕ) → length input ≤ 3145728 → nat_lt 3145728 (length input) ≡ false
short input few = grind (arith, nat_tests)

pub reads_text : (input : List ℕ) → length input ≤ 3145728 → IsUtf8 input → Ok input ≡ readable input
reads_text input few utf8 = rw (short input few, is_utf8-from_IsUtf8 input utf8)

not_utf8 : (input : List ℕ) (b : Bool) → is_utf8 input ≡ b → ¬ IsUtf8 input → b ≡ false
not_utf8 input false same other = refl
not_utf8 input true same other = absurd (other (IsUtf8-from_is_utf8 input same))

pub refuses_bytes : (input : List ℕ) → length input ≤ 3145728 → ¬ IsUtf8 input
    → refused (refusals.Text text_faults.Form sections.Unit 0) ≡ readable input
refuses_bytes input few other = rw (short input few, not_utf8 input (is_utf8 input) refl other)

-- values that no maps may have aren't those of a program
pub other_sizes : (values : List (List ℕ)) (sizes : List ℕ) → sizes_fit (lengths values) ≡ false → AreSizes sizes
    → refused refusals.Sizes ≡ fitting sizes (Ok values)
other_sizes values sizes none are = go (pointwise nat_eq (lengths values) sizes) refl
  where
    go : (b : Bool) → pointwise nat_eq (lengths values) sizes ≡ b → refused refusals.Sizes ≡ (if b
        then Ok (concat values) else refused refusals.Sizes)
    go false same = refl
    go true same = absurd cc (sym (subst AreSizes (sym (same_text (lengths values) sizes (sym same))) are) ∙ none)

-- a replay that is refused
pub replay_refused : {X Y : Type 0} (view : X → LoopReplay) (text : Y → List ℕ) (test : Test) (program : Program)
    (argument : ℕ) (words : List ℕ) (schedule : List ℕ × List Event) (error : AnswerError)
    → SatisfiesUnlessMemory view (IsReplayed test program argument words schedule) (Err error)
    → SatisfiesUnlessMemory text (ReplaysTo program argument test (Ok words) (Ok schedule)) (Err error)
replay_refused view text test program argument words schedule (errors.Refused refusal) is =
    (refused refusal, is, refl)
replay_refused view text test program argument words schedule errors.Memory is = tt

-- what is longer than the limit is still longer where it is cut after it
cut_long : (limit n : ℕ) (input : List ℕ) → limit < n → limit < length input → limit < length (take n input)
cut_long limit n input behind long = rw (length-take n input) (grind (arith, behind, long))

too_long : (input : List ℕ) → 3145728 < length input
    → readable input ≡ refused (refusals.Text text_faults.TooLong sections.Unit 0)
too_long input long =
    let past : nat_lt 3145728 (length input) ≡ true = grind (arith, nat_tests) in
    rw past

enough : (n : ℕ) (input : List ℕ) → 3145728 < n → (b : Bool) → nat_le (length input) n ≡ b → readable (take n input)
    ≡ readable input
enough n input behind true short = ap readable (take_all n input (grind (arith, nat_tests, short)))
enough n input behind false long =
    let past : n < length input = grind (arith, nat_tests, long) in
    too_long (take n input) (cut_long 3145728 n input behind (omega arith)) ∙ sym (too_long input (omega arith))

-- one byte past the limit says as much of an input as all of them
reads_enough : (n : ℕ) (input : List ℕ) → 3145728 < n → readable (take n input) ≡ readable input
reads_enough n input behind = enough n input behind (nat_le (length input) n) refl

-- what comes of bytes comes of others that are read alike
text_alike : (Comes : List ℕ → TextOutcome → Type 0) (read input : List ℕ) (answer : Answer)
    → readable read ≡ readable input → IsText Comes read answer → IsText Comes input answer
text_alike Comes read input answer same text = record {
  outcome = text.outcome;
  comes = subst (λ (r : TextOutcome). OfReadable Comes r text.outcome) same text.comes;
  answer_is = text.answer_is;
}

lines_alike : (ask : Ask) (read input : List ℕ) (answer : Answer) → readable read ≡ readable input
    → AreLines ask read answer → AreLines ask input answer
lines_alike ask read input answer same lines = record {
  facts = lines.facts;
  are = subst (λ (r : TextOutcome). AreFacts ask r lines.facts) same lines.are;
  answer_is = rw (← same) lines.answer_is;
}

answers_alike : (job : Job) (read input : List ℕ) (answer : Answer) → readable read ≡ readable input
    → Answers job read answer → Answers job input answer
answers_alike (Serve mode) read input answer same answers = text_alike (InMode mode) read input answer same answers
answers_alike (Run form argument plan) read input answer same answers =
    text_alike (ByPlan form argument plan) read input answer same answers
answers_alike (Facts ask) read input answer same answers = lines_alike ask read input answer same answers

-- the answer to the bytes that were read is the answer to all that the reader had left
pub answers_reader : (job : Job) (old new : Option (List ℕ)) (read : List ℕ) (answer : Answer)
    → IfSome old (λ bytes. read ≡ take 3145729 bytes)
    → ReadsToEnd old new 3145729 read → Answers job read answer → AnswersReader job old new answer
answers_reader job None new read answer same to_end answers = record {
  input = read;
  known = tt;
  answers = answers;
  read = read;
  to_end = to_end;
}
answers_reader job (Some bytes) new read answer same to_end answers = record {
  input = bytes;
  known = refl;
  answers = answers_alike job read bytes answer (ap readable same ∙ reads_enough 3145729 bytes (omega arith)) answers;
  read = read;
  to_end = to_end;
}

-- an answer that says what comes of an input answers it
pub text_answers : {X : Type 0} (view : X → List ℕ) (Comes : List ℕ → TextOutcome → Type 0) (input : List ℕ)
    (outcome : Result X AnswerError) (answer : Answer)
    → SatisfiesUnlessMemory view (OfInput Comes input) outcome → AnswerGives view outcome answer
    → IsText Comes input answer
text_answers view Comes input (Ok x) answer comes given =
    record { outcome = Ok (view x); comes = comes; answer_is = given }
text_answers view Comes input (Err (errors.Refused refusal)) answer comes given =
    record { outcome = refused refusal; comes = comes; answer_is = given }
text_answers view Comes input (Err errors.Memory) answer comes given = absurd given

-- the record where memory ran out
pub memory_record : codes "{\"record\":\"end\",\"status\":4}\n" ≡ printed (records.End 4)
unfolding number object_start object_end printed
memory_record =
    sym (ap (λ (digits : List ℕ). object (codes "end") (key (codes "status") ++ digits))
    (decimal_digit 4 (omega arith)))

-- an answer that was made is an answer
pub given_answers : (job : Job) (read input : List ℕ) (given : Result AnswerGiven AllocError) (answer : Answer)
    → read ≡ input → IfOk given (λ made. Answers job read (answer_of made)) → Gives given answer
    → Answers job input answer
given_answers job read input (Ok made) answer same answers is = rw (is, ← same) answers
given_answers job read input (Err error) answer same answers is = absurd is

-- what is served once an input was read is served
pub served_as : {A B : Answer → Type 0} {result : Served} {reads_failed writes_failed : ℕ → Type 0}
    {before after : Option (List ℕ)} (memory other : List ℕ) → memory ≡ other
    → ((answer : Answer) → A answer → B answer) → reads_failed 0
    → HowServed A memory result (λ n. n ≡ 0) writes_failed before after
    → HowServed B other result reads_failed writes_failed before after
served_as memory other same weaker none (Answered answer is zero written) =
    Answered answer (weaker answer is) none written
served_as memory other same weaker none (Out_of_memory zero written) =
    Out_of_memory none (rw (← same) written)
served_as memory other same weaker none (Read_failed device one zero nothing) = absurd (omega (arith, one))
