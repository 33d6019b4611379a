-- The facts of an input, of their parts.
use Rattle.std.proofs.Common.{◌≡◌, ℕ, ◌+◌, ◌==◌, false, List, [], ◌∷◌, ◌++◌, length, map, Option, None, Some}
use Rattle.std.proofs.Common.{Result, Ok, Err, refl, ◌∙◌, subst, append_assoc, arith}
use Rattle.std.{specs.List.{range_with_len}, proofs.lemmas.List.FromFn.{map-range_with_len_more}}
use Rattle.bpf_insn_types.specs.Program.{Program}
use Rattle.bpf_text.specs.EventsText.{events_text}
use Rattle.spec_run_replay.specs.ProgramReplay.{LoopReplay}
use Rattle.bpf_verify_model.specs.Accepted.{BrokenRule, first_fault}
use Rattle.bpfspec_command_line.specs.declared.job.{Ask.{Ask}}
use Rattle.bpfspec_output.specs.declared.refusal.Refusal.{Refusal}
use Rattle.bpfspec_output.specs.declared.refusal.Section.TheVariants as sections
use Rattle.bpfspec_records.specs.{declared.records.Record.{Record}, Units.{unit_records}}
use Rattle.bpfspec_records.specs.declared.records.Record.TheVariants as records
use Rattle.bpfspec_serve.specs.declared.{answer_error.AnswerError.{AnswerError}, serving.Served.{Served}}
use Rattle.bpfspec_serve.specs.Facts.{Adds, AddsRefusal, AreReplayFacts, AreRunFacts}
use Rattle.bpfspec_serve.specs.Facts.{AreUnitFacts, IsTried, error_records_of, function_records}
use Rattle.bpfspec_serve.specs.{Output.{unless_rule_broken}}
use Rattle.bpfspec_serve.specs.Output.{SatisfiesUnlessMemory, in_section, judged}
use Rattle.bpfspec_serve.specs.Output.{maps_start_words, refused}

-- one more of what is numbered
pub one_more : {A : Type 0} (f : ℕ → A) (n : ℕ) → map f (range_with_len 0 (n + 1))
    ≡ map f (range_with_len 0 n) ++ f n ∷ []
one_more f n = map-range_with_len_more f 0 n n (omega arith)

-- the error that comes is a refusal, whose record is all that is added
pub refusal_added : {Y : Type 0} (Wanted : Result Y AnswerError → Type 0) (Are : List Record → Type 0)
    {error : AnswerError} {old new : List Record} {served : Served}
    → SatisfiesUnlessMemory {X = Y} (λ y. y) Wanted (Err error) → AddsRefusal error old new served
    → ((refusal : Refusal) → Wanted (refused refusal) → Are (records.Refusal refusal ∷ [])) → Adds Are old new
refusal_added {Y} Wanted Are comes adds are = record {
  more = records.Refusal adds.refusal ∷ [];
  are = are adds.refusal
      (subst (λ (e : AnswerError). SatisfiesUnlessMemory {X = Y} (λ y. y) Wanted (Err e)) adds.is comes);
  added = adds.added;
}

-- what comes of a section with a byte are the facts of its replay
pub tries : (ask : Ask) (program : Program) (words events : List ℕ) (replayed : Result LoopReplay AnswerError)
    (facts : List Record) → false ≡ (length events == 0)
    → IsTried ask program words (in_section sections.Events (events_text events)) replayed
    → facts ≡ error_records_of replayed → AreReplayFacts ask program words events facts
tries ask program words [] replayed facts some tried is = absurd cc
tries ask program words (b ∷ bs) replayed facts some tried is = (replayed, tried, is)

-- a unit that is accepted is the program
accepts_itself : (unit program : Program) → Ok program ≡ judged unit → unit ≡ program
unfolding judged
accepts_itself unit program is = of_judged (first_fault unit) is
  where
    of_judged : (fault : Option BrokenRule) → Ok program ≡ unless_rule_broken unit fault → unit ≡ program
    of_judged None same =
        let is : Ok program ≡ Ok unit = same in
        cc
    of_judged (Some fault) same = absurd cc

-- an accepted unit: its functions, its maps and instructions, and its runs
pub accepts : (ask : Ask) (unit program shown : Program) (maps events : List ℕ) (old first second new : List Record)
    → Ok program ≡ judged unit → shown ≡ unit → first ≡ old ++ function_records program.insns
    → second ≡ first ++ unit_records ask.states shown
    → Adds (AreRunFacts ask program (maps_start_words program.sizes maps) events) second new
    → Adds (AreUnitFacts ask unit (judged unit) maps events) old new
accepts ask unit program shown maps events old first second new is same functions insns adds =
    let itself : shown ≡ program = same ∙ accepts_itself unit program is in
    record {
      more = function_records program.insns ++ (unit_records ask.states program ++ adds.more);
      are = rw (← is) (record { runs = adds.more; run = adds.are; whole = refl });
      added = rw (adds.added, insns, itself, functions) (simp append_assoc);
    }
