-- The loop calls that main made so far, explained one by one.
use Rattle.std.proofs.Common.{◌≡◌, ℕ, ℤ, pos, List, [], ◌∷◌, ◌++◌, None, refl, sym, ap, subst, ◌∙◌}
use Rattle.std.specs.Prelude.{Bool, true, false}
use Rattle.bpf_insn_types.specs.Program.{Program}
use Rattle.bpf_step_model.specs.{declared.refused_call.RefusedCall.{RefusedCall}, State.{LoopCall}, Run.{Ended, mapped}}
use Rattle.bpf_step_model.specs.ProgramInOrder.{LoopMade, valid_call, refused_call}
use Rattle.bpf_verify_sound.specs.Soundness.{OverApproximatesCall}
use Rattle.loop_core_model.specs.declared.{loop_test.Test.{Test}, verdict.LoopReport.{LoopReport}}
use Rattle.loop_core_model.specs.Report.{line, loop_report}
use Rattle.loop_core_model.specs.declared.verdict.Verdict.TheVariants as verdicts
use Rattle.spec_run_main.{specs.Calls.{IsMadeAs}, proofs.ReportLines.{one_line}}
use Rattle.loop_core_witness.specs.declared.explained.LoopExplained.{LoopExplained}
use Rattle.spec_run_explain.specs.Causes.{IsExplained, IsCallExplained, WasRefused, WasMade, AreExplained, still_wants}
use Rattle.spec_run_explain.{specs.Causes.{wants_after}, proofs.ExplainLaws.{lines_last}}
use Rattle.spec_run_explain.specs.Programs.{AreExplainedSoFar}

-- whether a grid is wanted after one call more
wants_last : (wants : Bool) (loops : List LoopExplained) (last : LoopExplained)
    → wants_after wants (loops ++ last ∷ []) ≡ still_wants (wants_after wants loops) last.grid
wants_last wants [] last = refl
wants_last wants (loop ∷ loops) last = wants_last (still_wants wants loop.grid) loops last

pub wants_on : (wants : Bool) (loops : List LoopExplained) {now more : Bool} {explained : List LoopExplained}
    (last : LoopExplained) → explained ≡ loops ++ last ∷ [] → more ≡ still_wants now last.grid
    → now ≡ wants_after wants loops → more ≡ wants_after wants explained
wants_on wants loops last added is so_far =
    is ∙ ap (λ (b : Bool). still_wants b last.grid) so_far ∙ sym (wants_last wants loops last)
    ∙ ap (wants_after wants) (sym added)

with_none : (wants : Bool) → wants ≡ still_wants wants None
with_none true = refl
with_none false = refl

-- a call of which no grid is shown changes nothing
pub wants_still : (wants : Bool) (loops : List LoopExplained) {now : Bool} {explained : List LoopExplained}
    (last : LoopExplained) → explained ≡ loops ++ last ∷ [] → last.grid ≡ None → now ≡ wants_after wants loops
    → now ≡ wants_after wants explained
wants_still wants loops {now} last added none so_far =
    wants_on wants loops last added (with_none now ∙ ap (still_wants now) (sym none)) so_far

module _ {test : Test} {program : Program} {most : ℕ} where
  -- one call more is explained
  one_more : (wants : Bool) (made : LoopMade) (last : LoopExplained) (calls : List LoopMade)
      (loops : List LoopExplained) → IsCallExplained test program most (wants_after wants loops) made last
      → AreExplained test program most wants calls loops
      → AreExplained test program most wants (calls ++ made ∷ []) (loops ++ last ∷ [])
  one_more wants made last [] [] is so_far = (is, tt)
  one_more wants made last (call ∷ calls) (loop ∷ loops) is so_far =
      (so_far.0, one_more (still_wants wants loop.grid) made last calls loops is so_far.1)
  one_more wants made last [] (loop ∷ loops) is so_far = absurd so_far
  one_more wants made last (call ∷ calls) [] is so_far = absurd so_far

  -- and recorded
  with_call : {wants : Bool} {calls : List LoopMade} {lines all : List LoopReport}
      {loops explained : List LoopExplained} (made : LoopMade) (last : LoopExplained)
      → IsCallExplained test program most (wants_after wants loops) made last
      → loop_report test program 4096 made ≡ Ended last.line
      → all ≡ lines ++ last.line ∷ [] → explained ≡ loops ++ last ∷ []
      → AreExplainedSoFar test program most wants calls lines loops
      → AreExplainedSoFar test program most wants (calls ++ made ∷ []) all explained
  with_call {wants} {calls} {lines} {all} {loops} {explained} made last is line_is pushed added so_far = record {
    reported = one_line (loop_report test program 4096) made last.line line_is calls pushed so_far.reported;
    lines_are = lines_last loops explained last lines all added pushed so_far.lines_are;
    explained = subst (AreExplained test program most wants (calls ++ made ∷ [])) (sym added)
        (one_more wants made last calls loops is so_far.explained);
  }

  -- a refused call is explained by its line and its arguments
  pub refusal_explained : {slot : ℕ} {call : RefusedCall} {line_answer : ℤ} (words : List ℕ) {wants : Bool}
      {calls : List LoopMade} {lines all : List LoopReport} {loops explained : List LoopExplained}
      (last : LoopExplained)
      → last.line ≡ record { slot = slot; answer = line_answer; verdict = verdicts.Refused } → line_answer ≡ call.answer
      → last.iterations ≡ call.iterations → last.flags ≡ call.flags → last.broke ≡ None → last.strategy ≡ None
      → last.causes.items ≡ [] → last.grid ≡ None
      → all ≡ lines ++ last.line ∷ [] → explained ≡ loops ++ last ∷ []
      → AreExplainedSoFar test program most wants calls lines loops
      → AreExplainedSoFar test program most wants (calls ++ refused_call slot call words ∷ []) all explained
  refusal_explained {slot} {call} words last line is_answer iterations flags broke strategy causes grid pushed added
      so_far =
      let its_line : last.line ≡ record { slot = slot; answer = call.answer; verdict = verdicts.Refused } =
      line ∙ ap (λ (a : ℤ). record { slot = slot; answer = a; verdict = verdicts.Refused }) is_answer in
      with_call (refused_call slot call words) last
      (WasRefused call refl its_line iterations flags broke strategy causes grid) (ap Ended (sym its_line)) pushed
      added so_far

  -- another one as the loop that ran
  pub call_explained : {call made : LoopCall} {answer : ℕ} {words : List ℕ} {wants now : Bool} {calls : List LoopMade}
      {lines all : List LoopReport} {loops explained : List LoopExplained} (last : LoopExplained)
      → IsMadeAs program made call words → OverApproximatesCall program call → now ≡ wants_after wants loops
      → IsExplained test program call words most now answer last
      → all ≡ lines ++ last.line ∷ [] → explained ≡ loops ++ last ∷ []
      → AreExplainedSoFar test program most wants calls lines loops
      → AreExplainedSoFar test program most wants (calls ++ valid_call made answer words ∷ []) all explained
  call_explained {call} {made} {answer} {words} last made_as known wanted is pushed added so_far =
      with_call (valid_call made answer words) last (WasMade made call answer refl refl made_as.filled known
      (subst (λ (w : Bool). IsExplained test program call words most w answer last) wanted is))
      (ap (mapped (line (valid_call made answer words))) (sym (made_as.same.judges test) ∙ is.verdict_is)
      ∙ ap (λ (s : ℕ). Ended (record { slot = s; answer = pos answer; verdict = last.line.verdict }))
      (sym (is.slot ∙ made_as.filled.slot))
      ∙ ap (λ (a : ℤ). Ended (record { slot = last.line.slot; answer = a; verdict = last.line.verdict }))
      (sym is.answer_is))
      pushed added so_far
