-- Reports line by line. `line_of` tells the line of a loop call that main made.
use Rattle.std.proofs.Common.{◌≡◌, ℕ, ℤ, pos, List, [], ◌∷◌, ◌++◌, map, refl, sym, ap, ◌∙◌}
use Rattle.bpf_step_model.specs.{declared.refused_call.RefusedCall.{RefusedCall}, State.{LoopCall}}
use Rattle.bpf_step_model.specs.Run.{BoundedResult, Ended, Stuck, Unfinished, mapped, followed}
use Rattle.bpf_step_model.specs.ProgramInOrder.{LoopMade, Finished, valid_call, refused_call}
use Rattle.loop_core_model.specs.declared.verdict.{LoopReport.{LoopReport}, Verdict.{Verdict, TheVariants.{Refused}}}
use Rattle.loop_core_model.specs.LeastBreak.{in_front_of, all_ended}
use Rattle.loop_core_model.specs.Report.{line, with_lines, with_each_line, reported_with}
use Rattle.spec_run_main.specs.Lines.{AreLines}

-- lines with one more behind
abbrev with_last : LoopReport → List LoopReport → List LoopReport
with_last last lines = lines ++ last ∷ []

in_front : (first : BoundedResult LoopReport) (rest : BoundedResult (List LoopReport)) (last : LoopReport) →
    followed (in_front_of (mapped (with_last last) rest)) first
    ≡ mapped (with_last last) (followed (in_front_of rest) first)
in_front (Ended first) (Ended others) last = refl
in_front (Ended first) Stuck last = refl
in_front (Ended first) Unfinished last = refl
in_front Stuck rest last = refl
in_front Unfinished rest last = refl

module _ (line_of : LoopMade → BoundedResult LoopReport) (made : LoopMade) (told : LoopReport)
    (is : line_of made ≡ Ended told) where
  last_line : (calls : List LoopMade)
      → all_ended (map line_of (calls ++ made ∷ [])) ≡ mapped (with_last told) (all_ended (map line_of calls))
  last_line [] = ap (followed (in_front_of (Ended []))) is
  last_line (call ∷ calls) = ap (λ (rest : BoundedResult (List LoopReport)). followed (in_front_of rest) (line_of call))
      (last_line calls)
      ∙ in_front (line_of call) (all_ended (map line_of calls)) told

  -- one call more has one line more
  pub one_line : (calls : List LoopMade) {lines all : List LoopReport} → all ≡ lines ++ told ∷ []
      → AreLines line_of calls lines → AreLines line_of (calls ++ made ∷ []) all
  one_line calls {lines} {all} pushed are = last_line calls ∙ ap (mapped (with_last told)) are ∙ sym (ap Ended pushed)

-- a valid call has the line of its slot, its answer and its verdict
pub valid_line : (line_of : LoopMade → BoundedResult LoopReport) (made : LoopCall) (answer : ℕ) (words : List ℕ)
    (calls : List LoopMade) {verdict : Verdict} {slot : ℕ} {told_answer : ℤ} {lines all : List LoopReport}
    → line_of (valid_call made answer words) ≡ Ended (line (valid_call made answer words) verdict)
    → slot ≡ made.slot → told_answer ≡ pos answer
    → all ≡ lines ++ record { slot = slot; answer = told_answer; verdict = verdict } ∷ []
    → AreLines line_of calls lines → AreLines line_of (calls ++ valid_call made answer words ∷ []) all
valid_line line_of made answer words calls {verdict} {slot} {told_answer} {lines} {all} is slot_is answer_is pushed are
    =
    let told : ℕ → ℤ → LoopReport = λ s a. record { slot = s; answer = a; verdict = verdict } in
    one_line line_of (valid_call made answer words) (told slot told_answer)
    (is
    ∙ ap (λ (s : ℕ). Ended (told s (pos answer))) (sym slot_is)
    ∙ ap (λ (a : ℤ). Ended (told slot a)) (sym answer_is)) calls pushed are

-- a refused one has the line of its slot and its answer
pub refused_line : (line_of : LoopMade → BoundedResult LoopReport) (words : List ℕ) (calls : List LoopMade) {slot : ℕ}
    {call : RefusedCall} {told_answer : ℤ} {lines all : List LoopReport}
    → line_of (refused_call slot call words) ≡ Ended (line (refused_call slot call words) Refused)
    → told_answer ≡ call.answer → all ≡ lines ++ record { slot = slot; answer = told_answer; verdict = Refused } ∷ []
    → AreLines line_of calls lines → AreLines line_of (calls ++ refused_call slot call words ∷ []) all
refused_line line_of words calls {slot} {call} {told_answer} {lines} {all} is answer_is pushed are =
    let told : ℤ → LoopReport = λ a. record { slot = slot; answer = a; verdict = Refused } in
    one_line line_of (refused_call slot call words) (told told_answer)
    (is ∙ ap (λ (a : ℤ). Ended (told a)) (sym answer_is)) calls pushed are

-- a program's report has the lines of its loop calls
pub reported : (line_of : LoopMade → BoundedResult LoopReport) {lines : List LoopReport} (e : BoundedResult Finished)
    (f : Finished) → e ≡ Ended f → AreLines line_of f.loops lines → reported_with line_of e ≡ Ended (with_lines f lines)
reported line_of {lines} e f ended are = ap (followed (with_each_line line_of)) ended ∙ ap (mapped (with_lines f)) are
