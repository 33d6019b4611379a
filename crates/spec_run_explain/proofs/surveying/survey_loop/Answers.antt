use Rattle.std.{proofs.Common.{◌∷◌, [], ◌++◌, Option, subst}, specs.Prelude.{IfSome}}
use Rattle.std.proofs.lemmas.List.Elements.{All-push, All-same}
use Rattle.loop_core_witness.specs.{declared.survey.Stretch.{Stretch}, Surveys.{IsStretch}}
use Rattle.spec_run_explain.proofs.surveying.survey_loop.Goals as goal

pub loop-first-preserved-in_ok-push : goal.loop-first-preserved-in_ok-push
loop-first-preserved-in_ok-push c =
    let program = c.args.program.now in
    let call = c.args.call.now in
    let words = c.args.start.now.words in
    let before = c.loop-first.stretches.items in
    record {
      each = All-same (IsStretch program call words) c.push.new.self.items (before ++ c.in-Some.stretch ∷ [])
          c.in_ok-push.ensures.items
          (All-push (IsStretch program call words) before c.in-Some.stretch c.loop-first.invariant.each
          (subst (λ (stretch : Option Stretch). IfSome stretch (IsStretch program call words)) c.in-Some.is
          c.in_ok-stretch.ensures));
    }
