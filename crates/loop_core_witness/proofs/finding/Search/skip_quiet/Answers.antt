use Rattle.std.proofs.Common.{sym, ◌∙◌, arith}
use Rattle.loop_core_witness.proofs.SurveyLaws.{quiet}
use Rattle.loop_core_witness.proofs.finding.Search.skip_quiet.Goals as goal

pub returns-in-Some : goal.returns-in-Some
returns-in-Some c =
    let search = c.args.self.now in
    record {
      on = omega (arith, c.in-Some.ensures.past);
      quiet = quiet search.program.now search.call.now search.start.now.words search.element c.in-Some.stretch.now
          c.in-Some.ensures.is c.args.op (sym c.is_quiet.ensures ∙ c.if-is_quiet.true) c.args.index
          c.in-Some.ensures.first;
    }
