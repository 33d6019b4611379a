use Rattle.std.proofs.Common.{sym, ◌∙◌, arith}
use Rattle.loop_core_witness.proofs.SurveyLaws.{lacks_none}
use Rattle.loop_core_witness.proofs.finding.Search.skip.Goals as goal

pub returns-in-Some : goal.returns-in-Some
returns-in-Some c =
    let search = c.args.self.now in
    record {
      on = omega (arith, c.in-Some.ensures.past);
      none = lacks_none search.program.now search.call.now search.start.now.words search.element c.in-Some.stretch.now
          c.in-Some.ensures.is c.args.kind (sym c.lacks.ensures ∙ c.if-lacks.true) c.args.index
          c.in-Some.ensures.first;
    }
