use Rattle.std.proofs.Common.{arith}
use Rattle.loop_core_replay.proofs.StandingLaws.{stepped}
use Rattle.loop_core_replay.proofs.workers.Workers.step.Goals as goal

pub returns-in-Some-clause-follows : goal.returns-in-Some-clause-follows
returns-in-Some-clause-follows c =
    stepped c.args.split.now c.args.event c.args.place c.args.breaks c.self.inside.shared c.self.inside.workers
    c.from-number.result c.args.self.now c.in-Some.change c.self.view_is c.from-number.ensures (omega arith)
    c.in-Some.ensures.some
