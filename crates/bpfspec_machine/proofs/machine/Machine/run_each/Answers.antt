use Rattle.std.proofs.Common.{arith}
use Rattle.bpfspec_machine.proofs.RunLaws.{one_more_at}
use Rattle.bpfspec_machine.proofs.machine.Machine.run_each.Goals as goal

pub loop-i-preserved : goal.loop-i-preserved
loop-i-preserved c =
    let test = c.loop-i-test.true in
    let kept = c.loop-i.auto.answers in
    let fit = c.requires in
    one_more_at c.args.arguments.now c.loop-i.answers c.args.self.now c.loop-i.self c.run.new.self c.loop-i.i
    c.run.result test (omega (arith, test, kept, fit)) c.loop-i.invariant c.run.ensures
