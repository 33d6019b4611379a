use Rattle.std.proofs.Common.{◌≡◌, length, arith}
use Rattle.bpf_insn_types.specs.Program.{callback_starts}
use Rattle.bpfspec_serve.proofs.FactLaws.{one_more}
use Rattle.bpfspec_serve.proofs.answering.functions_of.Goals as goal

pub loop-callback-preserved : goal.loop-callback-preserved
loop-callback-preserved c =
    rw (one_more, ← c.loop-callback.invariant, ← c.function_of-in-loop-callback.ensures) c.in_ok-push-2.ensures.items

pub returns : goal.returns
returns c =
    let all : c.loop-callback.callback ≡ length (callback_starts c.args.program.now.insns) = grind arith in
    rw (← all) c.loop-callback.invariant
