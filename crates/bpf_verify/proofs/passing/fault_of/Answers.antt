use Rattle.std.proofs.Common.{refl}
use Rattle.bpf_verify.{specs.Passing.{program_of}, proofs.PassLaws.{fault_of-parts}}
use Rattle.bpf_verify.proofs.passing.fault_of.Goals as goal

pub returns : goal.returns
returns c =
    fault_of-parts (program_of c.args.code.now) c.args.slot c.args.insn.now c.args.before.now c.args.code.now.sizes.now
    c.function_at-function.result
    c.slot_fault-slot_rule.result c.insn_fault-insn_rule.result c.reached_fault-state_rule.result
    c.callback_fault-callback_rule.result
    c.reached_exit_fault-exit_rule.result c.or_else.result c.or_else-2.result c.or_else-3.result c.or_else-4.result
    refl c.function_at-function.ensures c.slot_fault-slot_rule.ensures c.insn_fault-insn_rule.ensures
    c.reached_fault-state_rule.ensures c.callback_fault-callback_rule.ensures c.reached_exit_fault-exit_rule.ensures
    c.or_else.ensures c.or_else-2.ensures c.or_else-3.ensures c.or_else-4.ensures
