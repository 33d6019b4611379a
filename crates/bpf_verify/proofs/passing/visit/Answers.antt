use Rattle.std.{proofs.Common.{ap, sym, ◌∙◌, None}, specs.Prelude.{slice_set}}
use Rattle.bpf_verify_model.specs.Accepted.{unless_earlier}
use Rattle.bpf_verify.{specs.Passing.{program_of}, proofs.PassLaws.{fault_within-more, known-here, passed-more}}
use Rattle.bpf_verify.proofs.OpLaws.{op-here}
use Rattle.bpf_verify.proofs.passing.visit.Goals as goal

pub returns-in-Some-clause-err : goal.returns-in-Some-clause-err
returns-in-Some-clause-err c =
    fault_within-more (program_of c.args.code.now) c.args.slot c.args.insn.now c.known-before.result
    c.requires.passed.fine c.requires.here
    (known-here (program_of c.args.code.now) c.args.slot c.known-before.result c.args.targets.now.items
    c.args.table.now.items c.requires.passed c.requires.within c.known-before.ensures)
    ∙ ap (unless_earlier None c.args.slot) (sym c.fault_of.ensures ∙ c.in-Some.is)

pub returns-clause-ok : goal.returns-clause-ok
returns-clause-ok c =
    passed-more (program_of c.args.code.now) c.args.slot c.args.insn.now c.known-before.result c.named_by.result
    c.args.targets.now.items c.add_target.new.targets.items c.args.table.now.items c.propagate_reached.new.table.items
    c.requires.passed c.requires.here c.requires.within c.known-before.ensures (sym c.fault_of.ensures
    ∙ c.in_default.is) c.named_by.ensures
    c.in_ok-add_target.ensures.ok c.propagate_reached.ensures.received c.propagate_reached.ensures.size

pub returns-clause-ops : goal.returns-clause-ops
returns-clause-ops c =
    c.put_op.ensures ∙ ap (slice_set c.args.ops.now.items c.args.slot) (op-here (program_of c.args.code.now) c.args.slot
    c.args.insn.now c.known-before.result c.requires.here
    (known-here (program_of c.args.code.now) c.args.slot c.known-before.result c.args.targets.now.items
    c.args.table.now.items c.requires.passed c.requires.within c.known-before.ensures))
