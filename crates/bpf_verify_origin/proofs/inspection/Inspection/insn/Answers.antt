use Rattle.std.proofs.Common.{refl}
use Rattle.bpf_verify_origin.proofs.inspection.Inspection.insn.Goals as goal

pub returns : goal.returns
returns c =
    rw (c.insn_in.ensures, c.as_slice.ensures.value, c.self.invariant.insns_are.at c.args.slot, c.self.view_is) refl
