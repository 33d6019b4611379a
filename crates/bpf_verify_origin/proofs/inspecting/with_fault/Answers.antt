use Rattle.std.{proofs.Common.{ap, refl}, specs.Option.{option_map}}
use Rattle.bpf_insn_types.specs.Program.{Program}
use Rattle.bpf_verify_origin.specs.Inspected.{broken_rule}
use Rattle.bpf_verify_origin.proofs.{FaultLaws.{passed-fine}, InspectionLaws.{inspection-outside}}
use Rattle.bpf_verify_origin.proofs.inspecting.with_fault.Goals as goal

pub invariant_of-result : goal.invariant_of-result
invariant_of-result c =
    inspection-outside c.args.unit c.args.fault c.in_ok-by_slot.by_slot.items c.new.result.items
    c.new-in_default.result.items
    (rw (c.as_slice.ensures.value, ap (λ (p : Program). p.insns) c.unit.view_is) at c.insns_fit.ensures)
    (rw (c.deref.ensures.value, ap (λ (p : Program). p.insns) c.unit.view_is) at c.in_ok-by_slot.ensures)
    c.requires c.in_default.ensures.none c.new.ensures.items c.new-in_default.ensures.items

pub states_before-requires-clause-fine : goal.states_before-requires-clause-fine
states_before-requires-clause-fine c =
    rw (c.deref-2.ensures.value, c.deref-3.ensures.value, c.unit.view_is, c.slots_before-passed.ensures)
    (passed-fine c.args.unit c.in-Some.count (option_map broken_rule c.args.fault) c.requires c.in-Some.ensures.some)

pub inflows-requires-clause-passed : goal.inflows-requires-clause-passed
inflows-requires-clause-passed c = rw (c.slots_before-passed.ensures, c.requires, c.in-Some.ensures.some.counted) refl
