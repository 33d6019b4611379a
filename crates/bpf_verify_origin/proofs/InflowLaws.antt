-- Where the edges into each slot come from, as a pass goes on.
use Rattle.std.proofs.Common.{◌≡◌, ℕ, ◌+◌, ◌<◌, inl, inr, true, List, [], length, get_or, refl, ap, arith, add-one}
use Rattle.std.proofs.{Common.{Option, Some, None, is_some}, lemmas.Bool.{cases_lt, cases_Bool, lt-ltb, le-ltb}}
use Rattle.std.{specs.Prelude.{nat_lt, replicate}, proofs.lemmas.List.{length-replicate, get_or-replicate, get_or_past}}
use Rattle.bpf_insn_types.specs.{declared.insn.Insn.{Insn}, Program.{Program, insn_at, slot_count}}
use Rattle.bpf_verify_model.specs.{declared.{state.State.{State}, outflow.Outflow.{Outflow}}, Inflow.{state_before}}
use Rattle.bpf_verify_origin.specs.declared.inflow.Inflow.{Inflow, TheVariants.{Nowhere}}
use Rattle.bpf_verify_origin.specs.Edges.{flow_of, flow_at, edge_leads, with_edge, inflow_from, passed_slots}
use Rattle.bpf_verify_origin.specs.Inspected.{AreInflows}

-- a table has where the edges out of the first n slots lead
pub record InflowsFrom (program : Program) (count : ℕ) (table : List Inflow) : Type 0 where
  pub at : (slot : ℕ) → slot < length table → get_or table slot Nowhere ≡ inflow_from program count slot

pub inflows-none : (program : Program) (count : ℕ) → InflowsFrom program 0 (replicate count Nowhere)
unfolding inflow_from
inflows-none program count = record {
  at = λ slot h. get_or-replicate count slot Nowhere Nowhere (omega (arith, h, length-replicate count Nowhere));
}

-- what flows from a slot, by what is known before it where an instruction starts
pub flow-here : (program : Program) (slot : ℕ) (insn : Option Insn) (before : Option State)
    → insn ≡ insn_at program.insns slot
    → (is_some (insn_at program.insns slot) ≡ true → before ≡ state_before program slot)
    → flow_of program.sizes slot insn before ≡ flow_at program slot
flow-here program slot insn before here known = rw here (by_insn (insn_at program.insns slot) known)
  where
    by_insn : (at : Option Insn) → (is_some at ≡ true → before ≡ state_before program slot)
        → flow_of program.sizes slot at before ≡ flow_of program.sizes slot at (state_before program slot)
    by_insn None known = refl
    by_insn (Some insn) known = ap (flow_of program.sizes slot (Some insn)) (known refl)

-- one slot more
pub inflows-more : (program : Program) (slot : ℕ) (out : Outflow) (table ahead both : List Inflow)
    → InflowsFrom program slot table → out ≡ flow_at program slot
    → ((k : ℕ) → k < length table
    → get_or ahead k Nowhere ≡ with_edge (edge_leads k out.ahead) slot (get_or table k Nowhere))
    → length ahead ≡ length table
    → ((k : ℕ) → k < length ahead
    → get_or both k Nowhere ≡ with_edge (edge_leads k out.aside) slot (get_or ahead k Nowhere))
    → length both ≡ length ahead → InflowsFrom program (slot + 1) both
unfolding inflow_from
inflows-more program slot out table ahead both from is first size second size' = record {
  at = λ k h.
      let between : k < length ahead = omega (arith, h, size') in
      let inside : k < length table = omega (arith, between, size) in
      rw (second k between, first k inside, from.at k inside, is, add-one slot) refl;
}

-- where there is no slot before the first fault, no edge leads anywhere
pub no-inflows : (program : Program) → passed_slots program ≡ 0 → AreInflows program []
unfolding inflow_from
no-inflows program none = record {
  at = λ slot.
      elim (cases_Bool (nat_lt slot (slot_count program.insns))) [
        | inl inside ↦ rw (inside, none) refl
        | inr past ↦ rw past refl
      ];
}

-- a table of all slots, when those before the first fault are passed
pub all-inflows : (program : Program) (table : List Inflow) → length table ≡ slot_count program.insns
    → InflowsFrom program (passed_slots program) table → AreInflows program table
all-inflows program table size from = record {
  at = λ slot.
      elim (cases_lt slot (slot_count program.insns)) [
        | inl inside ↦
            rw (lt-ltb slot (slot_count program.insns) inside) (from.at slot (omega (arith, inside, size)))
        | inr past ↦
            rw (le-ltb slot (slot_count program.insns) past)
            (get_or_past table slot Nowhere (omega (arith, past, size)))
      ];
}
