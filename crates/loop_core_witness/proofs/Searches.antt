-- Searching iterations in order.
use Rattle.std.proofs.Common.{◌≡◌, ℕ, ◌+◌, inl, inr, List, Option, None, arith}
use Rattle.std.proofs.lemmas.Bool.{cases_eq, cases_lt}
use Rattle.bpf_insn_types.specs.Program.{Program}
use Rattle.bpf_step_model.specs.State.{LoopCall}
use Rattle.loop_core_trace.specs.{declared.following.Trace.{Trace}, Traced.{IsTraceOf}}
use Rattle.loop_core_witness.specs.declared.kind.Kind.{Kind, TheVariants.{FirstWrite, ExposedRead}}
use Rattle.loop_core_witness.specs.Firsts.{slot_of, IsAt, Does, NoneDoes}

module _ (kind : Kind) (program : Program) (call : LoopCall) (words : List ℕ) (element : ℕ) where
  at_slot : (k : Kind) (index : ℕ) (trace : Trace) (it : IsTraceOf program call index words element trace) →
      IsAt k program call index words element it.iterated.accesses (slot_of k trace.slots)
  at_slot FirstWrite index trace it = it.slots.write
  at_slot ExposedRead index trace it = it.slots.read

  -- what a trace tells
  pub traced : (index : ℕ) (trace : Trace) → IsTraceOf program call index words element trace → (slot : Option ℕ)
      → slot ≡ slot_of kind trace.slots →
      Does kind program call words element index slot
  traced index trace it slot is =
      rw is (record { iterated = it.iterated; ended = it.ended; seen = at_slot kind index trace it })

  -- one more that doesn't
  pub none_more : (from past next : ℕ) → next ≡ past + 1 → NoneDoes kind program call words element from past
      → Does kind program call words element past None →
      NoneDoes kind program call words element from next
  none_more from past next is none here index low high =
      elim (cases_eq index past) [ inl same ↦ rw same here | inr apart ↦ none index low (omega arith) ]

  -- and on from there
  pub none_both : (from middle past : ℕ) → NoneDoes kind program call words element from middle
      → NoneDoes kind program call words element middle past → NoneDoes kind program call words element from past
  none_both from middle past none rest i low high =
      elim (cases_lt i middle) [ inl h ↦ none i low h | inr h ↦ rest i h high ]
