-- Where the value of a register comes from, slot by slot.
use Rattle.std.proofs.Common.{◌≡◌, ℕ, zero, suc, ◌+◌, ◌<◌, ◌≤◌, inl, inr, refl, sym, ap}
use Rattle.std.proofs.Common.{◌∙◌, subst, arith, add-one}
use Rattle.std.proofs.lemmas.Bool.{cases_eq, eq-eqb, ne_eqb}
use Rattle.bpf_insn_types.specs.Program.{Program, insn_at}
use Rattle.bpf_verify_origin.specs.declared.inflow.Inflow.{Inflow}
use Rattle.bpf_verify_origin.specs.declared.source.Source.{Source, TheVariants.{Start}}
use Rattle.bpf_verify_origin.specs.{Edges.{inflow}, Sources.{source_back, source_among, source_before}}
use Rattle.bpf_verify_origin.specs.{Sources.{source_by_inflow}, RunSources.{IsSourceBefore, SourcesHold}}

-- the source before a slot, by those before earlier slots
among-last : (program : Program) (slot reg : ℕ) → source_before program slot reg
    ≡ source_back program slot reg (λ from. source_among program slot from reg)
unfolding source_among
among-last program slot reg = rw (add-one slot, eq-eqb slot slot refl) refl

-- a slot among the first n has its source, whatever n is
pub among-early : (program : Program) (count slot reg : ℕ) → slot < count
    → source_among program count slot reg ≡ source_before program slot reg
unfolding source_among
among-early program zero slot reg early = absurd (omega arith)
among-early program (suc count) slot reg early =
    elim (cases_eq slot count) [
      | inl last ↦
          let more : suc count ≡ slot + 1 = omega arith in
          ap (λ (n : ℕ). source_among program n slot reg) more
      | inr other ↦ rw (ne_eqb slot count other) (among-early program count slot reg (omega arith))
    ]

-- and none past them has one
pub among-past : (program : Program) (count slot reg : ℕ) → count ≤ slot → source_among program count slot reg ≡ Start
unfolding source_among
among-past program zero slot reg past = refl
among-past program (suc count) slot reg past =
    rw (ne_eqb slot count (λ same. omega arith)) (among-past program count slot reg (omega arith))

-- main starts at the first slot
pub source-first : (program : Program) (reg : ℕ) → source_before program 0 reg ≡ Start
source-first program reg = among-last program 0 reg

-- the source before a later slot, by the edges into it
pub source-later : (program : Program) (slot reg : ℕ) (into : Inflow) → 0 < slot → into ≡ inflow program slot
    → source_before program slot reg
    ≡ source_by_inflow slot reg (insn_at program.insns) (λ from. source_among program slot from reg) into
source-later program slot reg into later is =
    among-last program slot reg ∙ rw (ne_eqb slot 0 (λ first. omega (arith, later, first)), is) refl

-- it holds on runs
pub source-holds : (program : Program) (slot reg : ℕ) (found : Source) → SourcesHold program
    → found ≡ source_before program slot reg → IsSourceBefore program slot reg found
source-holds program slot reg found hold is = subst (IsSourceBefore program slot reg) (sym is) (hold.before slot reg)
