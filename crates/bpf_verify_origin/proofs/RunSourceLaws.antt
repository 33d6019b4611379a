-- Sources hold on runs up to the first fault.
use Rattle.std.proofs.Common.{◌≡◌, ℕ, zero, suc, ◌+◌, ◌<◌, inl, inr, ◌⊎◌, Bool, true, false, not, ◌&&◌, List, [], ◌∷◌}
use Rattle.std.proofs.Common.{Some, is_some, sym, refl, ap, ◌∙◌, subst, arith}
use Rattle.std.{specs.Prelude.{◌==◌, nat_lt, if◌then◌else◌}}
use Rattle.std.proofs.lemmas.Bool.{both_ways, cases_Bool, cases_eq, eq-eqb, eqb-true, ne_eqb}
use Rattle.bpf_insn_types.specs.{Values.{AreInsns}, declared.insn.Insn.{Insn}, Program.{Program, insn_at, function_of}}
use Rattle.bpf_insn_types.specs.WordBounds.{ResultsFit}
use Rattle.bpf_verify_model.specs.Flow.{flow}
use Rattle.bpf_step_model.specs.{State.{Machine}, SoundMachine.{SoundMachine}, ProgramInOrder.{resumed}}
use Rattle.bpf_step_model.specs.Step.{StepOutcome, Loops, step}
use Rattle.bpf_verify_sound.{proofs.Tests.{and-two}}
use Rattle.bpf_verify_origin.specs.declared.inflow.Inflow.{Inflow, TheVariants.{Nowhere, One, Several}}
use Rattle.bpf_verify_origin.specs.declared.source.Source.{Source, TheVariants.{Start, Written, Entered}}
use Rattle.bpf_verify_origin.specs.{Edges.{inflow}, Sources.{source_back, source_among}}
use Rattle.bpf_verify_origin.specs.Sources.{writes_register, is_call, source_by_insn, source_by_inflow}
use Rattle.bpf_verify_origin.{specs.Runs.{GoesOnTo, Enters, ComesTo}, proofs.FaultLaws.{starts-within}}
use Rattle.bpf_verify_origin.specs.RunSources.{ComesFrom, EachSourceHolds}
use Rattle.bpf_verify_origin.proofs.OutcomeForms.{outcome-goes, outcome-enters, Behind}
use Rattle.bpf_verify_origin.proofs.{OutcomeForms.{CallsLoop, step-does}, EdgeLaws.{Includes, inflow-includes}}
use Rattle.bpf_verify_origin.proofs.RunLaws.{Flows, LastStep, goes-by, last-step}

goes-behind : (program : Program) (before m : Machine) (insn : Insn) (reg : ℕ)
    → insn_at program.insns before.slot ≡ Some insn → GoesOnTo (step program before) m → Behind insn reg before m
goes-behind program before m insn reg here goes =
    outcome-goes (CallsLoop insn before) (Behind insn reg before) (step program before) m
    (step-does program before insn reg here) goes

enters-calls : (program : Program) (before m : Machine) (insn : Insn) → insn_at program.insns before.slot ≡ Some insn
    → Enters (step program before) m → CallsLoop insn before
enters-calls program before m insn here enters =
    outcome-enters (CallsLoop insn before) (Behind insn 0 before) (step program before) m
    (step-does program before insn 0 here) enters

-- where a loop call enters its callback, main goes on too, and the callback has a caller
record Resumes (move : StepOutcome) (m : Machine) : Type 0 where
  next : Machine
  goes : GoesOnTo move next
  called : is_some m.caller ≡ true

resumes : (move : StepOutcome) (m : Machine) → Enters move m → Resumes move m
resumes (Loops call next) m g = record {
  next = resumed next 0;
  goes = (0, omega arith, refl);
  called = ap (λ (k : Machine). is_some k.caller) g.2;
}
resumes move m g = absurd g

-- a callback doesn't start at the slot after the call
entered-elsewhere : (program : Program) (before m : Machine) (f : Flows program before)
    → SoundMachine program before → SoundMachine program m → (enters : Enters (step program before) m)
    → (m.slot == before.slot + 1) ≡ false
entered-elsewhere program before m f sound callback enters =
    ne_eqb m.slot (before.slot + 1) (λ here.
    let calls = enters-calls program before m f.insn f.here enters in
    let main = resumes (step program before) m enters in
    let behind = goes-behind program before main.next f.insn 0 f.here main.goes in
    let by = goes-by program before.slot (flow program.sizes before.slot f.state f.insn) (step program before)
    main.next f.flows main.goes in
    let same = eqb-true (function_of program.insns before.slot) (function_of program.insns main.next.slot)
    (and-two (is_some (insn_at program.insns main.next.slot))
    (function_of program.insns before.slot == function_of program.insns main.next.slot) by.same) in
    let there : function_of program.insns before.slot ≡ function_of program.insns m.slot =
    same ∙ ap (function_of program.insns) (behind.next calls.is ∙ sym here) in
    both_ways (nat_lt 0 (function_of program.insns m.slot))
    (rw (← there) (sym sound.in_callback ∙ ap is_some calls.main)) (sym callback.in_callback ∙ main.called))

-- a call that goes on does so at the next slot
goes-next : (call : Bool) (slot from : ℕ) → (call ≡ true → slot ≡ from + 1) → (call && not (slot == from + 1)) ≡ false
goes-next false slot from next = refl
goes-next true slot from next = rw (eq-eqb slot (from + 1) (next refl)) refl

-- the source by the last step's instruction, where the source before it holds
step-holds : (program : Program) (before : Machine) (earlier : List Machine) (m : Machine) (reg : ℕ) (source : Source)
    → (f : Flows program before) → SoundMachine program before → SoundMachine program m
    → (GoesOnTo (step program before) m ⊎ Enters (step program before) m) → ComesFrom program source reg earlier before
    → ComesFrom program (source_by_insn before.slot m.slot reg (insn_at program.insns before.slot) source) reg
    (before ∷ earlier) m
step-holds program before earlier m reg source f sound next (inl goes) holds =
    let behind = goes-behind program before m f.insn reg f.here goes in
    let next = goes-next (is_call f.insn) m.slot before.slot behind.next in
    elim (cases_Bool (writes_register f.insn reg)) [
      | inl written ↦
          let is : source_by_insn before.slot m.slot reg (insn_at program.insns before.slot) source
          ≡ Written before.slot = rw (f.here, next, written) refl in
          subst (λ (s : Source). ComesFrom program s reg (before ∷ earlier) m) (sym is)
          (inl (record { at = refl; goes = goes; written = rw f.here written }))
      | inr kept ↦
          let is : source_by_insn before.slot m.slot reg (insn_at program.insns before.slot) source ≡ source =
          rw (f.here, next, kept) refl in
          subst (λ (s : Source). ComesFrom program s reg (before ∷ earlier) m) (sym is)
          (inr (record { goes = goes; unwritten = rw f.here kept; same = behind.same kept }, holds))
    ]
step-holds program before earlier m reg source f sound next (inr enters) holds =
    let calls = enters-calls program before m f.insn f.here enters in
    let elsewhere = entered-elsewhere program before m f sound next enters in
    let is : source_by_insn before.slot m.slot reg (insn_at program.insns before.slot) source ≡ Entered before.slot =
    rw (f.here, calls.is, elsewhere) refl in
    subst (λ (s : Source). ComesFrom program s reg (before ∷ earlier) m) (sym is)
    (inl (record { at = refl; enters = enters }))

-- the run without its last step
shorter : (program : Program) (before : Machine) (earlier : List Machine) (m : Machine)
    → ComesTo program (before ∷ earlier) m → ComesTo program earlier before
shorter program before earlier m comes = record { run = comes.run.1; early = comes.early.1 }

-- ---- back over edges
-- by the last slot of the first n
abbrev source_last : Program → (count slot reg : ℕ) → Source
source_last program count slot reg = source_back program slot reg (λ from. source_among program count from reg)

last-holds : ResultsFit → (program : Program) → AreInsns program.insns → (count reg : ℕ) (passed : List Machine)
    (m : Machine) → ComesTo program passed m → m.slot ≡ count
    → ((earlier : List Machine) (before : Machine) → ComesTo program earlier before → before.slot < count
    → ComesFrom program (source_among program count before.slot reg) reg earlier before)
    → ComesFrom program (source_last program count m.slot reg) reg passed m
last-holds fit program fits count reg [] m comes last go = rw comes.run.2 tt
last-holds fit program fits count reg (before ∷ earlier) m comes last go =
    let step : LastStep program before m = last-step fit program fits before earlier m comes in
    let later : before.slot < m.slot = step.stepped.later in
    let among = inflow-includes program before.slot m comes.early.0
    (starts-within program.insns m.slot step.stepped.known.contained.stands) step.stepped.flows in
    subst (λ (first : Bool). ComesFrom program (if first then Start else source_by_inflow m.slot reg
    (insn_at program.insns) (λ from. source_among program count from reg) (inflow program m.slot)) reg
    (before ∷ earlier) m) (sym (ne_eqb m.slot 0 (λ first. omega (arith, later, first))))
    (by_inflow step (inflow program m.slot) among
    (go earlier before (shorter program before earlier m comes) (omega (arith, later, last))))
  where
    by_inflow : LastStep program before m → (into : Inflow) → Includes before.slot into
        → ComesFrom program (source_among program count before.slot reg) reg earlier before
        → ComesFrom program (source_by_inflow m.slot reg (insn_at program.insns)
        (λ from. source_among program count from reg) into) reg (before ∷ earlier) m
    by_inflow step Nowhere among holds = absurd among
    by_inflow step (One from) among holds =
        subst (λ (k : ℕ). ComesFrom program (source_by_insn k m.slot reg (insn_at program.insns k)
        (source_among program count k reg)) reg (before ∷ earlier) m) (sym among)
        (step-holds program before earlier m reg (source_among program count before.slot reg) step.here
        step.known.sound step.stepped.known.sound comes.run.0 holds)
    by_inflow step Several among holds = inl refl

pub among-holds : ResultsFit → (program : Program) → AreInsns program.insns → (count reg : ℕ) (passed : List Machine)
    (m : Machine) → ComesTo program passed m → m.slot < count
    → ComesFrom program (source_among program count m.slot reg) reg passed m
unfolding source_among
among-holds fit program fits zero reg passed m comes near = absurd (omega arith)
among-holds fit program fits (suc count) reg passed m comes near =
    let earlier = among-holds fit program fits count reg in
    elim (cases_eq m.slot count) [
      | inl last ↦
          rw (eq-eqb m.slot count last) (last-holds fit program fits count reg passed m comes last earlier)
      | inr other ↦ rw (ne_eqb m.slot count other) (earlier passed m comes (omega arith))
    ]

pub sources-hold : ResultsFit → EachSourceHolds
sources-hold fit program fits = record {
  before = λ slot reg passed m comes at.
      rw (← at) (among-holds fit program fits (m.slot + 1) reg passed m comes (omega arith));
}
