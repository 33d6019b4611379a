-- Where the value of a register comes from on a run.
use Rattle.std.specs.Prelude.{◌≡◌, ℕ, ◌⊎◌, Bool, true, false, List, [], ◌∷◌, Option, Some, None}
use Rattle.bpf_insn_types.specs.{declared.insn.Insn.{Insn}, Values.{AreInsns}, Program.{Program, insn_at}}
use Rattle.bpf_step_model.specs.{State.{Machine, register}, Step.{step}}
use Rattle.bpf_verify_origin.specs.declared.source.Source.{Source, TheVariants.{Start, Written, Entered, Meeting}}
use Rattle.bpf_verify_origin.specs.{Sources.{writes_register, source_before}, Runs.{GoesOnTo, Enters, ComesTo}}

-- whether the instruction at a slot, if one starts there, writes a register
abbrev pub writes_if_any : Option Insn → ℕ → Bool
writes_if_any None reg = false
writes_if_any (Some insn) reg = writes_register insn reg

-- the step from a machine to the next leaves a register alone: it goes on, its instruction doesn't write the register,
-- and the value there stays the same
pub record LeavesAlone (program : Program) (reg : ℕ) (before m : Machine) : Type 0 where
  pub goes : GoesOnTo (step program before) m
  pub unwritten : writes_if_any (insn_at program.insns before.slot) reg ≡ false
  pub same : register m reg ≡ register before reg

-- the step is that of an instruction at this slot, which writes the register
pub record Writes (program : Program) (slot reg : ℕ) (before m : Machine) : Type 0 where
  pub at : before.slot ≡ slot
  pub goes : GoesOnTo (step program before) m
  pub written : writes_if_any (insn_at program.insns slot) reg ≡ true

-- the step is that of a loop call at this slot, which enters its callback
pub record EntersAt (program : Program) (slot : ℕ) (before m : Machine) : Type 0 where
  pub at : before.slot ≡ slot
  pub enters : Enters (step program before) m

-- a run has just reached a source: main starts, the last step wrote the register, it entered a callback, or
-- edges from several slots meet here
abbrev pub IsThere : Program → Source → ℕ → List Machine → Machine → Type 0
IsThere program Start reg [] m = Unit {0}
IsThere program (Written slot) reg (before ∷ earlier) m = Writes program slot reg before m
IsThere program (Entered slot) reg (before ∷ earlier) m = EntersAt program slot before m
IsThere program (Meeting slot) reg passed m = m.slot ≡ slot
IsThere program _ reg passed m = ⊥

-- the value of a register at the machine that a run reaches is from a source: the run was there, and each step since
-- then left the register alone
abbrev pub ComesFrom : Program → Source → ℕ → List Machine → Machine → Type 0
ComesFrom program source reg [] m = IsThere program source reg [] m
ComesFrom program source reg (before ∷ earlier) m = IsThere program source reg (before ∷ earlier) m
    ⊎ (LeavesAlone program reg before m × ComesFrom program source reg earlier before)

-- a source of a register's value before a slot holds on runs: on each that reaches the slot
abbrev pub IsSourceBefore : Program → (slot reg : ℕ) → Source → Type 0
IsSourceBefore program slot reg source = (passed : List Machine) (m : Machine) → ComesTo program passed m
    → m.slot ≡ slot → ComesFrom program source reg passed m

-- the sources of the values of a program's registers hold on its runs
pub record SourcesHold (program : Program) : Type 0 where
  pub before : (slot reg : ℕ) → IsSourceBefore program slot reg (source_before program slot reg)

-- the law of sources, of programs that are refused too
abbrev pub EachSourceHolds : Type 0
EachSourceHolds = (program : Program) → AreInsns program.insns → SourcesHold program
