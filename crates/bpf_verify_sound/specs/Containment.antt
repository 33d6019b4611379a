-- Abstract states contain machines.
use Rattle.std.specs.Prelude.{◌≡◌, ℕ, ◌<◌, Bool, true, false, List, [], ◌∷◌, Option, Some, None, is_some}
use Rattle.value_range.specs.Spans.{Contains}
use Rattle.bpf_verify_model.specs.declared.{abstract_value.AbstractValue.{AbstractValue}, state.State.{State}}
use Rattle.bpf_verify_model.specs.Inflow.{state_before}
use Rattle.bpf_verify_model.specs.declared.abstract_value.AbstractValue.TheVariants as known
use Rattle.bpf_insn_types.specs.Program.{Program, insn_at}
use Rattle.bpf_step_model.specs.State.{Value, Word, Frame, Ctx, Map, Area, Code, Bytes, Machine}

-- a register's value is one of those that are known of it
abbrev pub ContainsValue : AbstractValue → Value → Type 0
ContainsValue known.Unwritten value = Unit {0}
ContainsValue (known.Number range) (Word number) = Contains range number
ContainsValue (known.Frame p) (Frame q) = p ≡ q
ContainsValue (known.Ctx p) (Ctx q) = p ≡ q
ContainsValue (known.Map m) (Map n) = m ≡ n
ContainsValue (known.Area m range) (Area n offset) = (m ≡ n) × Contains range offset
ContainsValue (known.AreaOrNull m range) (Area n offset) = (m ≡ n) × Contains range offset
ContainsValue (known.AreaOrNull m range) (Word number) = number ≡ 0
ContainsValue (known.Code s) (Code t) = s ≡ t
ContainsValue _ _ = ⊥

-- the same of each register
abbrev pub ContainEach : List AbstractValue → List Value → Type 0
ContainEach [] values = Unit {0}
ContainEach (x ∷ xs) [] = ⊥
ContainEach (x ∷ xs) (value ∷ values) = ContainsValue x value × ContainEach xs values

-- a byte that is known to be written is
abbrev pub IsWritten : Bool → Option ℕ → Type 0
IsWritten true None = ⊥
IsWritten true (Some byte) = byte < 256
IsWritten false byte = Unit {0}

-- each of a frame
abbrev pub AreWritten : List Bool → Bytes → Type 0
AreWritten [] bytes = Unit {0}
AreWritten (mark ∷ marks) [] = ⊥
AreWritten (mark ∷ marks) (byte ∷ bytes) = IsWritten mark byte × AreWritten marks bytes

-- and of main's frame; where nothing is known of it, nothing is claimed
abbrev pub AreWrittenByCaller : Option (List Bool) → Option Bytes → Type 0
AreWrittenByCaller None caller = Unit {0}
AreWrittenByCaller (Some marks) None = ⊥
AreWrittenByCaller (Some marks) (Some bytes) = AreWritten marks bytes

-- the abstract state contains a machine's registers and frames
pub record Contained (state : State) (m : Machine) : Type 0 where
  pub registers : ContainEach state.registers m.registers
  pub own : AreWritten state.own m.frame
  pub caller : AreWrittenByCaller state.caller m.caller

-- something is known, and it is true of the machine
abbrev pub ContainedIf : Option State → Machine → Type 0
ContainedIf None m = ⊥
ContainedIf (Some state) m = Contained state m

-- an instruction starts at the machine's slot, and the abstract state before it contains the machine
pub record ContainedBefore (program : Program) (m : Machine) : Type 0 where
  pub stands : is_some (insn_at program.insns m.slot) ≡ true
  pub contained : ContainedIf (state_before program m.slot) m
