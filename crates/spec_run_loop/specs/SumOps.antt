-- Which operations add up: their accesses of elements are reduces of whole elements alone, all by one operator.
use Rattle.std.specs.Prelude.{◌≡◌, ℕ, ◌+◌, ◌≤◌, ◌<◌, Bool, true, false, ◌&&◌, nat_le, nat_lt, List}
use Rattle.bpf_insn_types.specs.declared.insn.{Width.TheVariants.{W64}, AtomicOp.TheVariants.{Simple}}
use Rattle.array_maps.specs.declared.access.Op.{Op}
use Rattle.bpf_step_model.specs.Step.{map_operator}
use Rattle.bpf_step_ir.specs.{declared.ir_op.IrOp.{IrOp, TheVariants.{Stop, SetWide, Jump, JumpIf}}, PlainRun.{op_of}}
use Rattle.bpf_step_ir.specs.declared.ir_op.IrOp.TheVariants.{Exit, LoadElement, StoreElement, ChangeElement, CallLoop}
use Rattle.loop_core_model.specs.Actions.{is_same}

-- an operation accesses no element of the maps, or reduces a whole one by this operator without loading the old value
abbrev pub keeps_to : Op → IrOp → Bool
keeps_to op (ChangeElement W64 (Simple simple) base offset src) = is_same op (map_operator simple)
keeps_to op (ChangeElement width atomic base offset src) = false
keeps_to op (LoadElement width extension dst base offset) = false
keeps_to op (StoreElement width base offset value) = false
keeps_to op _ = true

-- a slot is one of those from one up to, and without, another
abbrev pub is_between : (from past slot : ℕ) → Bool
is_between from past slot = nat_le from slot && nat_lt slot past

-- an operation at one of these slots leads to these alone: it ends the run, or jumps to one of them, or falls
-- through to one of them
abbrev pub stays_within : (from past slot : ℕ) → IrOp → Bool
stays_within from past slot Stop = true
stays_within from past slot Exit = true
stays_within from past slot (CallLoop callback ctx) = true
stays_within from past slot (SetWide dst number) = nat_lt (slot + 2) past
stays_within from past slot (Jump target) = is_between from past target
stays_within from past slot (JumpIf width compare dst operand target) =
    is_between from past target && nat_lt (slot + 1) past
stays_within from past slot _ = nat_lt (slot + 1) past

-- the operation at a slot does both
pub record IsSumOp (op : Op) (from past slot : ℕ) (at : IrOp) : Type 0 where
  pub keeps : keeps_to op at ≡ true
  pub stays : stays_within from past slot at ≡ true

-- the operations of the slots from one up to, and without, another add up by an operator
abbrev pub AddUp : Op → List IrOp → (from past : ℕ) → Type 0
AddUp op ops from past = (slot : ℕ) → from ≤ slot → slot < past → IsSumOp op from past slot (op_of ops slot)
