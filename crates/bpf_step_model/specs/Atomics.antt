-- An atomic operation does the same to a number of a frame and to a part of a map's element.
use Rattle.std.specs.Prelude.{◌≡◌, ℕ, ◌<◌, ◌^◌}
use Rattle.bpf_insn_types.specs.declared.insn.{Width.{Width, TheVariants.{W32, W64}}, AtomicOp.{AtomicOp}}
use Rattle.array_maps.specs.{declared.access.{Half.{Half, TheVariants.{Low, High}}, Part.{Part}}, Accesses.{left_by}}
use Rattle.array_maps.specs.{declared.access.Part.TheVariants.{Whole, Half as Of}, Halves.{half_of, part_of}}
use Rattle.bpf_step_model.specs.{State.{Machine}, Step.{atomic_left, tells, request_of}, Run.{action_of, after_request}}

-- the width of an operation on a part
abbrev pub width_of : Part → Width
width_of Whole = W64
width_of (Of half) = W32

-- the half that isn't accessed
abbrev pub other : Half → Half
other Low = High
other High = Low

-- what an atomic operation on a part leaves of an element's word
abbrev pub element_left : Part → AtomicOp → (src word operand compare : ℕ) → ℕ
element_left part op src word operand compare = left_by (action_of (request_of part op src operand compare) word) word

-- of words it leaves in the part what it leaves of such a number of a frame, and the other half as it was; and it loads
-- the same register the same number
pub record AtomicsAgree : Type 0 where
  pub left : (part : Part) (op : AtomicOp) (src word operand compare : ℕ) → word < 2 ^ 64 → operand < 2 ^ 64
      → compare < 2 ^ 64 →
      part_of part (element_left part op src word operand compare) ≡ atomic_left (width_of part) op (part_of part word)
      operand compare
  pub kept : (half : Half) (op : AtomicOp) (src word operand compare : ℕ) → word < 2 ^ 64 →
      half_of (other half) (element_left (Of half) op src word operand compare) ≡ half_of (other half) word
  pub tells_same : (part : Part) (op : AtomicOp) (src word operand compare : ℕ) (m : Machine) →
      after_request (request_of part op src operand compare) word m ≡ tells op src (part_of part word) m
