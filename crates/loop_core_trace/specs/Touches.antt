-- Which element an operation accesses, and what comes of it.
use Rattle.std.specs.Prelude.{ℕ, ℤ, ◌/◌, Bool, true, false, not, ◌==◌, if◌then◌else◌, List, [], ◌∷◌, ◌++◌, slice_index}
use Rattle.std.specs.{Prelude.{Option, Some, None}, Bool.{then_some}, Option.{option_or}}
use Rattle.bpf_insn_types.specs.declared.insn.{Width.{Width, TheVariants.{W32, W64}}, SimpleOp.{SimpleOp}}
use Rattle.bpf_insn_types.specs.declared.insn.AtomicOp.{AtomicOp, TheVariants.{Simple, Fetch, Xchg, Cmpxchg}}
use Rattle.array_maps.specs.declared.access.Op.{Op}
use Rattle.bpf_step_model.specs.{Step.{map_operator, half_operator}, AreaWords.{byte_named}}
use Rattle.bpf_step_ir.specs.declared.ir_op.IrOp.{IrOp, TheVariants.{LoadElement, StoreElement, ChangeElement}}
use Rattle.loop_core_trace.specs.declared.{touch.Touch.{Touch}, slots.{FirstReduce.{FirstReduce}, Slots.{Slots}}}
use Rattle.loop_core_trace.specs.{declared.journal.Note.{Note}, Operators.{reduces_alike}}

-- an access of this width is of a half
abbrev pub is_half : Width → Bool
is_half W32 = true
is_half W64 = false

-- the operator of a simple atomic operation of this width
abbrev pub operator_at : Width → SimpleOp → Op
operator_at W32 op = half_operator op
operator_at W64 op = map_operator op

-- the operator of a change, if it doesn't load the old value
abbrev pub operator_of_change : Width → AtomicOp → Option Op
operator_of_change width (Simple op) = Some (operator_at width op)
operator_of_change width (Fetch op) = None
operator_of_change width Xchg = None
operator_of_change width Cmpxchg = None

-- an access at the element that a register and an offset name
abbrev pub touch_at : List ℕ → ℕ → ℤ → (looks writes : Bool) → (reduces : Option Op) → Touch
touch_at registers base offset looks writes reduces =
    record {
      element = byte_named (slice_index registers base) offset / 8;
      looks = looks;
      writes = writes;
      reduces = reduces;
    }

-- the access that an operation makes; a half is stored by a read and a write of its word
abbrev pub touched_by : IrOp → List ℕ → Option Touch
touched_by (LoadElement width extension dst base offset) registers =
    Some (touch_at registers base offset true false None)
touched_by (StoreElement width base offset value) registers =
    Some (touch_at registers base offset (is_half width) true None)
touched_by (ChangeElement width op base offset src) registers =
    Some (touch_at registers base offset true true (operator_of_change width op))
touched_by _ registers = None

-- no access yet
abbrev pub no_slots : Slots
no_slots = record { write = None; read = None; reduce = None; other = None }

-- the exposed read is the first access of all, if it looks
abbrev pub exposed_read_after : (write read : Option ℕ) → Touch → ℕ → Option ℕ
exposed_read_after (Some first) read touch slot = read
exposed_read_after None read touch slot = option_or read (then_some touch.looks slot)

-- the first access of all, if it is a reduce
abbrev pub first_reduce_after : Option FirstReduce → (other : Option ℕ) → Option Op → ℕ → Option FirstReduce
first_reduce_after None None (Some op) slot = Some (record { op = op; slot = slot })
first_reduce_after first other reduces slot = first

-- the first access that is no reduce by the operator of the first one stays; else this may be it
abbrev pub other_after : Option FirstReduce → (other : Option ℕ) → Option Op → ℕ → Option ℕ
other_after first other reduces slot = option_or other (then_some (not (reduces_alike first reduces)) slot)

-- the slots after one access more of the element: the first write stays; else this may be it
abbrev pub slots_after : Slots → Touch → ℕ → Slots
slots_after slots touch slot =
    record {
      write = option_or slots.write (then_some touch.writes slot);
      read = exposed_read_after slots.write slots.read touch slot;
      reduce = first_reduce_after slots.reduce slots.other touch.reduces slot;
      other = other_after slots.reduce slots.other touch.reduces slot;
    }

-- the slots at one element after an operation at a slot
abbrev pub slots_here : Option Touch → (element slot : ℕ) → Slots → Slots
slots_here None element slot slots = slots
slots_here (Some touch) element slot slots = if touch.element == element then slots_after slots touch slot else slots

-- a journal with the word of an access's element added
abbrev pub noted : Option Touch → List ℕ → List Note → List Note
noted None words journal = journal
noted (Some touch) words journal = journal ++ record { element = touch.element; word = slice_index words touch.element }
    ∷ []
