-- A slot and its 8 bytes.
use Rattle.std.specs.Prelude.{ℕ, ℤ, ◌+◌, ◌*◌, ◌/◌, ◌%◌, ◌<◌, List, [], ◌∷◌, ◌++◌, slice_index}
use Rattle.std.specs.Int.{w16, w32, to_le_bytes, from_le_bytes, cast_unsigned, cast_signed}
use Rattle.bpf_insn.specs.{declared.{form.Form.{Form}, slot.Slot.{Slot}}, Opcode.{opcode}}

-- the slot of a form with these fields
abbrev pub slot : Form → ℕ → ℕ → ℤ → ℤ → Slot
slot f dst src offset imm = record { opcode = opcode f; dst = dst; src = src; offset = offset; imm = imm }

-- opcode; dst in the low and src in the high half of a byte; offset and imm in little endian (RFC 9669, section 3)
abbrev pub slot_bytes : Slot → List ℕ
slot_bytes s =
    s.opcode ∷ (s.dst + 16 * s.src) ∷ (to_le_bytes w16 (cast_unsigned w16 s.offset)
    ++ to_le_bytes w32 (cast_unsigned w32 s.imm))

-- both register fields fit the halves of a byte
pub record SlotFits (s : Slot) : Type 0 where
  pub dst : s.dst < 16
  pub src : s.src < 16

-- the bytes of slots, one after another
abbrev pub slots_bytes : List Slot → List ℕ
slots_bytes [] = []
slots_bytes (s ∷ ss) = slot_bytes s ++ slots_bytes ss

-- the slot at the front of bytes
abbrev pub slot_at : List ℕ → Slot
slot_at bytes = record {
  opcode = slice_index bytes 0;
  dst = slice_index bytes 1 % 16;
  src = slice_index bytes 1 / 16;
  offset = cast_signed w16 (from_le_bytes w16 (slice_index bytes 2 ∷ slice_index bytes 3 ∷ []));
  imm = cast_signed w32 (from_le_bytes w32 (slice_index bytes 4 ∷ slice_index bytes 5 ∷ slice_index bytes 6
      ∷ slice_index bytes 7 ∷ []));
}

-- each number is one of a byte
abbrev pub AreBytes : List ℕ → Type 0
AreBytes bytes = (i : ℕ) → slice_index bytes i < 256
