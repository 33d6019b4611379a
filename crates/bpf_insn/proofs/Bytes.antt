-- Slots and their bytes.
use Rattle.std.proofs.Common.{◌≡◌, ℕ, zero, suc, ◌+◌, ◌*◌, ◌/◌, ◌%◌, ◌^◌, ◌≤◌, ◌<◌, List, [], ◌∷◌, ◌++◌, length, drop}
use Rattle.std.proofs.Common.{get_or, refl, ap, ◌∙◌, arith, Fits}
use Rattle.std.specs.{Int.{w16, w32, to_le_bytes, from_le_bytes, cast_unsigned, cast_signed}, List.{AllByRecursion}}
use Rattle.std.proofs.lemmas.Nat.{le_bytes_2, le_bytes_4, from_le_bytes-to_le_bytes_2, from_le_bytes-to_le_bytes_4}
use Rattle.std.proofs.{lemmas.{Int.{of_z-to_z, to_z-of_z}, List.{get_or-drop}}, Math.Facts.{sfits_to_z, Fits-of_z}}
use Rattle.std.specs.Prelude.{slice_index}
use Rattle.bpf_insn.specs.{declared.slot.Slot.{Slot}, SlotBytes.{slot_bytes, slot_at, AreBytes}}
use Rattle.bpf_insn.proofs.Spelled.{Holds, slot_is}

all_bytes : (xs : List ℕ) → AllByRecursion (λ x. x < 256) xs → (i : ℕ) → get_or xs i 0 < 256
all_bytes [] h i = omega arith
all_bytes (x ∷ xs) h zero = h.0
all_bytes (x ∷ xs) h (suc i) = all_bytes xs h.1 i

-- two bytes are read as an offset and written again
offset_again : (a b : ℕ) → a < 256 → b < 256
    → to_le_bytes w16 (cast_unsigned w16 (cast_signed w16 (from_le_bytes w16 (a ∷ b ∷ [])))) ≡ a ∷ b ∷ []
offset_again a b p q =
    let n = from_le_bytes w16 (a ∷ b ∷ []) in
    let small : n < 2 ^ 16 = omega (arith, p, q) in
    ap (to_le_bytes w16) (of_z-to_z w16 n small)
    ∙ le_bytes_2 (a ∷ b ∷ []) n refl (all_bytes (a ∷ b ∷ []) (p, (q, tt))) refl

-- four bytes are read as an immediate and written again
imm_again : (a b c d : ℕ) → a < 256 → b < 256 → c < 256 → d < 256
    → to_le_bytes w32 (cast_unsigned w32 (cast_signed w32 (from_le_bytes w32 (a ∷ b ∷ c ∷ d ∷ [])))) ≡ a ∷ b ∷ c ∷ d
    ∷ []
imm_again a b c d p q r s =
    let n = from_le_bytes w32 (a ∷ b ∷ c ∷ d ∷ []) in
    let small : n < 2 ^ 32 = omega (arith, p, q, r, s) in
    ap (to_le_bytes w32) (of_z-to_z w32 n small)
    ∙ le_bytes_4 (a ∷ b ∷ c ∷ d ∷ []) n refl (all_bytes (a ∷ b ∷ c ∷ d ∷ []) (p, (q, (r, (s, tt))))) refl

joined : {x y : ℕ} {p q r s : List ℕ} (a : ℕ) (rest : List ℕ) → x ≡ y → p ≡ q → r ≡ s
    → (a ∷ x ∷ (p ++ r)) ++ rest ≡ (a ∷ y ∷ (q ++ s)) ++ rest
joined a rest h k l = rw (h, k, l) refl

-- the slot at the front has the bytes at the front
pub slot_bytes-slot_at : (bytes : List ℕ) → AreBytes bytes → 8 ≤ length bytes
    → slot_bytes (slot_at bytes) ++ drop 8 bytes ≡ bytes
slot_bytes-slot_at (a ∷ b ∷ c ∷ d ∷ e ∷ f ∷ g ∷ h ∷ rest) fits long =
    let registers : b % 16 + 16 * (b / 16) ≡ b = omega arith in
    let offset = offset_again c d (fits 2) (fits 3) in
    let imm = imm_again e f g h (fits 4) (fits 5) (fits 6) (fits 7) in
    let same = joined a rest registers offset imm in
    same
slot_bytes-slot_at _ fits long = absurd (omega (arith, long))

pub slot_at-holds : (bytes : List ℕ) → AreBytes bytes → Holds (slot_at bytes)
slot_at-holds bytes fits =
    let offset = from_le_bytes w16 (slice_index bytes 2 ∷ slice_index bytes 3 ∷ []) in
    let imm = from_le_bytes w32 (slice_index bytes 4 ∷ slice_index bytes 5 ∷ slice_index bytes 6 ∷ slice_index bytes 7
    ∷ []) in
    let small : offset < 2 ^ 16 = omega (arith, fits 2, fits 3) in
    let wide : imm < 2 ^ 32 = omega (arith, fits 4, fits 5, fits 6, fits 7) in
    let small_fits : Fits w16 offset = record { fits = small } in
    let wide_fits : Fits w32 imm = record { fits = wide } in
    record { offset = sfits_to_z small_fits; imm = sfits_to_z wide_fits }

pub drop-fits : (k : ℕ) (bytes : List ℕ) → AreBytes bytes → AreBytes (drop k bytes)
drop-fits k bytes fits i = rw (get_or-drop k bytes i 0) (fits (k + i))

-- what has bytes: registers in half a byte, and numbers that fit
pub record HasBytes (s : Slot) : Type 0 where
  pub dst : s.dst ≤ 10
  pub src : s.src ≤ 10
  pub holds : Holds s

-- each of some slots
abbrev pub HaveBytes : List Slot → Type 0
HaveBytes [] = Unit {0}
HaveBytes (s ∷ ss) = HasBytes s × HaveBytes ss

-- a slot is read from its bytes
pub slot_at-slot_bytes : (s : Slot) → HasBytes s → slot_at (slot_bytes s) ≡ s
slot_at-slot_bytes s h =
    let opcode : s.opcode ≡ s.opcode = refl in
    let dst : (s.dst + 16 * s.src) % 16 ≡ s.dst = omega (arith, h.dst) in
    let src : (s.dst + 16 * s.src) / 16 ≡ s.src = omega (arith, h.dst) in
    let offset : cast_signed w16 (from_le_bytes w16 (to_le_bytes w16 (cast_unsigned w16 s.offset))) ≡ s.offset =
    ap (cast_signed w16) (from_le_bytes-to_le_bytes_2 (cast_unsigned w16 s.offset) (Fits-of_z h.holds.offset).fits)
    ∙ to_z-of_z w16 s.offset h.holds.offset in
    let imm : cast_signed w32 (from_le_bytes w32 (to_le_bytes w32 (cast_unsigned w32 s.imm))) ≡ s.imm =
    ap (cast_signed w32) (from_le_bytes-to_le_bytes_4 (cast_unsigned w32 s.imm) (Fits-of_z h.holds.imm).fits)
    ∙ to_z-of_z w32 s.imm h.holds.imm in
    let same = slot_is opcode dst src offset imm in
    same
