-- What bytes say, by the instruction at their front.
use Rattle.std.proofs.Common.{◌≡◌, ℕ, zero, suc, ◌+◌, ◌-◌, ◌*◌, ◌%◌, ◌≤◌, ◌<◌, ltb, List, [], ◌∷◌, ◌++◌, length, drop}
use Rattle.std.proofs.Common.{None, Some, Result, Ok, Err, refl, sym, ap, ◌∙◌, length-drop, arith, inl, inr}
use Rattle.std.proofs.lemmas.{Bool.{cond-true, cond-false, le-ltb, lt-ltb, cases_lt}, List.{drop-drop}}
use Rattle.bpf_insn_types.specs.{declared.insn.Insn.{Insn, TheVariants.{LoadImm}}, Slots.{slots_of}}
use Rattle.bpf_insn.specs.declared.{slot.Slot.{Slot}, codec_error.{CodecFault.{CodecFault}, CodecError.{CodecError}}}
use Rattle.bpf_insn.specs.declared.codec_error.CodecError.TheVariants.{Refused}
use Rattle.bpf_insn.specs.{SlotBytes.{slot_at, slot_bytes}, Reading.{insn_of_slot, front_slot, first_insn, slots_in}}
use Rattle.bpf_insn.specs.Reading.{first, more_of, insn_before, end_of_bytes, insns_in}
use Rattle.bpf_insn.proofs.Bytes.{HasBytes, slot_at-slot_bytes}
use Rattle.bpf_insn.specs.declared.codec_error.CodecFault.TheVariants as faults

pub slots_in-front : (bytes : List ℕ) → 8 ≤ length bytes → slots_in bytes ≡ slot_at bytes ∷ slots_in (drop 8 bytes)
unfolding slots_in
slots_in-front (a ∷ b ∷ c ∷ d ∷ e ∷ f ∷ g ∷ i ∷ rest) h = refl
slots_in-front _ h = absurd (omega (arith, h))

pub slots_in-short : (bytes : List ℕ) → length bytes < 8 → slots_in bytes ≡ []
unfolding slots_in
slots_in-short (a ∷ b ∷ c ∷ d ∷ e ∷ f ∷ g ∷ i ∷ rest) h = absurd (omega (arith, h))
slots_in-short _ h = refl

first-slots_in : (bytes : List ℕ) → front_slot bytes ≡ first (slots_in bytes)
first-slots_in bytes =
    elim (cases_lt (length bytes) 8) [
      | inl h ↦ cond-true (ltb (length bytes) 8) None (Some (slot_at bytes)) (lt-ltb (length bytes) 8 h)
          ∙ ap first (sym (slots_in-short bytes h))
      | inr h ↦ cond-false (ltb (length bytes) 8) None (Some (slot_at bytes)) (le-ltb (length bytes) 8 h)
          ∙ ap first (sym (slots_in-front bytes h))
    ]

-- ---- the instruction at the front

pub first_insn-long : (bytes : List ℕ) → 8 ≤ length bytes
    → first_insn bytes ≡ insn_of_slot (slot_at bytes) (first (slots_in (drop 8 bytes)))
unfolding first_insn
first_insn-long bytes h =
    cond-false (ltb (length bytes) 8) (Err faults.Incomplete) (insn_of_slot (slot_at bytes) (front_slot (drop 8 bytes)))
    (le-ltb (length bytes) 8 h) ∙ ap (insn_of_slot (slot_at bytes)) (first-slots_in (drop 8 bytes))

first_insn-short : (bytes : List ℕ) → length bytes < 8 → first_insn bytes ≡ Err faults.Incomplete
unfolding first_insn
first_insn-short bytes h =
    cond-true (ltb (length bytes) 8) (Err faults.Incomplete) (insn_of_slot (slot_at bytes) (front_slot (drop 8 bytes)))
    (lt-ltb (length bytes) 8 h)

pub first_insn-slot_bytes : (s : Slot) (rest : List ℕ) → HasBytes s
    → first_insn (slot_bytes s ++ rest) ≡ insn_of_slot s (first (slots_in rest))
first_insn-slot_bytes s rest h = first_insn-long (slot_bytes s ++ rest) (omega arith)
    ∙ ap (λ (x : Slot). insn_of_slot x (first (slots_in rest))) (slot_at-slot_bytes s h)

pub long_if_ok : (bytes : List ℕ) (i : Insn) → first_insn bytes ≡ Ok i → 8 ≤ length bytes
long_if_ok bytes i e =
    elim (cases_lt (length bytes) 8) [
      | inl h ↦ let short = first_insn-short bytes h in absurd (cc)
      | inr h ↦ h
    ]

-- ---- instructions one after the other

-- the instructions in bytes from slot n on
abbrev pub from_slot : ℕ → List ℕ → Result (List Insn) CodecError
from_slot n bytes = insns_in (length bytes % 8) (slots_in bytes) 0 n

-- slots that the instruction before has taken
skips : (left k n : ℕ) (bytes : List ℕ) → 8 * k ≤ length bytes
    → insns_in left (slots_in bytes) k n ≡ insns_in left (slots_in (drop (8 * k) bytes)) 0 (n + k)
unfolding insns_in
skips left zero n bytes h =
    let same : n + 0 ≡ n = omega arith in
    ap (λ (x : ℕ). insns_in left (slots_in bytes) 0 x) (sym same)
skips left (suc k) n bytes h =
    let long : 8 ≤ length bytes = omega (arith, h) in
    let fewer : 8 * k ≤ length (drop 8 bytes) = omega (arith, h, length-drop 8 bytes) in
    let at : n + 1 + k ≡ n + suc k = omega arith in
    let cut : 8 + 8 * k ≡ 8 * suc k = omega arith in
    let there = drop-drop (8 * k) 8 bytes in
    let later = skips left k (n + 1) (drop 8 bytes) fewer in
    rw (slots_in-front bytes long) (cc)

at_front : (left n : ℕ) (bytes : List ℕ) → 8 ≤ length bytes → insns_in left (slots_in bytes) 0 n
    ≡ insn_before n (first_insn bytes) (insns_in left (slots_in (drop 8 bytes)) (more_of (first_insn bytes)) (n + 1))
unfolding insns_in
at_front left n bytes long = rw (slots_in-front bytes long, first_insn-long bytes long) refl

some_slots : (i : Insn) → 0 < slots_of i
some_slots (LoadImm kind dst imm next) = omega arith
some_slots _ = omega arith

pub goes : (bytes : List ℕ) (i : Insn) (n : ℕ) → 8 * slots_of i ≤ length bytes → first_insn bytes ≡ Ok i
    → from_slot n bytes ≡ insn_before n (Ok i) (from_slot (n + slots_of i) (drop (8 * slots_of i) bytes))
goes bytes i n within e =
    let some = some_slots i in
    let k = slots_of i - 1 in
    let long : 8 ≤ length bytes = omega (arith, within, some) in
    let fewer : 8 * k ≤ length (drop 8 bytes) = omega (arith, within, some, length-drop 8 bytes) in
    let left : length (drop (8 * slots_of i) bytes) % 8 ≡ length bytes % 8 =
    omega (arith, within, length-drop (8 * slots_of i) bytes) in
    let at : n + 1 + k ≡ n + slots_of i = omega (arith, some) in
    let cut : 8 + 8 * k ≡ 8 * slots_of i = omega (arith, some) in
    let there = drop-drop (8 * k) 8 bytes in
    let later = skips (length bytes % 8) k (n + 1) (drop 8 bytes) fewer in
    rw (at_front (length bytes % 8) n bytes long, e) (cc)

pub refuses : (bytes : List ℕ) (f : CodecFault) (n : ℕ) → 0 < length bytes → first_insn bytes ≡ Err f
    → from_slot n bytes ≡ Err (Refused f n)
unfolding insns_in
refuses bytes f n some e =
    elim (cases_lt (length bytes) 8) [
      | inl h ↦
          let short = first_insn-short bytes h in
          let cut = cut_off (length bytes % 8) n (omega (arith, h, some)) in
          rw (slots_in-short bytes h) (cc)
      | inr h ↦ rw (at_front (length bytes % 8) n bytes h, e) refl
    ]
  where
    cut_off : (left n : ℕ) → 0 < left → end_of_bytes left n ≡ Err (Refused faults.Incomplete n)
    cut_off zero n h = absurd (omega (arith, h))
    cut_off (suc left) n h = refl
