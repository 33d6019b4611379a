-- The two laws: what is read is spelled so, and what is spelled so is read.
use Rattle.std.proofs.Common.{◌≡◌, ℕ, ◌+◌, ◌*◌, ◌≤◌, List, [], ◌∷◌, ◌++◌, length, drop, Some, Result, Ok}
use Rattle.std.proofs.Common.{Err, refl, sym, ap, subst, ◌∙◌, length-append, length-drop, arith, inl, inr}
use Rattle.std.{specs.Prelude.{IfOk}, proofs.{lemmas.{Bool.{cases_lt}, List.{drop-drop}, Result.{IfOk-at_ok}}}}
use Rattle.std.proofs.Math.Seq.{drop-append_seam}
use Rattle.bpf_insn_types.specs.{declared.insn.Insn.{Insn}, Slots.{slots_of}, Values.{InsnFits, AreInsns}}
use Rattle.bpf_insn.specs.declared.{slot.Slot.{Slot}, codec_error.{CodecFault.{CodecFault}, CodecError.{CodecError}}}
use Rattle.bpf_insn.specs.SlotBytes.{slot_at, slot_bytes, slots_bytes, AreBytes}
use Rattle.bpf_insn.specs.Spelling.{spelling, bytes_at, insn_bytes, both_or_refusal, spelling_from, program_spelling}
use Rattle.bpf_insn.specs.Reading.{insn_of_slot, first_insn, first, insn_before, insns_in, slots_in, reading}
use Rattle.bpf_insn.proofs.{Lengths.{spelled_len}, Spelled.{Reads}, SlotReads.{NextHolds, slot_reads}}
use Rattle.bpf_insn.proofs.{Bytes.{slot_bytes-slot_at, slot_at-holds, drop-fits}, HasBytes.{IsSpelledBy, spelled_by}}
use Rattle.bpf_insn.proofs.Fronts.{slots_in-front, slots_in-short, first_insn-long, long_if_ok}
use Rattle.bpf_insn.proofs.Fronts.{from_slot, goes, refuses}

-- ---- results

abbrev done : {A E : Type 0} → A → Result A E
done x = Ok x

ok_is : {A : Type 0} (x y : A) → done {E = CodecError} x ≡ Ok y → x ≡ y
ok_is x y e = cc

fault_ok_is : {A : Type 0} (x y : A) → done {E = CodecFault} x ≡ Ok y → x ≡ y
fault_ok_is x y e = cc

some_is : {A : Type 0} (x y : A) → Some x ≡ Some y → x ≡ y
some_is x y e = cc

pub of_ok : {A : Type 0} (P : A → Type 0) (r : Result A CodecFault) (x : A) → r ≡ Ok x → IfOk r P → P x
of_ok P r x e h = IfOk-at_ok P e h

pub both_ok : (r later : Result (List ℕ) CodecError) (bytes : List ℕ) → both_or_refusal r later ≡ Ok bytes
    → (a : List ℕ) × (b : List ℕ) × (r ≡ Ok a) × (later ≡ Ok b) × (bytes ≡ a ++ b)
both_ok (Ok a) (Ok b) bytes h = (a, b, refl, refl, sym (ok_is (a ++ b) bytes h))
both_ok _ _ bytes h = absurd cc

pub bytes_ok : (n : ℕ) (r : Result (List Slot) CodecFault) (a : List ℕ) → bytes_at n r ≡ Ok a → (ss : List Slot)
    × (r ≡ Ok ss) × (a ≡ slots_bytes ss)
bytes_ok n (Err e) a h = absurd cc
bytes_ok n (Ok ss) a h = (ss, refl, sym (ok_is (slots_bytes ss) a h))

-- ---- the instruction at the front of bytes

next_holds : (bytes : List ℕ) → AreBytes bytes → NextHolds (first (slots_in bytes))
next_holds bytes fits =
    elim (cases_lt (length bytes) 8) [
      | inl h ↦ rw (slots_in-short bytes h) tt
      | inr h ↦ rw (slots_in-front bytes h) (slot_at-holds bytes fits)
    ]

next_is : (bytes : List ℕ) (t : Slot) → first (slots_in bytes) ≡ Some t → (8 ≤ length bytes) × (slot_at bytes ≡ t)
next_is bytes t e =
    elim (cases_lt (length bytes) 8) [
      | inl h ↦ let none = rw (slots_in-short bytes h) at e in absurd (cc)
      | inr h ↦ (h, some_is (slot_at bytes) t (rw (slots_in-front bytes h) at e))
    ]

-- it is spelled by the bytes that it takes
pub record IsFront (bytes : List ℕ) (i : Insn) : Type 0 where
  pub fits : InsnFits i
  pub slots : List Slot
  pub spelled : spelling i ≡ Ok slots
  pub whole : slots_bytes slots ++ drop (8 * slots_of i) bytes ≡ bytes
  pub within : 8 * slots_of i ≤ length bytes

pub is_front : (bytes : List ℕ) (i : Insn) → AreBytes bytes → first_insn bytes ≡ Ok i → IsFront bytes i
is_front bytes i fits e =
    let s = slot_at bytes in
    let next = first (slots_in (drop 8 bytes)) in
    let long = long_if_ok bytes i e in
    let reads = of_ok (Reads s next) (insn_of_slot s next) i (sym (first_insn-long bytes long) ∙ e)
    (slot_reads s next (fits 0) (slot_at-holds bytes fits) (next_holds (drop 8 bytes) (drop-fits 8 bytes fits))) in
    let here = slot_bytes-slot_at bytes fits long in
    elim reads.taken [
      | inl one ↦
          let len = spelled_len 0 i (slots_bytes (s ∷ [])) (ap (bytes_at 0) one) in
          let single : slots_of i ≡ 1 = omega (arith, len) in
          record {
            fits = reads.fits;
            slots = s ∷ [];
            spelled = one;
            whole = rw single here;
            within = omega (arith, single, long);
          }
      | inr two ↦
          let len = spelled_len 0 i (slots_bytes (s ∷ two.0 ∷ [])) (ap (bytes_at 0) two.2) in
          let double : slots_of i ≡ 2 = omega (arith, len) in
          let more = next_is (drop 8 bytes) two.0 two.1 in
          let there : slot_bytes two.0 ++ drop 8 (drop 8 bytes) ≡ drop 8 bytes =
          subst (λ (t : Slot). slot_bytes t ++ drop 8 (drop 8 bytes) ≡ drop 8 bytes) more.1
          (slot_bytes-slot_at (drop 8 bytes) (drop-fits 8 bytes fits) more.0) in
          record {
            fits = reads.fits;
            slots = s ∷ two.0 ∷ [];
            spelled = two.2;
            whole = rw (double, ← drop-drop 8 8 bytes) (ap (λ (x : List ℕ). slot_bytes s ++ x) there ∙ here);
            within = omega (arith, double, more.0, length-drop 8 bytes);
          }
    ]

-- ---- what is read is spelled so

abbrev Starts : Insn → Result (List Insn) CodecError → List Insn → Type 0
Starts i later [] = ⊥
Starts i later (j ∷ is) = (i ≡ j) × (later ≡ Ok is)

before_ok : (n : ℕ) (i : Insn) (later : Result (List Insn) CodecError) (p : List Insn)
    → insn_before n (Ok i) later ≡ Ok p → Starts i later p
before_ok n i (Ok is) (j ∷ p) e = (cc, cc)
before_ok n i _ _ e = absurd cc

abbrev Found : ℕ → List ℕ → List Insn → Type 0
Found n bytes p = AreInsns p × (spelling_from n p ≡ Ok bytes)

found_in : (p : List Insn) (bytes : List ℕ) (n : ℕ) (r : Result Insn CodecFault) → first_insn bytes ≡ r
    → AreBytes bytes → from_slot n bytes ≡ Ok p → Found n bytes p
unfolding insns_in slots_in
found_in p [] n r at fits e = subst (λ (x : List Insn). Found n [] x) (ok_is [] p e) (tt, refl)
found_in p (b ∷ bytes) n (Err f) at fits e = let none = refuses (b ∷ bytes) f n (omega arith) at in absurd (cc)
found_in [] (b ∷ bytes) n (Ok i) at fits e =
    let front = is_front (b ∷ bytes) i fits at in
    absurd (before_ok n i _ [] (sym (goes (b ∷ bytes) i n front.within at) ∙ e))
found_in (j ∷ p) (b ∷ bytes) n (Ok i) at fits e =
    let front = is_front (b ∷ bytes) i fits at in
    let rest = drop (8 * slots_of i) (b ∷ bytes) in
    let cut = before_ok n i (from_slot (n + slots_of i) rest) (j ∷ p) (sym (goes (b ∷ bytes) i n front.within at)
    ∙ e) in
    let later = found_in p rest (n + slots_of i) (first_insn rest) refl (drop-fits (8 * slots_of i) (b ∷ bytes) fits)
    cut.1 in
    subst (λ (x : Insn). Found n (b ∷ bytes) (x ∷ p)) cut.0
    ((front.fits, later.0), rw (front.spelled, later.1, front.whole) refl)

-- what is read is spelled so
pub reading_found : (bytes : List ℕ) (p : List Insn) → AreBytes bytes → reading bytes ≡ Ok p → AreInsns p
    × (program_spelling p ≡ Ok bytes)
unfolding reading
reading_found bytes p fits e = found_in p bytes 0 (first_insn bytes) refl fits e

-- ---- what is spelled so is read

front_again : (n : ℕ) (i : Insn) (a x : List ℕ) → InsnFits i → bytes_at n (spelling i) ≡ Ok a
    → first_insn (a ++ x) ≡ Ok i
front_again n i a x h e =
    let here = bytes_ok n (spelling i) a e in
    let by = of_ok (IsSpelledBy i) (spelling i) here.0 here.1 (spelled_by i h) in
    rw here.2 (by.again x)

again_in : (p : List Insn) (n : ℕ) (bytes : List ℕ) → AreInsns p → spelling_from n p ≡ Ok bytes
    → from_slot n bytes ≡ Ok p
unfolding insns_in slots_in
again_in [] n bytes h e = subst (λ (x : List ℕ). from_slot n x ≡ Ok []) (ok_is [] bytes e) refl
again_in (i ∷ is) n bytes h e =
    let cut = both_ok (bytes_at n (spelling i)) (spelling_from (n + slots_of i) is) bytes e in
    let len = spelled_len n i cut.0 cut.2 in
    let later = again_in is (n + slots_of i) cut.1 h.1 cut.3 in
    let within : 8 * slots_of i ≤ length (cut.0 ++ cut.1) = omega (arith, len, length-append cut.0 cut.1) in
    let step = goes (cut.0 ++ cut.1) i n within (front_again n i cut.0 cut.1 h.0 cut.2) in
    let rest : drop (8 * slots_of i) (cut.0 ++ cut.1) ≡ cut.1 = rw (← len) (drop-append_seam cut.0 cut.1) in
    rw (cut.4, step, rest, later) refl

-- what is spelled so is read
pub reading_again : (p : List Insn) (bytes : List ℕ) → AreInsns p → program_spelling p ≡ Ok bytes → reading bytes ≡ Ok p
unfolding reading
reading_again p bytes h e = again_in p 0 bytes h e

-- ---- laws

-- each program has one spelling
pub one_program : (p q : List Insn) (bytes : List ℕ) → AreInsns p → AreInsns q → program_spelling p ≡ Ok bytes
    → program_spelling q ≡ Ok bytes → p ≡ q
one_program p q bytes a b e f = ok_is p q (sym (reading_again p bytes a e) ∙ reading_again q bytes b f)

-- no instruction's bytes begin another's
pub no_front : (i j : Insn) (a b x y : List ℕ) → InsnFits i → InsnFits j → insn_bytes i ≡ Ok a → insn_bytes j ≡ Ok b
    → a ++ x ≡ b ++ y → (i ≡ j) × (a ≡ b)
no_front i j a b x y f g e h same =
    let insn = fault_ok_is i j (sym (front_again 0 i a x f e) ∙ ap first_insn same ∙ front_again 0 j b y g h) in
    (insn, ok_is a b (sym e ∙ ap insn_bytes insn ∙ h))
