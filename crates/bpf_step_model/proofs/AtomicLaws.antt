-- An atomic operation does the same to a number of a frame and to a part of an element.
use Rattle.std.proofs.Common.{◌≡◌, ℕ, ◌+◌, ◌-◌, ◌%◌, ◌^◌, ◌<◌, Bool, true, false, refl, sym, ◌∙◌, ap, arith, bit_and}
use Rattle.std.{proofs.Common.{bit_or, bit_xor}, specs.Prelude.{if◌then◌else◌, ◌==◌}}
use Rattle.std.specs.Int.Bits.{or_zero_r, xor_zero_r}
use Rattle.std.proofs.lemmas.Nat.{and_shr, or_shr, xor_shr, and_mod, or_mod, xor_mod, and_mask}
use Rattle.bpf_insn_types.specs.declared.insn.{Width.TheVariants.{W32, W64}, AluOp.{AluOp}, AtomicOp.{AtomicOp}}
use Rattle.bpf_insn_types.specs.declared.insn.{AtomicOp.TheVariants.{Simple, Fetch, Xchg, Cmpxchg}, SimpleOp.{SimpleOp}}
use Rattle.bpf_insn_types.{specs.Words.{alu, computed, operator}, proofs.WordLaws.{alu-words}}
use Rattle.bpf_insn_types.specs.declared.insn.SimpleOp.TheVariants as simple
use Rattle.array_maps.specs.{declared.access.{Half.{Half, TheVariants.{Low, High}}, Part.{Part}}, Accesses.{combined}}
use Rattle.array_maps.specs.declared.access.Part.TheVariants.{Whole, Half as Of}
use Rattle.array_maps.specs.Halves.{half_of, part_of, with_half, halves_added}
use Rattle.bpf_step_model.specs.{State.{Machine}, Run.{after_request}, Atomics.{width_of, other, element_left}}
use Rattle.bpf_step_model.specs.Step.{atomic_left, tells, request_of, map_operator, half_operator, idle_operand}

-- halves of a word with one of them replaced
replaced : (half : Half) (word n : ℕ) → half_of half (with_half half word n) ≡ n % 2 ^ 32
unfolding half_of with_half
replaced Low word n = omega arith
replaced High word n = omega arith

stays : (half : Half) (word n : ℕ) → word < 2 ^ 64 → half_of (other half) (with_half half word n) ≡ half_of (other half)
    word
unfolding half_of with_half
stays Low word n fits = omega arith
stays High word n fits = omega arith

with_half-fits : (half : Half) (word n : ℕ) → with_half half word n < 2 ^ 64
unfolding with_half
with_half-fits Low word n = omega arith
with_half-fits High word n = omega arith

half_of-fits : (half : Half) (word : ℕ) → word < 2 ^ 64 → half_of half word < 2 ^ 32
unfolding half_of
half_of-fits Low word fits = omega arith
half_of-fits High word fits = omega arith

-- halves of bits
half_of-or : (half : Half) (a b : ℕ) → half_of half (bit_or a b) ≡ bit_or (half_of half a) (half_of half b)
unfolding half_of
half_of-or Low a b = or_mod a b 32
half_of-or High a b = or_shr a b 32

half_of-and : (half : Half) (a b : ℕ) → half_of half (bit_and a b) ≡ bit_and (half_of half a) (half_of half b)
unfolding half_of
half_of-and Low a b = and_mod a b 32
half_of-and High a b = and_shr a b 32

half_of-xor : (half : Half) (a b : ℕ) → half_of half (bit_xor a b) ≡ bit_xor (half_of half a) (half_of half b)
unfolding half_of
half_of-xor Low a b = xor_mod a b 32
half_of-xor High a b = xor_shr a b 32

half_of-added : (half : Half) (a b : ℕ) → half_of half (halves_added a b) ≡ (half_of half a + half_of half b) % 2 ^ 32
unfolding half_of halves_added
half_of-added Low a b = omega arith
half_of-added High a b = omega arith

-- an operation of 32 bits, from a half
alu-half : (op : AluOp) (h n : ℕ) → h < 2 ^ 32 → alu W32 op h n ≡ computed W32 op h (n % 2 ^ 32)
unfolding alu
alu-half op h n fits = let low : h % 2 ^ 32 ≡ h = omega arith in ap (λ a. computed W32 op a (n % 2 ^ 32)) low

idle-fits : (op : SimpleOp) → idle_operand op < 2 ^ 64
idle-fits simple.Add = omega arith
idle-fits simple.Or = omega arith
idle-fits simple.And = omega arith
idle-fits simple.Xor = omega arith

-- what a reduce of a half is, by its operator on words
reduced : (op : SimpleOp) (half : Half) (word n : ℕ) → word < 2 ^ 64 →
    half_of half (combined (half_operator op) word (with_half half (idle_operand op) n)) ≡ alu W32 (operator op)
    (half_of half word) n
unfolding combined
reduced simple.Add half word n fits =
    half_of-added half word (with_half half 0 n) ∙ ap (λ k. (half_of half word + k) % 2 ^ 32) (replaced half 0 n)
    ∙ sym (alu-half AluOp.Add (half_of half word) n (half_of-fits half word fits))
reduced simple.Or half word n fits =
    ap (half_of half) (alu-words AluOp.Or word (with_half half 0 n) fits (with_half-fits half 0 n))
    ∙ half_of-or half word (with_half half 0 n)
    ∙ ap (bit_or (half_of half word)) (replaced half 0 n)
    ∙ sym (alu-half AluOp.Or (half_of half word) n (half_of-fits half word fits))
reduced simple.And half word n fits =
    ap (half_of half) (alu-words AluOp.And word (with_half half (2 ^ 64 - 1) n) fits (with_half-fits half (2 ^ 64 - 1)
    n)) ∙ half_of-and half word (with_half half (2 ^ 64 - 1) n)
    ∙ ap (bit_and (half_of half word)) (replaced half (2 ^ 64 - 1) n)
    ∙ sym (alu-half AluOp.And (half_of half word) n (half_of-fits half word fits))
reduced simple.Xor half word n fits =
    ap (half_of half) (alu-words AluOp.Xor word (with_half half 0 n) fits (with_half-fits half 0 n))
    ∙ half_of-xor half word (with_half half 0 n)
    ∙ ap (bit_xor (half_of half word)) (replaced half 0 n)
    ∙ sym (alu-half AluOp.Xor (half_of half word) n (half_of-fits half word fits))

-- halves of the operands that change nothing
zero_half : (half : Half) → half_of half 0 ≡ 0
unfolding half_of
zero_half Low = refl
zero_half High = refl

full_half : (half : Half) → half_of half (2 ^ 64 - 1) ≡ 2 ^ 32 - 1
unfolding half_of
full_half Low = refl
full_half High = refl

-- what it leaves of the other half
unreduced : (op : SimpleOp) (half : Half) (word n : ℕ) → word < 2 ^ 64 →
    half_of (other half) (combined (half_operator op) word (with_half half (idle_operand op) n)) ≡ half_of (other half)
    word
unfolding combined
unreduced simple.Add half word n fits =
    let h = half_of (other half) word in
    let small = half_of-fits (other half) word fits in
    let low : (h + 0) % 2 ^ 32 ≡ h = omega (arith, small) in
    half_of-added (other half) word (with_half half 0 n)
    ∙ ap (λ k. (h + k) % 2 ^ 32) (stays half 0 n (idle-fits simple.Add) ∙ zero_half (other half)) ∙ low
unreduced simple.Or half word n fits =
    ap (half_of (other half)) (alu-words AluOp.Or word (with_half half 0 n) fits (with_half-fits half 0 n))
    ∙ half_of-or (other half) word (with_half half 0 n)
    ∙ ap (bit_or (half_of (other half) word)) (stays half 0 n (idle-fits simple.Or) ∙ zero_half (other half))
    ∙ or_zero_r (half_of (other half) word)
unreduced simple.And half word n fits =
    let h = half_of (other half) word in
    let small = half_of-fits (other half) word fits in
    let low : h % 2 ^ 32 ≡ h = omega (arith, small) in
    ap (half_of (other half)) (alu-words AluOp.And word (with_half half (2 ^ 64 - 1) n) fits
    (with_half-fits half (2 ^ 64 - 1) n))
    ∙ half_of-and (other half) word (with_half half (2 ^ 64 - 1) n)
    ∙ ap (bit_and h) (stays half (2 ^ 64 - 1) n (idle-fits simple.And) ∙ full_half (other half)) ∙ and_mask h 32 ∙ low
unreduced simple.Xor half word n fits =
    ap (half_of (other half)) (alu-words AluOp.Xor word (with_half half 0 n) fits (with_half-fits half 0 n))
    ∙ half_of-xor (other half) word (with_half half 0 n)
    ∙ ap (bit_xor (half_of (other half) word)) (stays half 0 n (idle-fits simple.Xor) ∙ zero_half (other half))
    ∙ xor_zero_r (half_of (other half) word)

-- an operator on whole words, and on the numbers of halves
whole_same : (op : SimpleOp) (word n : ℕ) → combined (map_operator op) word n ≡ alu W64 (operator op) word n
unfolding combined
whole_same simple.Add word n = refl
whole_same simple.Or word n = refl
whole_same simple.And word n = refl
whole_same simple.Xor word n = refl

numbers_same : (op : SimpleOp) (h n : ℕ) → h < 2 ^ 32 → alu W64 (operator op) h (n % 2 ^ 32) % 2 ^ 32
    ≡ alu W32 (operator op) h n
unfolding alu
numbers_same simple.Add h n fits = omega arith
numbers_same simple.Or h n fits =
    let first : h % 2 ^ 64 ≡ h = omega arith in
    let second : n % 2 ^ 32 % 2 ^ 64 ≡ n % 2 ^ 32 = omega arith in
    let again : n % 2 ^ 32 % 2 ^ 32 ≡ n % 2 ^ 32 = omega arith in
    ap (λ a. bit_or a (n % 2 ^ 32 % 2 ^ 64) % 2 ^ 32) first ∙ ap (λ b. bit_or h b % 2 ^ 32) second
    ∙ or_mod h (n % 2 ^ 32) 32 ∙ ap (bit_or (h % 2 ^ 32)) again
numbers_same simple.And h n fits =
    let first : h % 2 ^ 64 ≡ h = omega arith in
    let second : n % 2 ^ 32 % 2 ^ 64 ≡ n % 2 ^ 32 = omega arith in
    let again : n % 2 ^ 32 % 2 ^ 32 ≡ n % 2 ^ 32 = omega arith in
    ap (λ a. bit_and a (n % 2 ^ 32 % 2 ^ 64) % 2 ^ 32) first ∙ ap (λ b. bit_and h b % 2 ^ 32) second
    ∙ and_mod h (n % 2 ^ 32) 32 ∙ ap (bit_and (h % 2 ^ 32)) again
numbers_same simple.Xor h n fits =
    let first : h % 2 ^ 64 ≡ h = omega arith in
    let second : n % 2 ^ 32 % 2 ^ 64 ≡ n % 2 ^ 32 = omega arith in
    let again : n % 2 ^ 32 % 2 ^ 32 ≡ n % 2 ^ 32 = omega arith in
    ap (λ a. bit_xor a (n % 2 ^ 32 % 2 ^ 64) % 2 ^ 32) first ∙ ap (λ b. bit_xor h b % 2 ^ 32) second
    ∙ xor_mod h (n % 2 ^ 32) 32 ∙ ap (bit_xor (h % 2 ^ 32)) again

-- a move
moved_whole : (word n : ℕ) → n < 2 ^ 64 → n ≡ alu W64 AluOp.Mov word n
unfolding alu
moved_whole word n fits = omega arith

moved_half : (h n : ℕ) → n % 2 ^ 32 % 2 ^ 32 ≡ alu W32 AluOp.Mov h n
unfolding alu
moved_half h n = omega arith

low_half : (n : ℕ) → half_of Low n ≡ n % 2 ^ 32
unfolding half_of
low_half n = refl

-- what is left of a half by a change that tells
exchanged_half : (half : Half) (word left left' : ℕ) → left ≡ left' → half_of half (with_half half word left)
    ≡ left' % 2 ^ 32
exchanged_half half word left left' same = replaced half word left ∙ ap (λ n. n % 2 ^ 32) same

compared_half : (equal : Bool) (h n : ℕ) → h < 2 ^ 32 → (if equal then n % 2 ^ 32 else h) % 2 ^ 32 ≡ (if equal
    then alu W32 AluOp.Mov h n else h)
compared_half true h n fits = moved_half h n
compared_half false h n fits = omega arith

compared_whole : (equal : Bool) (word n : ℕ) → n < 2 ^ 64 → (if equal then n else word) ≡ (if equal
    then alu W64 AluOp.Mov word n else word)
compared_whole true word n fits = moved_whole word n fits
compared_whole false word n fits = refl

pub left_same : (part : Part) (op : AtomicOp) (src word operand compare : ℕ) → word < 2 ^ 64 → operand < 2 ^ 64
    → compare < 2 ^ 64 →
    part_of part (element_left part op src word operand compare) ≡ atomic_left (width_of part) op (part_of part word)
    operand compare
left_same Whole (Simple op) src word operand compare fits first second = whole_same op word operand
left_same Whole (Fetch op) src word operand compare fits first second = whole_same op word operand
left_same Whole Xchg src word operand compare fits first second = moved_whole word operand first
left_same Whole Cmpxchg src word operand compare fits first second =
    let low : compare ≡ compare % 2 ^ 64 = omega arith in
    compared_whole (word == compare) word operand first ∙ ap (λ n. if word == n then alu W64 AluOp.Mov word operand
    else word) low
left_same (Of half) (Simple op) src word operand compare fits first second = reduced op half word operand fits
left_same (Of half) (Fetch op) src word operand compare fits first second =
    exchanged_half half word (combined (map_operator op) (half_of half word) (half_of Low operand))
    (alu W64 (operator op) (half_of half word) (operand % 2 ^ 32))
    (whole_same op (half_of half word) (half_of Low operand) ∙ ap (alu W64 (operator op) (half_of half word))
    (low_half operand))
    ∙ numbers_same op (half_of half word) operand (half_of-fits half word fits)
left_same (Of half) Xchg src word operand compare fits first second =
    exchanged_half half word (half_of Low operand) (operand % 2 ^ 32) (low_half operand)
    ∙ moved_half (half_of half word) operand
left_same (Of half) Cmpxchg src word operand compare fits first second =
    let h = half_of half word in
    exchanged_half half word (if h == half_of Low compare then half_of Low operand else h) (if h == compare % 2 ^ 32
    then operand % 2 ^ 32 else h)
    (ap (λ n. if h == n then half_of Low operand else h) (low_half compare) ∙ ap (λ n. if h == compare % 2 ^ 32 then n
    else h) (low_half operand))
    ∙ compared_half (h == compare % 2 ^ 32) h operand (half_of-fits half word fits)

pub kept_other : (half : Half) (op : AtomicOp) (src word operand compare : ℕ) → word < 2 ^ 64 →
    half_of (other half) (element_left (Of half) op src word operand compare) ≡ half_of (other half) word
kept_other half (Simple op) src word operand compare fits = unreduced op half word operand fits
kept_other half (Fetch op) src word operand compare fits =
    stays half word (combined (map_operator op) (half_of half word) (half_of Low operand)) fits
kept_other half Xchg src word operand compare fits = stays half word (half_of Low operand) fits
kept_other half Cmpxchg src word operand compare fits = stays half word (if half_of half word == half_of Low compare
    then half_of Low operand else half_of half word) fits

pub told_same : (part : Part) (op : AtomicOp) (src word operand compare : ℕ) (m : Machine) →
    after_request (request_of part op src operand compare) word m ≡ tells op src (part_of part word) m
told_same Whole (Simple op) src word operand compare m = refl
told_same (Of half) (Simple op) src word operand compare m = refl
told_same part (Fetch op) src word operand compare m = refl
told_same part Xchg src word operand compare m = refl
told_same part Cmpxchg src word operand compare m = refl
