-- Spelling instructions one after the other, as a loop does.
use Rattle.std.proofs.Common.{◌≡◌, ℕ, ◌+◌, ◌*◌, ◌/◌, ◌%◌, ◌<◌, List, ◌∷◌, ◌++◌, length, drop, get_or, Result, Ok, Err}
use Rattle.std.proofs.{Common.{refl, sym, ap, ◌∙◌, append_assoc, length-append, arith}, lemmas.List.{drop_more}}
use Rattle.bpf_insn_types.specs.{declared.insn.Insn.{Insn}, Slots.{slots_of}, Outcome.{RefusalMatches}}
use Rattle.bpf_insn.specs.declared.codec_error.CodecError.{CodecError, TheVariants.{Refused, Memory}}
use Rattle.bpf_insn.specs.Spelling.{spelling, bytes_at, both_or_refusal, spelling_from, program_spelling, Appends}
use Rattle.bpf_insn.{specs.CodecRefusal.{codec_refusal}, proofs.Lengths.{spelled_len}}

-- the first k instructions are spelled, and the rest is still to spell
pub record IsBegun (is : List Insn) (k : ℕ) (bytes : List ℕ) : Type 0 where
  pub whole : length bytes % 8 ≡ 0
  pub rest : both_or_refusal (Ok bytes) (spelling_from (length bytes / 8) (drop k is)) ≡ program_spelling is

both_or_refusal-both_or_refusal : (a b : List ℕ) (r : Result (List ℕ) CodecError)
    → both_or_refusal (Ok a) (both_or_refusal (Ok b) r) ≡ both_or_refusal (Ok (a ++ b)) r
both_or_refusal-both_or_refusal a b (Ok c) = ap (λ (x : List ℕ). Ok x) (sym (append_assoc a b c))
both_or_refusal-both_or_refusal a b (Err e) = refl

spelled_at : (is : List Insn) (k : ℕ) (i : Insn) (n : ℕ) (r : Result (List ℕ) CodecError) → k < length is
    → i ≡ get_or is k i → bytes_at n (spelling i) ≡ r
    → spelling_from n (drop k is) ≡ both_or_refusal r (spelling_from (n + slots_of i) (drop (k + 1) is))
spelled_at is k i n r lt e given =
    let later = spelling_from (n + slots_of i) (drop (k + 1) is) in
    ap (spelling_from n) (drop_more is k i lt ∙ ap (λ (x : Insn). x ∷ drop (k + 1) is) (sym e))
    ∙ ap (λ (x : Result (List ℕ) CodecError). both_or_refusal x later) given

pub goes_on : (is : List Insn) (k : ℕ) (i : Insn) (old new bytes : List ℕ) → k < length is → i ≡ get_or is k i
    → IsBegun is k old
    → bytes_at (length old / 8) (spelling i) ≡ Ok bytes → new ≡ old ++ bytes → IsBegun is (k + 1) new
goes_on is k i old new bytes lt e h given whole =
    let len : length bytes ≡ 8 * slots_of i = spelled_len (length old / 8) i bytes given in
    let total : length new ≡ length old + length bytes = ap length whole ∙ length-append old bytes in
    let next : length new / 8 ≡ length old / 8 + slots_of i = omega (arith, len, total, h.whole) in
    record {
      whole = omega (arith, len, total, h.whole);
      rest = rw (next, whole) (sym (both_or_refusal-both_or_refusal old bytes (spelling_from (length old / 8
          + slots_of i) (drop (k + 1) is))) ∙ ap (both_or_refusal (Ok old))
          (sym (spelled_at is k i (length old / 8) (Ok bytes) lt e given)) ∙ h.rest);
    }

pub ends : (is : List Insn) (k : ℕ) (i : Insn) (old new : List ℕ) (e : CodecError) → k < length is → i ≡ get_or is k i
    → IsBegun is k old
    → Appends old new i (Err e) → RefusalMatches (codec_refusal e) (program_spelling is)
ends is k i old new Memory lt at h given = tt
ends is k i old new (Refused fault n) lt at h given = sym h.rest
    ∙ ap (both_or_refusal (Ok old)) (spelled_at is k i (length old / 8) (Err (Refused fault n)) lt at given)
