-- Reading instructions one after the other, as a loop does.
use Rattle.std.proofs.Common.{◌≡◌, ℕ, ◌+◌, ◌-◌, ◌*◌, ◌/◌, ◌≤◌, ◌<◌, List, [], ◌∷◌, ◌++◌, length, drop, take, Result}
use Rattle.std.proofs.Common.{Ok, Err, refl, sym, ap, ◌∙◌, append_assoc, length-drop, arith}
use Rattle.std.{proofs.lemmas.List.{append-nil, nil_from_length, take_all}, specs.{Global.{Vec}, Prelude.{IfOk}}}
use Rattle.bpf_insn_types.specs.{declared.insn.Insn.{Insn}, Slots.{slots_of}, Values.{AreInsns}}
use Rattle.bpf_insn_types.specs.Outcome.{RefusalMatches, MatchesUnlessMemory}
use Rattle.bpf_insn.specs.declared.codec_error.CodecError.{CodecError, TheVariants.{Refused, Memory}}
use Rattle.bpf_insn.specs.{SlotBytes.{AreBytes}, CodecRefusal.{codec_refusal}, Spelling.{program_spelling}}
use Rattle.bpf_insn.specs.Reading.{first_insn, FailsFirst, slots_in, insn_before, insns_in, reading}
use Rattle.bpf_insn.proofs.{Bytes.{drop-fits}, Fronts.{from_slot, goes, refuses}, Programs.{is_front, reading_found}}

-- an instruction that is read lies within its bytes
pub first_insn-len : (bytes : List ℕ) (i : Insn) → AreBytes bytes → first_insn bytes ≡ Ok i
    → 8 * slots_of i ≤ length bytes
first_insn-len bytes i fits e = (is_front bytes i fits e).within

-- instructions before others
abbrev pub with_front : List Insn → Result (List Insn) CodecError → Result (List Insn) CodecError
with_front is (Ok later) = Ok (is ++ later)
with_front is (Err e) = Err e

-- some instructions are read, and the rest of the bytes is still to read
pub record IsPartRead (bytes rest : List ℕ) (is : List Insn) : Type 0 where
  pub fits : AreBytes rest
  pub within : length rest ≤ length bytes
  pub goes_on : with_front is (from_slot ((length bytes - length rest) / 8) rest) ≡ reading bytes

front_then : (is : List Insn) (n : ℕ) (i : Insn) (later : Result (List Insn) CodecError)
    → with_front is (insn_before n (Ok i) later) ≡ with_front (is ++ i ∷ []) later
front_then is n i (Ok l) = ap (λ (x : List Insn). Ok x) (sym (append_assoc is (i ∷ []) l))
front_then is n i (Err e) = refl

pub goes_on : (bytes rest after : List ℕ) (is : List Insn) (i : Insn) → IsPartRead bytes rest is
    → first_insn rest ≡ Ok i
    → after ≡ drop (8 * slots_of i) rest → IsPartRead bytes after (is ++ i ∷ [])
goes_on bytes rest after is i h e cut =
    let n = (length bytes - length rest) / 8 in
    let within = (is_front rest i h.fits e).within in
    let len : length after ≡ length rest - 8 * slots_of i = ap length cut ∙ length-drop (8 * slots_of i) rest in
    let slot : (length bytes - length after) / 8 ≡ n + slots_of i = omega (arith, len, within, h.within) in
    record {
      fits = rw cut (drop-fits (8 * slots_of i) rest h.fits);
      within = omega (arith, len, h.within);
      goes_on = rw (slot, cut) (sym (front_then is n i (from_slot (n + slots_of i) (drop (8 * slots_of i) rest)))
          ∙ ap (with_front is) (sym (goes rest i n within e)) ∙ h.goes_on);
    }

pub fails : (bytes rest : List ℕ) (is : List Insn) (e : CodecError) → 0 < length rest → IsPartRead bytes rest is
    → FailsFirst rest ((length bytes - length rest) / 8) e → RefusalMatches (codec_refusal e) (reading bytes)
fails bytes rest is Memory some h e = tt
fails bytes rest is (Refused f n) some h e =
    rw e.1 (sym h.goes_on ∙ ap (with_front is) (refuses rest f ((length bytes - length rest) / 8) some e.0))

-- what a slice from an index on is
pub behind : (k n m : ℕ) (xs : List ℕ) → k ≡ m → length xs - k ≤ n → take n (drop k xs) ≡ drop m xs
behind k n m xs e le = take_all n (drop k xs) (omega (arith, le, length-drop k xs)) ∙ ap (λ (x : ℕ). drop x xs) e

pub is_done : (bytes rest : List ℕ) (is : List Insn) → length rest ≡ 0 → IsPartRead bytes rest is
    → reading bytes ≡ Ok is
unfolding insns_in slots_in
is_done bytes rest is none h =
    sym (rw (nil_from_length rest none) at h.goes_on) ∙ ap (λ (x : List Insn). Ok x) (append-nil is)

pub begins : (bytes : List ℕ) → AreBytes bytes → IsPartRead bytes bytes []
unfolding reading
begins bytes fits =
    let slot : (length bytes - length bytes) / 8 ≡ 0 = omega arith in
    record { fits = fits; within = omega arith; goes_on = rw slot (no_front (from_slot 0 bytes)) }
  where
    no_front : (r : Result (List Insn) CodecError) → with_front [] r ≡ r
    no_front (Ok is) = refl
    no_front (Err e) = refl

-- what a program's reading gives is spelled so
pub if_found : (bytes : List ℕ) (r : Result (Vec Insn) CodecError) → AreBytes bytes
    → MatchesUnlessMemory codec_refusal (λ v. v.items) r (reading bytes) → IfOk r (λ v. AreInsns v.items
    × (program_spelling v.items ≡ Ok bytes))
if_found bytes (Ok v) fits given = reading_found bytes v.items fits given
if_found bytes (Err e) fits given = tt
