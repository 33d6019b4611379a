-- A unit is read back from its hex form, so no other unit has it.
use Rattle.std.proofs.Common.{◌≡◌, ℕ, zero, suc, ◌+◌, ◌*◌, ◌/◌, ◌%◌, ◌<◌, ◌≤◌, true, List, [], ◌∷◌, ◌++◌, length, take}
use Rattle.std.proofs.Common.{drop, get_or, Result, Ok, Err, refl, sym, ap, ap₂, ◌∙◌, subst, append_assoc, arith}
use Rattle.std.{specs.{Prelude.{nat_le, nat_lt}, List.{list_all}}, proofs.lemmas.List.Sums.{AllPass-from_list_all}}
use Rattle.std.proofs.lemmas.Bool.{le-leb, le-ltb, and_parts, and_from, cond-true, cond-false}
use Rattle.std.proofs.lemmas.List.{append-nil, length-append, length-drop, length-take-le, take-append-drop}
use Rattle.hex.specs.Hex.{lower_digits, encode_with, encode_lower}
use Rattle.hex.proofs.HexLemmas.{length-encode_with, decode_of-encode_lower}
use Rattle.bpf_insn_types.specs.{declared.insn.Insn.{Insn}, Limits.{AreSizes, IsUnit}, Program.{Program, slot_count}}
use Rattle.bpf_insn.{specs.Spelling.{program_spelling}, proofs.Programs.{one_program}}
use Rattle.bpf_text_lex.specs.{Lines.{lines_of, contents_from, contents_of}, Words.{words_of}}
use Rattle.bpf_text_lex.specs.{Refusals.{at_line, ◌>>=◌}, declared.text_error.TextError.{TextError}}
use Rattle.bpf_text_lex.{specs.PrintedLines.{head_spelling}, proofs.ResultLaws.{same_ok, mapped}}
use Rattle.bpf_text_lex.proofs.{SolidWords.{is_solid, solids_in_line, ends_word, Line}, PrintedLineLaws.{contents-line}}
use Rattle.bpf_text_lex.proofs.PrintedHead.{word_first, head_back, head_is_line, head_short}
use Rattle.bpf_text_lex.specs.declared.text_error.TextFault.TheVariants as faults
use Rattle.bpf_text_lex.specs.declared.text_error.TextError.TheVariants as errors
use Rattle.bpf_text.{specs.PrintedUnits.{slot_lines, hex_lines, hex_form}, proofs.HexLines.{slot_lines-slot}}
use Rattle.bpf_text.specs.HexText.{SizesAndBytes, as_bytes, bytes_of_lines, bytes_behind, hex_parts_of, hex_text}
use Rattle.bpf_text.proofs.SpelledBytes.{Bytes, bytes-parts, bytes_at_index, SlotBytes, spelled_bytes}

-- ---- a line of digits

digit_solid : (d : ℕ) → d < 16 → is_solid (get_or lower_digits d 0) ≡ true
digit_solid d lt = AllPass-from_list_all is_solid lower_digits refl d 0 lt

encode_solid : (bytes : List ℕ) → Bytes bytes → list_all is_solid (encode_lower bytes) ≡ true
unfolding encode_with
encode_solid [] h = refl
encode_solid (b ∷ rest) h =
    let fits = h.0 in
    and_from (is_solid (get_or lower_digits (b / 16) 0)) _ (digit_solid (b / 16) (omega (arith, fits)))
    (and_from (is_solid (get_or lower_digits (b % 16) 0)) (list_all is_solid (encode_lower rest))
    (digit_solid (b % 16) (omega arith)) (encode_solid rest h.1))

-- a word alone is a line
word_line : (w : List ℕ) → 0 < length w → list_all is_solid w ≡ true → Line w
word_line [] some e = absurd (omega arith)
word_line (b ∷ bs) some e = record {
  inner = solids_in_line (b ∷ bs) e;
  begins = (b, bs, refl, (and_parts (is_solid b) (list_all is_solid bs) e).0);
  ends = ends_word (b ∷ bs) some e;
}

-- the digits of a slot
record OneSlot (slot : List ℕ) : Type 0 where
  are : Bytes slot
  long : length slot ≡ 8

digits_long : (slot : List ℕ) → OneSlot slot → length (encode_lower slot) ≡ 16
digits_long slot s = (let long = s.long in let twice = length-encode_with lower_digits slot in
    omega (arith, long, twice))

digits_line : (slot : List ℕ) → OneSlot slot → Line (encode_lower slot)
digits_line slot s = (let long = digits_long slot s in word_line (encode_lower slot) (omega (arith, long))
    (encode_solid slot s.are))

digits_word : (slot : List ℕ) → OneSlot slot → words_of (encode_lower slot) ≡ encode_lower slot ∷ []
digits_word slot s =
    let long = digits_long slot s in
    ap words_of (sym (append-nil (encode_lower slot))) ∙ word_first (encode_lower slot) [] (omega (arith, long))
    (encode_solid slot s.are) refl

digits_read : (n before : ℕ) (slot : List ℕ) → OneSlot slot → before + 8 ≤ 32768
    → at_line n (bytes_of_lines before (words_of (encode_lower slot))) ≡ Ok slot
digits_read n before slot s le =
    let long = s.long in
    ap (λ (ws : List (List ℕ)). at_line n (bytes_of_lines before ws)) (digits_word slot s)
    ∙ ap (λ r. at_line n (as_bytes before r)) (decode_of-encode_lower slot (bytes_at_index slot s.are))
    ∙ ap (at_line n) (cond-true (nat_le (before + length slot) 32768) (Ok slot) (Err faults.TooLong)
    (le-leb _ _ (omega (arith, le, long))))

-- ---- all lines of digits

-- bytes of at least one slot, as the first slot and the others
cut : (bytes : List ℕ) → Bytes bytes → 8 ≤ length bytes → OneSlot (take 8 bytes) × Bytes (drop 8 bytes)
cut bytes are le =
    let parts = bytes-parts (take 8 bytes) (drop 8 bytes) (subst Bytes (sym (take-append-drop 8 bytes)) are) in
    (record { are = parts.0; long = length-take-le 8 bytes le }, parts.1)

no_lines : (bytes : List ℕ) → length bytes ≡ 0 → (slot_lines bytes ≡ []) × (bytes ≡ [])
unfolding slot_lines
no_lines [] none = (refl, refl)
no_lines (b ∷ bs) none = absurd (omega arith)

rest_long : (k : ℕ) (bytes : List ℕ) → length bytes ≡ 8 * suc k → length (drop 8 bytes) ≡ 8 * k
rest_long k bytes long = omega (arith, long, length-drop 8 bytes)

bytes_back : (k : ℕ) (before bytes : List ℕ) (n : ℕ) → length bytes ≡ 8 * k → Bytes bytes → length before + length bytes
    ≤ 32768 →
    bytes_behind before (contents_from n (lines_of (slot_lines bytes))) ≡ Ok (before ++ bytes)
unfolding bytes_behind
bytes_back zero before bytes n long are le =
    let none = no_lines bytes (omega (arith, long)) in
    ap (λ (text : List ℕ). bytes_behind before (contents_from n (lines_of text))) none.0
    ∙ ap (λ (all : List ℕ). Ok all) (sym (append-nil before) ∙ ap (λ (more : List ℕ). before ++ more) (sym none.1))
bytes_back (suc k) before bytes n long are le =
    let slot = take 8 bytes in
    let rest = drop 8 bytes in
    let c = cut bytes are (omega (arith, long)) in
    let others = rest_long k bytes long in
    let longer = length-append before slot in
    let lines = contents_from (n + 1) (lines_of (slot_lines rest)) in
    ap (λ (text : List ℕ). bytes_behind before (contents_from n (lines_of text)))
    (slot_lines-slot bytes (omega (arith, long)))
    ∙ ap (bytes_behind before) (contents-line n (encode_lower slot) (slot_lines rest) (digits_line slot c.0))
    ∙ ap (λ (r : Result (List ℕ) TextError). r >>= λ m. bytes_behind (before ++ m) lines) (digits_read n (length before)
    slot c.0 (omega (arith, le, long)))
    ∙ bytes_back k (before ++ slot) rest (n + 1) others c.1 (omega (arith, le, long, others, c.0.long, longer))
    ∙ ap (λ (all : List ℕ). Ok all) (append_assoc before slot rest ∙ ap (λ (more : List ℕ). before ++ more)
    (take-append-drop 8 bytes))

lines_long : (k : ℕ) (bytes : List ℕ) → length bytes ≡ 8 * k → Bytes bytes → length (slot_lines bytes) ≡ 17 * k
lines_long zero bytes long are = (let none = no_lines bytes (omega (arith, long)) in ap length none.0)
lines_long (suc k) bytes long are =
    let c = cut bytes are (omega (arith, long)) in
    let others = lines_long k (drop 8 bytes) (rest_long k bytes long) c.1 in
    let digits = digits_long (take 8 bytes) c.0 in
    let line = length-append (encode_lower (take 8 bytes)) (10 ∷ []) in
    let whole = length-append (encode_lower (take 8 bytes) ++ 10 ∷ []) (slot_lines (drop 8 bytes)) in
    omega (arith, others, digits, line, whole, ap length (slot_lines-slot bytes (omega (arith, long))))

-- ---- the whole text

-- these sizes and bytes
abbrev parts : (sizes bytes : List ℕ) → SizesAndBytes
parts sizes bytes = record { sizes = sizes; bytes = bytes }

whole_short : (sizes bytes : List ℕ) (k : ℕ) → AreSizes sizes → SlotBytes k bytes → k ≤ 4096
    → length (hex_lines sizes bytes) ≤ 1048576
whole_short sizes bytes k e b few =
    let long = length-append (head_spelling sizes ++ 10 ∷ []) (slot_lines bytes) in
    omega (arith, head_short sizes e, lines_long k bytes b.long b.are, few, long)

whole_back : (sizes bytes : List ℕ) (k : ℕ) → AreSizes sizes → SlotBytes k bytes → k ≤ 4096
    → hex_parts_of (contents_of (hex_lines sizes bytes)) ≡ Ok (parts sizes bytes)
unfolding hex_parts_of
whole_back sizes bytes k e b few =
    let long = b.long in
    let lines = contents_from 2 (lines_of (slot_lines bytes)) in
    let contents : contents_of (hex_lines sizes bytes) ≡ (1, head_spelling sizes) ∷ lines =
    contents-line 1 (head_spelling sizes) (slot_lines bytes) (head_is_line sizes e) in
    let behind : bytes_behind [] lines ≡ Ok bytes =
    bytes_back k [] bytes 2 long b.are (omega (arith, long, few)) in
    rw (contents, head_back sizes e, behind) refl

read_whole : (sizes bytes : List ℕ) (k : ℕ) → AreSizes sizes → SlotBytes k bytes → k ≤ 4096
    → hex_text (hex_lines sizes bytes) ≡ Ok (parts sizes bytes)
read_whole sizes bytes k e b few =
    cond-false (nat_lt 1048576 (length (hex_lines sizes bytes))) (Err (errors.Refused faults.TooLong 0))
    (hex_parts_of (contents_of (hex_lines sizes bytes))) (le-ltb _ _ (whole_short sizes bytes k e b few))
    ∙ whole_back sizes bytes k e b few

pub hex_back : (p : Program) (bytes text : List ℕ) → IsUnit p → program_spelling p.insns ≡ Ok bytes
    → hex_form p ≡ Ok text → hex_text text ≡ Ok (parts p.sizes bytes)
hex_back p bytes text u spelled hex =
    let written = mapped (hex_lines p.sizes) (program_spelling p.insns) text hex in
    let same : bytes ≡ written.value = same_ok bytes written.value (program_spelling p.insns) spelled written.is_there
    in
    ap hex_text (sym (ap (hex_lines p.sizes) same ∙ written.is_image))
    ∙ read_whole p.sizes bytes (slot_count p.insns) u.sizes (spelled_bytes 0 p.insns bytes u.insns spelled) u.slots

pub one_unit : (p q : Program) (text : List ℕ) → IsUnit p → IsUnit q → hex_form p ≡ Ok text → hex_form q ≡ Ok text
    → p ≡ q
one_unit p q text u v e h =
    let one = mapped (hex_lines p.sizes) (program_spelling p.insns) text e in
    let other = mapped (hex_lines q.sizes) (program_spelling q.insns) text h in
    let same = same_ok (parts p.sizes one.value) (parts q.sizes other.value) (hex_text text)
    (hex_back p one.value text u one.is_there e) (hex_back q other.value text v other.is_there h) in
    let bytes : other.value ≡ one.value = sym (ap (λ (x : SizesAndBytes). x.bytes) same) in
    let insns : p.insns ≡ q.insns = one_program p.insns q.insns one.value u.insns v.insns one.is_there (other.is_there
    ∙ ap (λ (bs : List ℕ). Ok bs) bytes) in
    ap₂ (λ (sizes : List ℕ) (is : List Insn). program_of sizes is) (ap (λ (x : SizesAndBytes). x.sizes) same) insns
  where
    program_of : List ℕ → List Insn → Program
    program_of sizes insns = record { sizes = sizes; insns = insns }
