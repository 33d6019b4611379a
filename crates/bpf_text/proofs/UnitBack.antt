-- A unit is read back from its canonical text.
use Rattle.std.proofs.Common.{◌≡◌, ℕ, ◌+◌, ◌*◌, ◌≤◌, List, [], ◌∷◌, ◌++◌, length, flat_map, Option, Result, Ok, Err}
use Rattle.std.{proofs.Common.{refl, sym, ap, ◌∙◌, append_assoc, append-nil, arith}, specs.Prelude.{nat_le, nat_lt}}
use Rattle.std.proofs.lemmas.{Bool.{le-leb, le-ltb, cond-true, cond-false}, List.{length-append}}
use Rattle.bpf_insn_types.specs.{declared.insn.Insn.{Insn}, Slots.{slots_of}, Values.{InsnFits, AreInsns}}
use Rattle.bpf_insn_types.specs.{Program.{slot_count, Program}, Limits.{IsUnit}}
use Rattle.bpf_insn_types.proofs.ProgramLaws.{slots_some, slot_count-append}
use Rattle.bpf_insn.specs.{declared.slot.Slot.{Slot}, Spelling.{spelling, bytes_at, spelling_from, program_spelling}}
use Rattle.bpf_insn.proofs.Programs.{both_ok, bytes_ok}
use Rattle.bpf_text_lex.specs.{Lines.{lines_of, contents_from, contents_of}, Refusals.{at_line, ◌>>=◌}}
use Rattle.bpf_text_lex.specs.declared.text_error.TextError.{TextError}
use Rattle.bpf_text_lex.specs.PrintedLines.{insn_spelling, insn_line, head_spelling}
use Rattle.bpf_text_lex.proofs.{ResultLaws.{same_ok, mapped}, PrintedInsns.{insn_is_line}}
use Rattle.bpf_text_lex.proofs.{PrintedLineLaws.{contents-line}, PrintedHead.{head_back, head_is_line, head_short}}
use Rattle.bpf_text_lex.specs.declared.text_error.TextFault.TheVariants as faults
use Rattle.bpf_text_lex.specs.declared.text_error.TextError.TheVariants as errors
use Rattle.bpf_text_operands.specs.{declared.labels.Label.{Label}, LabelTable.{slot_in}, Statements.{insn_of_line}}
use Rattle.bpf_text_operands.proofs.InsnBack.{insn_back}
use Rattle.bpf_text.specs.AssemblerText.{name_of, is_label, labels_from, label_at, in_limit, line_at, insns_behind}
use Rattle.bpf_text.specs.{AssemblerText.{unit_of, assembler_text}, PrintedUnits.{assembler_lines, assembler_form}}
use Rattle.bpf_text.proofs.PrintedLabels.{no_label}

-- ---- what has bytes

-- instructions that have bytes
abbrev Spelled : List Insn → Type 0
Spelled [] = Unit {0}
Spelled (i ∷ is) = ((ss : List Slot) × (spelling i ≡ Ok ss)) × Spelled is

spelled_from : (n : ℕ) (insns : List Insn) (bytes : List ℕ) → spelling_from n insns ≡ Ok bytes → Spelled insns
spelled_from n [] bytes e = tt
spelled_from n (i ∷ is) bytes e =
    let cut = both_ok (bytes_at n (spelling i)) (spelling_from (n + slots_of i) is) bytes e in
    let here = bytes_ok n (spelling i) cut.0 cut.2 in
    ((here.0, here.1), spelled_from (n + slots_of i) is cut.1 cut.3)

-- ---- the lines of instructions

-- lines from this number on, one an instruction
abbrev numbered : ℕ → List Insn → List (ℕ × List ℕ)
numbered n [] = []
numbered n (i ∷ is) = (n, insn_spelling i) ∷ numbered (n + 1) is

contents_of-insns : (n : ℕ) (insns : List Insn) → AreInsns insns → contents_from n (lines_of (flat_map insn_line insns))
    ≡ numbered n insns
contents_of-insns n [] fit = refl
contents_of-insns n (i ∷ is) fit =
    contents-line n (insn_spelling i) (flat_map insn_line is) (insn_is_line i fit.0).line
    ∙ ap (λ (lines : List (ℕ × List ℕ)). (n, insn_spelling i) ∷ lines) (contents_of-insns (n + 1) is fit.1)

line_read : (labels : List ℕ → Option Label) (slot n : ℕ) (i : Insn) (ss : List Slot) → InsnFits i → spelling i ≡ Ok ss
    → slot + slots_of i ≤ 4096 →
    at_line n (line_at labels slot n (insn_spelling i)) ≡ Ok (i ∷ [])
line_read labels slot n i ss fits e le =
    let line = insn_spelling i in
    let find : List ℕ → Option ℕ = λ name. slot_in (labels name) in
    ap (at_line n)
    (cond-false (is_label line) (label_at n (labels (name_of line))) (in_limit slot (insn_of_line find slot line))
    (no_label line (insn_is_line i fits).line)
    ∙ ap (in_limit slot) (insn_back find slot i ss fits e)
    ∙ cond-true (nat_le (slot + slots_of i) 4096) (Ok (i ∷ [])) (Err faults.TooLong) (le-leb _ _ le))

insns_back : (labels : List ℕ → Option Label) (before insns : List Insn) (n : ℕ) → AreInsns insns → Spelled insns
    → slot_count before + slot_count insns ≤ 4096 →
    insns_behind labels before (numbered n insns) ≡ Ok (before ++ insns)
unfolding insns_behind
insns_back labels before [] n fit spelled le = ap (λ (is : List Insn). Ok is) (sym (append-nil before))
insns_back labels before (i ∷ is) n fit spelled le =
    let more : slot_count (before ++ i ∷ []) ≡ slot_count before + slot_count (i ∷ []) =
    slot_count-append before (i ∷ []) in
    ap (λ (r : Result (List Insn) TextError). r >>= λ m. insns_behind labels (before ++ m) (numbered (n + 1) is))
    (line_read labels (slot_count before) n i spelled.0.0 fit.0 spelled.0.1 (omega (arith, le)))
    ∙ insns_back labels (before ++ i ∷ []) is (n + 1) fit.1 spelled.1 (omega (arith, le, more))
    ∙ ap (λ (all : List Insn). Ok all) (append_assoc before (i ∷ []) is)

-- ---- the whole text

lines_short : (insns : List Insn) → AreInsns insns → length (flat_map insn_line insns) ≤ 181 * slot_count insns
lines_short [] fit = omega arith
lines_short (i ∷ is) fit =
    let here = (insn_is_line i fit.0).short in
    let line = length-append (insn_spelling i) (10 ∷ []) in
    let long = length-append (insn_spelling i ++ 10 ∷ []) (flat_map insn_line is) in
    omega (arith, here, slots_some i, lines_short is fit.1, line, long)

whole_short : (p : Program) → IsUnit p → length (assembler_lines p) ≤ 1048576
whole_short p u =
    let long = length-append (head_spelling p.sizes ++ 10 ∷ []) (flat_map insn_line p.insns) in
    omega (arith, head_short p.sizes u.sizes, lines_short p.insns u.insns, u.slots, long)

whole_back : (p : Program) → IsUnit p → Spelled p.insns → unit_of (contents_of (assembler_lines p)) ≡ Ok p
unfolding unit_of
whole_back p u spelled =
    let lines = numbered 2 p.insns in
    let few = u.slots in
    let contents : contents_of (assembler_lines p) ≡ (1, head_spelling p.sizes) ∷ lines =
    contents-line 1 (head_spelling p.sizes) (flat_map insn_line p.insns) (head_is_line p.sizes u.sizes)
    ∙ ap (λ (ls : List (ℕ × List ℕ)). (1, head_spelling p.sizes) ∷ ls) (contents_of-insns 2 p.insns u.insns) in
    let behind : insns_behind (labels_from 0 lines) [] lines ≡ Ok p.insns =
    insns_back (labels_from 0 lines) [] p.insns 2 u.insns spelled (omega (arith, few)) in
    rw (contents, head_back p.sizes u.sizes, behind) refl

pub unit_back : (p : Program) (text : List ℕ) → IsUnit p → assembler_form p ≡ Ok text → assembler_text text ≡ Ok p
unit_back p text u e =
    let printed = mapped (λ bytes. assembler_lines p) (program_spelling p.insns) text e in
    ap assembler_text (sym printed.is_image)
    ∙ cond-false (nat_lt 1048576 (length (assembler_lines p))) (Err (errors.Refused faults.TooLong 0))
    (unit_of (contents_of (assembler_lines p))) (le-ltb _ _ (whole_short p u))
    ∙ whole_back p u (spelled_from 0 p.insns printed.value printed.is_there)

pub one_unit : (p q : Program) (text : List ℕ) → IsUnit p → IsUnit q → assembler_form p ≡ Ok text
    → assembler_form q ≡ Ok text → p ≡ q
one_unit p q text u v e h = same_ok p q (assembler_text text) (unit_back p text u e) (unit_back q text v h)
