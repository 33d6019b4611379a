-- A unit as it is printed: its canonical assembler text, and its hex form.
use Rattle.std.specs.{Prelude.{ℕ, List, [], ◌∷◌, ◌++◌, codes, Result}, List.{flat_map}, Result.{result_map_both}}
use Rattle.hex.specs.Hex.{encode_lower}
use Rattle.bpf_insn_types.specs.Program.{Program}
use Rattle.bpf_insn.specs.{declared.codec_error.CodecError.{CodecError}, Spelling.{program_spelling}}
use Rattle.bpf_text_lex.specs.PrintedLines.{insn_line, head_line}

-- the first line and a line for each instruction
abbrev pub assembler_lines : Program → List ℕ
assembler_lines program = head_line program.sizes ++ flat_map insn_line program.insns

-- the same, refused as the instructions' bytes are
abbrev pub assembler_form : Program → Result (List ℕ) CodecError
assembler_form program = result_map_both (λ bytes. assembler_lines program) (λ e. e) (program_spelling program.insns)

-- slots of 8 bytes, a line of hex digits each
unfoldable pub slot_lines : List ℕ → List ℕ
slot_lines (a ∷ b ∷ c ∷ d ∷ e ∷ f ∷ g ∷ h ∷ rest) = encode_lower (a ∷ b ∷ c ∷ d ∷ e ∷ f ∷ g ∷ h ∷ []) ++ codes "\n"
    ++ slot_lines rest
slot_lines _ = []

-- the first line and a line for each slot of these bytes
abbrev pub hex_lines : (sizes bytes : List ℕ) → List ℕ
hex_lines sizes bytes = head_line sizes ++ slot_lines bytes

-- the same of a program's bytes, refused as they are
abbrev pub hex_form : Program → Result (List ℕ) CodecError
hex_form program = result_map_both (hex_lines program.sizes) (λ e. e) (program_spelling program.insns)
