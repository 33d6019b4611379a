-- The lines of a unit as they are printed: the first line and those of instructions.
use Rattle.std.specs.{Prelude.{ℕ, suc, ℤ, pos, negsuc, List, [], ◌++◌, codes}, Fmt.{decimal, signed_decimal}}
use Rattle.std.specs.List.{flat_map}
use Rattle.bpf_insn_types.specs.declared.insn.Insn.{Insn}
use Rattle.bpf_text_lex.specs.declared.value.{Value.{Value}, Operands.{Operands, TheVariants.{Zero, One, Two, Three}}}
use Rattle.bpf_text_lex.specs.{MnemonicWords.{mnemonic_word}, Statement.{mnemonic_of, operands_of}}
use Rattle.bpf_text_lex.specs.declared.value.Value.TheVariants as value

-- a distance always has a sign
abbrev pub distance_spelling : ℤ → List ℕ
distance_spelling (pos n) = codes "+" ++ decimal n
distance_spelling (negsuc n) = codes "-" ++ decimal (suc n)

-- an operand
abbrev pub value_spelling : Value → List ℕ
value_spelling (value.Reg r) = codes "r" ++ decimal r
value_spelling (value.Imm imm) = signed_decimal imm
value_spelling (value.Wide n) = decimal n
value_spelling (value.Distance d) = distance_spelling d
value_spelling (value.FarDistance d) = distance_spelling d
value_spelling (value.Address base offset) = codes "[" ++ (codes "r" ++ decimal base) ++ distance_spelling offset
    ++ codes "]"

-- operands: a space before the first, a comma and a space before the others
abbrev pub operands_spelling : Operands → List ℕ
operands_spelling Zero = []
operands_spelling (One a) = codes " " ++ value_spelling a
operands_spelling (Two a b) = codes " " ++ value_spelling a ++ codes ", " ++ value_spelling b
operands_spelling (Three a b c) = codes " " ++ value_spelling a ++ codes ", " ++ value_spelling b ++ codes ", "
    ++ value_spelling c

-- an instruction
abbrev pub insn_spelling : Insn → List ℕ
insn_spelling i = mnemonic_word (mnemonic_of i) ++ operands_spelling (operands_of i)

-- an instruction's line
abbrev pub insn_line : Insn → List ℕ
insn_line i = insn_spelling i ++ codes "\n"

-- a size after a space
abbrev pub size_spelling : ℕ → List ℕ
size_spelling size = codes " " ++ decimal size

-- the first line of a unit, without and with its newline
abbrev pub head_spelling : List ℕ → List ℕ
head_spelling sizes = codes "maps" ++ flat_map size_spelling sizes

abbrev pub head_line : List ℕ → List ℕ
head_line sizes = head_spelling sizes ++ codes "\n"
