-- The operands of a line: what kinds a mnemonic takes, and what a word of a kind means.
use Rattle.std.specs.Prelude.{ℕ, ℤ, ◌+◌, ◌-◌, ◌^◌, ◌==◌, ◌&&◌, ◌||◌, nat_lt, nat_le, Bool, false, if◌then◌else◌, List}
use Rattle.std.specs.Prelude.{length, take, drop, slice_index, position, Option, Some, None, is_ok, Result, Ok, Err}
use Rattle.std.specs.List.{position_or_len}
use Rattle.bpf_insn_types.specs.declared.insn.ImmKind.TheVariants as load
use Rattle.bpf_text_lex.specs.{Lines.{trim}, Names.{is_name}, Numbers.{is_number, number_in}}
use Rattle.bpf_text_lex.specs.FaultNumbers.{text_fault_number}
use Rattle.bpf_text_lex.specs.declared.{text_error.TextFault.{TextFault}, value.Value.{Value}}
use Rattle.bpf_text_lex.specs.declared.{mnemonic.Mnemonic.{Mnemonic}, value.Operands.{Operands}}
use Rattle.bpf_text_lex.specs.declared.text_error.TextFault.TheVariants as faults
use Rattle.bpf_text_lex.specs.declared.mnemonic.Mnemonic.TheVariants as mnemonic
use Rattle.bpf_text_lex.specs.declared.value.Value.TheVariants as value
use Rattle.bpf_text_lex.specs.declared.value.Operands.TheVariants as operands
use Rattle.bpf_text_operands.specs.{declared.kind.{Kind.{Kind}, Kinds.{Kinds}}, SignedNumbers.{made, distance_at}}
use Rattle.bpf_text_operands.specs.SignedNumbers.{is_register, register_at, signed_at, is_offset, offset_at}
use Rattle.bpf_text_operands.specs.declared.kind.Kind.TheVariants as kind
use Rattle.bpf_text_operands.specs.declared.kind.Kinds.TheVariants as kinds

-- the kinds of operands that a mnemonic takes
abbrev pub kinds_of : Mnemonic → Kinds
kinds_of (mnemonic.Alu w o) = kinds.Two kind.Reg kind.RegOrImm
kinds_of (mnemonic.Neg w) = kinds.One kind.Reg
kinds_of (mnemonic.Movsx w bits) = kinds.Two kind.Reg kind.Reg
kinds_of (mnemonic.Endian o bits) = kinds.One kind.Reg
kinds_of mnemonic.Ja = kinds.One kind.Distance
kinds_of mnemonic.Ja32 = kinds.One kind.FarDistance
kinds_of (mnemonic.Jump w c) = kinds.Three kind.Reg kind.RegOrImm kind.Distance
kinds_of (mnemonic.Call c) = kinds.One kind.Imm
kinds_of mnemonic.Exit = kinds.Zero
kinds_of (mnemonic.Load s) = kinds.Two kind.Reg kind.Address
kinds_of (mnemonic.LoadSx s) = kinds.Two kind.Reg kind.Address
kinds_of (mnemonic.StoreImm s) = kinds.Two kind.Address kind.Imm
kinds_of (mnemonic.Store s) = kinds.Two kind.Address kind.Reg
kinds_of (mnemonic.Atomic w o) = kinds.Two kind.Address kind.Reg
kinds_of (mnemonic.LoadImm load.Number) = kinds.Two kind.Reg kind.Wide
kinds_of (mnemonic.LoadImm load.Code) = kinds.Two kind.Reg kind.FarDistance
kinds_of (mnemonic.LoadImm load.MapFdValue) = kinds.Three kind.Reg kind.Imm kind.Imm
kinds_of (mnemonic.LoadImm load.MapValue) = kinds.Three kind.Reg kind.Imm kind.Imm
kinds_of (mnemonic.LoadImm k) = kinds.Two kind.Reg kind.Imm

-- both, or the least fault
abbrev pub pair : {A B : Type 0} → Result A TextFault → Result B TextFault → Result (A × B) TextFault
pair (Ok a) (Ok b) = Ok (a, b)
pair (Ok a) (Err fault) = Err fault
pair (Err fault) (Ok b) = Err fault
pair (Err fault) (Err other) =
    Err (if nat_le (text_fault_number fault) (text_fault_number other) then fault else other)

-- the memory at a register and an offset that were read
abbrev pub as_address : Result (ℕ × ℤ) TextFault → Result Value TextFault
as_address r = made (λ x. value.Address x.0 x.1) r

-- a sign, 43 or 45
abbrev pub is_sign : ℕ → Bool
is_sign b = (b == 43) || (b == 45)

-- between brackets, 91 and 93
abbrev pub is_bracketed : List ℕ → Bool
is_bracketed word = (slice_index word 0 == 91) && (nat_lt 1 (length word) && (slice_index word (length word - 1) == 93))

-- what is between the brackets: the base up to the first sign, and the offset from there
abbrev pub inside : List ℕ → List ℕ
inside word = take (length word - 2) (drop 1 word)

abbrev pub base_part : List ℕ → List ℕ
base_part text = take (position_or_len is_sign text) text

abbrev pub offset_part : List ℕ → List ℕ
offset_part text = drop (position_or_len is_sign text) text

-- the memory that a word names: a register and an offset with its sign, between brackets
abbrev pub address_at : List ℕ → Result Value TextFault
address_at word =
    if is_bracketed word then as_address (pair (register_at (base_part (inside word)))
    (offset_at (2 ^ 15) (offset_part (inside word))))
    else Err faults.Form

-- the operand that a word of a kind is, at a slot, where labels are found by this function
abbrev pub value_at : (List ℕ → Option ℕ) → ℕ → Kind → List ℕ → Result Value TextFault
value_at find slot kind.Reg word = made value.Reg (register_at word)
value_at find slot kind.RegOrImm word = if is_register word then made value.Reg (register_at word)
    else made value.Imm (signed_at (2 ^ 31) word)
value_at find slot kind.Imm word = made value.Imm (signed_at (2 ^ 31) word)
value_at find slot kind.Wide word = made value.Wide (number_in (2 ^ 64 - 1) word)
value_at find slot kind.Distance word = made value.Distance (distance_at find (2 ^ 15) slot word)
value_at find slot kind.FarDistance word = made value.FarDistance (distance_at find (2 ^ 31) slot word)
value_at find slot kind.Address word = address_at word

-- a text cut at this place, where one byte goes
abbrev pub cut : List ℕ → Option ℕ → Option (List ℕ × List ℕ)
cut text None = None
cut text (Some n) = Some (take n text, drop (n + 1) text)

-- a text cut at its first comma, 44
abbrev pub cut_comma : List ℕ → Option (List ℕ × List ℕ)
cut_comma text = cut text (position (λ b. b == 44) text)

-- operands of which two or three were read
abbrev pub two_operands : Result (Value × Value) TextFault → Result Operands TextFault
two_operands r = made (λ x. operands.Two x.0 x.1) r

abbrev pub three_operands : Result (Value × (Value × Value)) TextFault → Result Operands TextFault
three_operands r = made (λ x. operands.Three x.0 x.1.0 x.1.1) r

-- two operands on both sides of a comma
abbrev pub both_at : (List ℕ → Option ℕ) → ℕ → Kind → Kind → Option (List ℕ × List ℕ) → Result (Value × Value) TextFault
both_at find slot a b None = Err faults.Form
both_at find slot a b (Some parts) = pair (value_at find slot a (trim parts.0)) (value_at find slot b (trim parts.1))

-- an operand, and two after the first comma
abbrev pub three_at : (List ℕ → Option ℕ) → ℕ → Kind → Kind → Kind → Option (List ℕ × List ℕ)
    → Result (Value × (Value × Value)) TextFault
three_at find slot a b c None = Err faults.Form
three_at find slot a b c (Some parts) =
    pair (value_at find slot a (trim parts.0)) (both_at find slot b c (cut_comma parts.1))

-- the operands of these kinds that a text is, parted by commas with blanks round them
abbrev pub operands_at : (List ℕ → Option ℕ) → ℕ → Kinds → List ℕ → Result Operands TextFault
operands_at find slot kinds.Zero text = if length text == 0 then Ok operands.Zero else Err faults.Form
operands_at find slot (kinds.One a) text = made operands.One (value_at find slot a (trim text))
operands_at find slot (kinds.Two a b) text = two_operands (both_at find slot a b (cut_comma text))
operands_at find slot (kinds.Three a b c) text = three_operands (three_at find slot a b c (cut_comma text))

-- whether a word has the form of a kind, and its registers exist, whatever its numbers and labels are
abbrev pub fits : Kind → List ℕ → Bool
fits kind.Reg word = is_ok (register_at word)
fits kind.RegOrImm word = if is_register word then is_ok (register_at word) else is_number word
fits kind.Imm word = is_number word
fits kind.Wide word = is_number word
fits kind.Distance word = is_name word || is_offset word
fits kind.FarDistance word = is_name word || is_offset word
fits kind.Address word = is_bracketed word && (is_ok (register_at (base_part (inside word)))
    && is_offset (offset_part (inside word)))

abbrev pub both_fit : Kind → Kind → Option (List ℕ × List ℕ) → Bool
both_fit a b None = false
both_fit a b (Some parts) = fits a (trim parts.0) && fits b (trim parts.1)

abbrev pub three_fit : Kind → Kind → Kind → Option (List ℕ × List ℕ) → Bool
three_fit a b c None = false
three_fit a b c (Some parts) = fits a (trim parts.0) && both_fit b c (cut_comma parts.1)

-- whether a text has the form of operands of these kinds, and its registers exist
abbrev pub all_fit : Kinds → List ℕ → Bool
all_fit kinds.Zero text = length text == 0
all_fit (kinds.One a) text = fits a (trim text)
all_fit (kinds.Two a b) text = both_fit a b (cut_comma text)
all_fit (kinds.Three a b c) text = three_fit a b c (cut_comma text)
