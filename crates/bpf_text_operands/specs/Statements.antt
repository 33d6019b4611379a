-- What a line that isn't a label means: the instruction of its mnemonic and operands.
use Rattle.std.specs.Prelude.{ℕ, ◌%◌, ◌/◌, ◌^◌, if◌then◌else◌, List, take, drop, Option, Some, None, pos, Result, Ok}
use Rattle.std.specs.{Prelude.{Err}, Int.{w32, cast_signed}, List.{position_or_len}, Option.{option_map, ok_or}}
use Rattle.bpf_insn_types.specs.declared.insn.{ImmKind.{ImmKind}, Width.{Width}, Insn.{Insn}}
use Rattle.bpf_insn_types.specs.declared.insn.ImmKind.TheVariants as load
use Rattle.bpf_insn_types.specs.declared.insn.Operand.TheVariants as operand
use Rattle.bpf_insn_types.specs.declared.insn.Insn.TheVariants as insn
use Rattle.bpf_text_lex.specs.{Lines.{is_blank, trim_start}, declared.text_error.TextFault.{TextFault}}
use Rattle.bpf_text_lex.specs.declared.{mnemonic.Mnemonic.{Mnemonic}, value.Operands.{Operands}}
use Rattle.bpf_text_lex.specs.declared.value.Operands.TheVariants.{Zero, One, Two, Three}
use Rattle.bpf_text_lex.specs.declared.text_error.TextFault.TheVariants as faults
use Rattle.bpf_text_lex.specs.declared.mnemonic.Mnemonic.TheVariants as mnemonic
use Rattle.bpf_text_lex.specs.declared.value.Value.TheVariants as value
use Rattle.bpf_text_operands.specs.Stems.{mnemonic_at, atomic_width, atomics, first_atomic}
use Rattle.bpf_text_operands.specs.Operands.{kinds_of, operands_at, all_fit}

-- a two-slot load of this kind
abbrev pub two_slots_of : ImmKind → Operands → Option Insn
two_slots_of load.Number (Two (value.Reg dst) (value.Wide n)) =
    Some (insn.LoadImm load.Number dst (cast_signed w32 (n % 2 ^ 32)) (cast_signed w32 (n / 2 ^ 32)))
two_slots_of load.Code (Two (value.Reg dst) (value.FarDistance d)) = Some (insn.LoadImm load.Code dst d (pos 0))
two_slots_of kind (Two (value.Reg dst) (value.Imm imm)) = Some (insn.LoadImm kind dst imm (pos 0))
two_slots_of kind (Three (value.Reg dst) (value.Imm imm) (value.Imm next)) = Some (insn.LoadImm kind dst imm next)
two_slots_of kind _ = None

-- the instruction of a mnemonic and operands of its kinds
abbrev pub insn_of_mnemonic : Mnemonic → Operands → Option Insn
insn_of_mnemonic (mnemonic.Alu w o) (Two (value.Reg dst) (value.Imm imm)) = Some (insn.Alu w o dst (operand.Imm imm))
insn_of_mnemonic (mnemonic.Alu w o) (Two (value.Reg dst) (value.Reg src)) = Some (insn.Alu w o dst (operand.Reg src))
insn_of_mnemonic (mnemonic.Neg w) (One (value.Reg dst)) = Some (insn.Neg w dst)
insn_of_mnemonic (mnemonic.Movsx w bits) (Two (value.Reg dst) (value.Reg src)) = Some (insn.Movsx w bits dst src)
insn_of_mnemonic (mnemonic.Endian o bits) (One (value.Reg dst)) = Some (insn.Endian o bits dst)
insn_of_mnemonic mnemonic.Ja (One (value.Distance d)) = Some (insn.Ja d)
insn_of_mnemonic mnemonic.Ja32 (One (value.FarDistance d)) = Some (insn.Ja32 d)
insn_of_mnemonic (mnemonic.Jump w c) (Three (value.Reg dst) (value.Imm imm) (value.Distance d)) =
    Some (insn.Jump w c dst (operand.Imm imm) d)
insn_of_mnemonic (mnemonic.Jump w c) (Three (value.Reg dst) (value.Reg src) (value.Distance d)) =
    Some (insn.Jump w c dst (operand.Reg src) d)
insn_of_mnemonic (mnemonic.Call c) (One (value.Imm imm)) = Some (insn.Call c imm)
insn_of_mnemonic mnemonic.Exit Zero = Some insn.Exit
insn_of_mnemonic (mnemonic.Load s) (Two (value.Reg dst) (value.Address base offset)) =
    Some (insn.Load s dst base offset)
insn_of_mnemonic (mnemonic.LoadSx s) (Two (value.Reg dst) (value.Address base offset)) =
    Some (insn.LoadSx s dst base offset)
insn_of_mnemonic (mnemonic.StoreImm s) (Two (value.Address base offset) (value.Imm imm)) =
    Some (insn.StoreImm s base offset imm)
insn_of_mnemonic (mnemonic.Store s) (Two (value.Address base offset) (value.Reg src)) =
    Some (insn.Store s base src offset)
insn_of_mnemonic (mnemonic.Atomic w o) (Two (value.Address base offset) (value.Reg src)) =
    Some (insn.Atomic w o base src offset)
insn_of_mnemonic (mnemonic.LoadImm k) values = two_slots_of k values
insn_of_mnemonic m values = None

-- a text up to its first blank, and what comes after that blank and those that follow it
abbrev pub first_word : List ℕ → List ℕ
first_word text = take (position_or_len is_blank text) text

abbrev pub after_word : List ℕ → List ℕ
after_word text = trim_start (drop (position_or_len is_blank text) text)

-- an atomic where its first word gives a width, or another mnemonic
abbrev pub by_width : Option Width → (word rest : List ℕ) → Option (Mnemonic × List ℕ)
by_width (Some w) word rest =
    option_map (λ o. (mnemonic.Atomic w o, after_word rest)) (first_atomic (first_word rest) atomics)
by_width None word rest = option_map (λ m. (m, rest)) (mnemonic_at word)

-- the mnemonic of a line, and the text of its operands
abbrev pub statement_at : List ℕ → Option (Mnemonic × List ℕ)
statement_at line = by_width (atomic_width (first_word line)) (first_word line) (after_word line)

-- the instruction of a mnemonic and what was read of its operands
abbrev pub built : Mnemonic → Result Operands TextFault → Result Insn TextFault
built m (Err fault) = Err fault
built m (Ok values) = ok_or (insn_of_mnemonic m values) faults.Form

-- the instruction of a mnemonic and a text of operands
abbrev pub with_operands : (List ℕ → Option ℕ) → ℕ → Option (Mnemonic × List ℕ) → Result Insn TextFault
with_operands find slot None = Err faults.Form
with_operands find slot (Some s) = built s.0 (operands_at find slot (kinds_of s.0) s.1)

-- the instruction that a line is at a slot, where labels are found by this function, or the least fault
unfoldable pub insn_of_line : (List ℕ → Option ℕ) → ℕ → List ℕ → Result Insn TextFault
insn_of_line find slot line = with_operands find slot (statement_at line)

-- how many slots the instructions of a mnemonic take
abbrev pub mnemonic_slots : Mnemonic → ℕ
mnemonic_slots (mnemonic.LoadImm k) = 2
mnemonic_slots _ = 1

-- how many slots a line takes: none unless it has its form and its registers exist
abbrev pub slots_where : Option (Mnemonic × List ℕ) → ℕ
slots_where None = 0
slots_where (Some s) = if all_fit (kinds_of s.0) s.1 then mnemonic_slots s.0 else 0

unfoldable pub slots_at : List ℕ → ℕ
slots_at line = slots_where (statement_at line)
