-- Each mnemonic is read back from its words.
use Rattle.std.proofs.Common.{◌≡◌, ℕ, List, [], ◌∷◌, ◌++◌, Some, refl}
use Rattle.bpf_insn_types.specs.declared.insn.Width.TheVariants as width
use Rattle.bpf_insn_types.specs.declared.insn.Size.TheVariants as size
use Rattle.bpf_insn_types.specs.declared.insn.MovsxBits.TheVariants as movsx
use Rattle.bpf_text_lex.specs.{Lines.{trim_start}, declared.mnemonic.Mnemonic.{Mnemonic}, MnemonicWords.{mnemonic_word}}
use Rattle.bpf_text_lex.proofs.EachMnemonic.{each_mnemonic}
use Rattle.bpf_text_lex.specs.declared.mnemonic.Mnemonic.TheVariants as mnemonic
use Rattle.bpf_text_operands.specs.Statements.{statement_at}

-- a mnemonic that takes operands and that some instruction with bytes has
abbrev pub HasWord : Mnemonic → Type 0
HasWord (mnemonic.Movsx width.W32 movsx.B32) = ⊥
HasWord (mnemonic.LoadSx size.Dw) = ⊥
HasWord mnemonic.Exit = ⊥
HasWord _ = Unit {0}

-- words before a space and a text of operands are read as their mnemonic
abbrev IsReadBack : Mnemonic → Type 0
IsReadBack m = HasWord m → (text : List ℕ) → statement_at (mnemonic_word m ++ 32 ∷ text) ≡ Some (m, trim_start text)

pub mnemonic_back : (m : Mnemonic) → IsReadBack m
mnemonic_back = each_mnemonic IsReadBack (record {
  alu = assumption;
  neg = assumption;
  movsx = (((λ h text. refl), (λ h text. refl), (λ h text. absurd h)), assumption);
  endian = assumption;
  ja = λ h text. refl;
  ja32 = λ h text. refl;
  jump = assumption;
  call = assumption;
  exit = λ h text. absurd h;
  load = assumption;
  load_sx = ((λ h text. refl), (λ h text. refl), (λ h text. refl), (λ h text. absurd h));
  store_imm = assumption;
  store = assumption;
  atomic = assumption;
  load_imm = assumption;
})

-- and so is the one without operands
pub exit_back : statement_at (mnemonic_word mnemonic.Exit) ≡ Some (mnemonic.Exit, [])
exit_back = refl
