-- Each instruction that has bytes is read back from its line.
use Rattle.std.proofs.Common.{◌≡◌, ℕ, zero, suc, ℤ, pos, negsuc, ◌<◌, ◌≤◌, ◌^◌, true, false, ◌==◌, ◌-◌, get_or, List}
use Rattle.std.proofs.Common.{[], ◌∷◌, ◌++◌, length, Ok, Option, Some, None, refl, ap, ap₂, ◌∙◌, append_assoc, arith}
use Rattle.std.specs.{Prelude.{FitsSigned, nat_lt}, Char.{is_ascii_digit}, List.{list_all}, Int.{w16, w32}}
use Rattle.std.proofs.lemmas.Bool.{lt-ltb, and_from, cond-true, cond-false, Decides.{nat_tests}}
use Rattle.std.proofs.lemmas.List.Sums.{AllPass-from_list_all}
use Rattle.std.specs.{Fmt.{decimal, signed_decimal}, Option.{ok_or}}
use Rattle.bpf_insn_types.specs.{declared.insn.{ImmKind.{ImmKind}, Insn.{Insn}}, Values.{InsnFits}}
use Rattle.bpf_insn_types.specs.declared.insn.Width.TheVariants as width
use Rattle.bpf_insn_types.specs.declared.insn.Size.TheVariants as size
use Rattle.bpf_insn_types.specs.declared.insn.MovsxBits.TheVariants as movsx
use Rattle.bpf_insn_types.specs.declared.insn.Operand.TheVariants as operand
use Rattle.bpf_insn_types.specs.declared.insn.ImmKind.TheVariants as load
use Rattle.bpf_insn_types.specs.declared.insn.Insn.TheVariants as insn
use Rattle.bpf_insn.specs.{declared.slot.Slot.{Slot}, Spelling.{spelling}}
use Rattle.bpf_text_lex.{proofs.SpellingLaws.{in_field, decimal_digits}, specs.Lines.{trim_start, trim}}
use Rattle.bpf_text_lex.specs.declared.{mnemonic.Mnemonic.{Mnemonic}, value.{Value.{Value}, Operands.{Operands}}}
use Rattle.bpf_text_lex.specs.{MnemonicWords.{mnemonic_word}, Statement.{mnemonic_of, operands_of, wide}}
use Rattle.bpf_text_lex.specs.PrintedLines.{distance_spelling, value_spelling, operands_spelling, insn_spelling}
use Rattle.bpf_text_lex.proofs.{Bounds.{InBound, near_bound, far_bound}, WideLaws.{wide_low, wide_high, wide_fits}}
use Rattle.bpf_text_lex.proofs.ResultLaws.{same_ok}
use Rattle.bpf_text_lex.specs.declared.text_error.TextFault.TheVariants as faults
use Rattle.bpf_text_lex.specs.declared.value.Value.TheVariants as value
use Rattle.bpf_text_lex.specs.declared.value.Operands.TheVariants as operands
use Rattle.bpf_text_operands.specs.{declared.kind.{Kind.{Kind}, Kinds.{Kinds}}, SignedNumbers.{is_register, made}}
use Rattle.bpf_text_operands.specs.Operands.{kinds_of, pair, value_at, cut_comma, two_operands, three_operands}
use Rattle.bpf_text_operands.specs.Operands.{both_at, three_at, operands_at}
use Rattle.bpf_text_operands.specs.Statements.{statement_at, insn_of_mnemonic, built, with_operands, insn_of_line}
use Rattle.bpf_text_operands.proofs.MnemonicLaws.{HasWord, mnemonic_back, exit_back}
use Rattle.bpf_text_operands.proofs.PlainLaws.{Plain, plain-append, plain-digits, plain-no_comma, trim_start-text}
use Rattle.bpf_text_operands.proofs.PlainLaws.{trim_start-plain, trim-plain, cut_back}
use Rattle.bpf_text_operands.proofs.ValueLaws.{register_decimal, signed_back, distance_back, address_back}
use Rattle.bpf_text_operands.specs.declared.kind.Kind.TheVariants as kind
use Rattle.bpf_text_operands.specs.declared.kind.Kinds.TheVariants as kinds

module _ (find : List ℕ → Option ℕ) (slot : ℕ) where
  -- a word that is read as an operand of a kind, and has no blank and no comma
  record Reads (k : Kind) (word : List ℕ) (v : Value) : Type 0 where
    plain : Plain word
    filled : 0 < length word
    read : value_at find slot k word ≡ Ok v

  one_back : (k : Kind) (x : List ℕ) (u : Value) → Reads k x u → operands_at find slot (kinds.One k) x
      ≡ Ok (operands.One u)
  one_back k x u r =
      ap (λ w. made operands.One (value_at find slot k w)) (trim-plain x r.plain) ∙ ap (made operands.One) r.read

  both_back : (a b : Kind) (x y front : List ℕ) (u w : Value) → Reads a x u → Reads b y w → trim front ≡ x
      → both_at find slot a b (Some (front, 32 ∷ y)) ≡ Ok (u, w)
  both_back a b x y front u w r s same =
      ap (λ f. pair (value_at find slot a f) (value_at find slot b (trim (32 ∷ y)))) same
      ∙ ap (λ f. pair f (value_at find slot b (trim (32 ∷ y)))) r.read
      ∙ ap (λ f. pair (Ok u) f) (ap (value_at find slot b) (trim-plain y s.plain) ∙ s.read)

  two_back : (a b : Kind) (x y : List ℕ) (u w : Value) → Reads a x u → Reads b y w
      → operands_at find slot (kinds.Two a b) (x ++ 44 ∷ 32 ∷ y) ≡ Ok (operands.Two u w)
  two_back a b x y u w r s =
      ap (λ parts. two_operands (both_at find slot a b parts)) (cut_back x (32 ∷ y) (plain-no_comma x r.plain))
      ∙ ap two_operands (both_back a b x y x u w r s (trim-plain x r.plain))

  three_back : (a b c : Kind) (x y z : List ℕ) (u v w : Value) → Reads a x u → Reads b y v → Reads c z w
      → operands_at find slot (kinds.Three a b c) (x ++ 44 ∷ 32 ∷ (y ++ 44 ∷ 32 ∷ z)) ≡ Ok (operands.Three u v w)
  three_back a b c x y z u v w r s t =
      ap (λ parts. three_operands (three_at find slot a b c parts)) (cut_back x (32 ∷ (y ++ 44 ∷ 32 ∷ z))
      (plain-no_comma x r.plain))
      ∙ ap (λ f. three_operands (pair (value_at find slot a f)
      (both_at find slot b c (cut_comma (32 ∷ (y ++ 44 ∷ 32 ∷ z)))))) (trim-plain x r.plain)
      ∙ ap (λ f. three_operands (pair f (both_at find slot b c (cut_comma (32 ∷ (y ++ 44 ∷ 32 ∷ z)))))) r.read
      ∙ ap (λ parts. three_operands (pair (Ok u) (both_at find slot b c parts)))
      (cut_back (32 ∷ y) (32 ∷ z) ((λ e. absurd cc), plain-no_comma y s.plain))
      ∙ ap (λ f. three_operands (pair (Ok u) f)) (both_back b c y z (32 ∷ y) v w s t (trim-plain y s.plain))

  -- a line whose mnemonic and operands are read is its instruction
  from_parts : (m : Mnemonic) (line text : List ℕ) (o : Operands) (i : Insn) → statement_at line ≡ Some (m, text)
      → operands_at find slot (kinds_of m) text ≡ Ok o → insn_of_mnemonic m o ≡ Some i →
      insn_of_line find slot line ≡ Ok i
  unfolding insn_of_line
  from_parts m line text o i said read made =
      ap (with_operands find slot) said ∙ ap (built m) read ∙ ap (λ (r : Option Insn). ok_or r faults.Form) made

  -- operands that are read back from their spellings, each as one of its kind
  abbrev AllRead : Kinds → Operands → Type 0
  AllRead (kinds.One a) (operands.One u) = Reads a (value_spelling u) u
  AllRead (kinds.Two a b) (operands.Two u v) = Reads a (value_spelling u) u × Reads b (value_spelling v) v
  AllRead (kinds.Three a b c) (operands.Three u v w) =
      Reads a (value_spelling u) u × Reads b (value_spelling v) v × Reads c (value_spelling w) w
  AllRead _ _ = ⊥

  of_kinds : (m : Mnemonic) (ks : Kinds) (o : Operands) (i : Insn) → kinds_of m ≡ ks → HasWord m → AllRead ks o
      → insn_of_mnemonic m o ≡ Some i → insn_of_line find slot (mnemonic_word m ++ operands_spelling o) ≡ Ok i
  of_kinds m (kinds.One a) (operands.One u) i same h r made =
      let x = value_spelling u in
      from_parts m (mnemonic_word m ++ 32 ∷ x) x (operands.One u) i
      (mnemonic_back m h x ∙ ap (λ text. Some (m, text)) (trim_start-plain x r.plain))
      (ap (λ ks. operands_at find slot ks x) same ∙ one_back a x u r) made
  of_kinds m (kinds.Two a b) (operands.Two u v) i same h r made =
      let x = value_spelling u in
      let y = value_spelling v in
      let joined : (x ++ 44 ∷ 32 ∷ []) ++ y ≡ x ++ 44 ∷ 32 ∷ y = append_assoc x (44 ∷ 32 ∷ []) y in
      from_parts m (mnemonic_word m ++ 32 ∷ ((x ++ 44 ∷ 32 ∷ []) ++ y)) (x ++ 44 ∷ 32 ∷ y) (operands.Two u v) i
      (mnemonic_back m h ((x ++ 44 ∷ 32 ∷ []) ++ y) ∙ ap (λ text. Some (m, trim_start text)) joined
      ∙ ap (λ text. Some (m, text)) (trim_start-text x (44 ∷ 32 ∷ y) r.0.plain r.0.filled))
      (ap (λ ks. operands_at find slot ks (x ++ 44 ∷ 32 ∷ y)) same ∙ two_back a b x y u v r.0 r.1) made
  of_kinds m (kinds.Three a b c) (operands.Three u v w) i same h r made =
      let x = value_spelling u in
      let y = value_spelling v in
      let z = value_spelling w in
      let joined : (((x ++ 44 ∷ 32 ∷ []) ++ y) ++ 44 ∷ 32 ∷ []) ++ z ≡ x ++ 44 ∷ 32 ∷ (y ++ 44 ∷ 32 ∷ z) =
      simp append_assoc in
      from_parts m (mnemonic_word m ++ 32 ∷ ((((x ++ 44 ∷ 32 ∷ []) ++ y) ++ 44 ∷ 32 ∷ []) ++ z)) (x ++ 44 ∷ 32
      ∷ (y ++ 44 ∷ 32 ∷ z)) (operands.Three u v w) i
      (mnemonic_back m h ((((x ++ 44 ∷ 32 ∷ []) ++ y) ++ 44 ∷ 32 ∷ []) ++ z) ∙ ap (λ text. Some (m, trim_start text))
      joined
      ∙ ap (λ text. Some (m, text)) (trim_start-text x (44 ∷ 32 ∷ (y ++ 44 ∷ 32 ∷ z)) r.0.plain r.0.filled))
      (ap (λ ks. operands_at find slot ks (x ++ 44 ∷ 32 ∷ (y ++ 44 ∷ 32 ∷ z))) same
      ∙ three_back a b c x y z u v w r.0 r.1 r.2) made
  of_kinds m _ _ i same h r made = absurd r

  -- an instruction is read back from its line if its operands are
  line_back : (i : Insn) → HasWord (mnemonic_of i) → AllRead (kinds_of (mnemonic_of i)) (operands_of i)
      → insn_of_mnemonic (mnemonic_of i) (operands_of i) ≡ Some i → insn_of_line find slot (insn_spelling i) ≡ Ok i
  line_back i h r made = of_kinds (mnemonic_of i) (kinds_of (mnemonic_of i)) (operands_of i) i refl h r made

  -- ---- the operands of each kind

  plain_decimal : (n : ℕ) → n < 2 ^ 64 → Plain (decimal n)
  plain_decimal n fits = let d = decimal_digits n fits in plain-digits (decimal n) d.digits

  plain_register : (r : ℕ) → r ≤ 10 → Plain (114 ∷ decimal r)
  plain_register r le = (omega arith, (λ e. absurd cc), plain_decimal r (omega arith))

  plain_ahead : (n : ℕ) → n < 2 ^ 64 → Plain (43 ∷ decimal n)
  plain_ahead n fits = (omega arith, (λ e. absurd cc), plain_decimal n fits)

  plain_back : (n : ℕ) → n < 2 ^ 64 → Plain (45 ∷ decimal n)
  plain_back n fits = (omega arith, (λ e. absurd cc), plain_decimal n fits)

  below : (bound n : ℕ) → bound < 2 ^ 64 → n < bound → n < 2 ^ 64
  below bound n small lt = omega arith

  below_suc : (bound n : ℕ) → bound < 2 ^ 64 → n < bound → suc n < 2 ^ 64
  below_suc bound n small lt = omega arith

  plain_distance : (bound : ℕ) (z : ℤ) → bound < 2 ^ 64 → InBound bound z → Plain (distance_spelling z)
  plain_distance bound (pos n) small lt = plain_ahead n (below bound n small lt)
  plain_distance bound (negsuc n) small lt = plain_back (suc n) (below_suc bound n small lt)

  plain_signed : (bound : ℕ) (z : ℤ) → bound < 2 ^ 64 → InBound bound z → Plain (signed_decimal z)
  plain_signed bound (pos n) small lt = plain_decimal n (below bound n small lt)
  plain_signed bound (negsuc n) small lt = plain_distance bound (negsuc n) small lt

  filled_signed : (z : ℤ) → FitsSigned w32 z → 0 < length (signed_decimal z)
  filled_signed (pos n) fits = let d = decimal_digits n (omega (arith, fits.sfits)) in d.filled
  filled_signed (negsuc n) fits = omega arith

  filled_distance : (z : ℤ) → 0 < length (distance_spelling z)
  filled_distance (pos n) = omega arith
  filled_distance (negsuc n) = omega arith

  reg_reads : (r : ℕ) → r ≤ 10 → Reads kind.Reg (value_spelling (value.Reg r)) (value.Reg r)
  reg_reads r le = record {
    plain = plain_register r le;
    filled = omega arith;
    read = ap (made value.Reg) (register_decimal r le);
  }

  imm_reads : (z : ℤ) → FitsSigned w32 z → Reads kind.Imm (value_spelling (value.Imm z)) (value.Imm z)
  imm_reads z fits = record {
    plain = plain_signed (2 ^ 31) z (omega arith) (far_bound z fits);
    filled = filled_signed z fits;
    read = ap (made value.Imm) (signed_back z fits);
  }

  near_reads : (z : ℤ) → FitsSigned w16 z → Reads kind.Distance (value_spelling (value.Distance z))
      (value.Distance z)
  near_reads z fits = record {
    plain = plain_distance (2 ^ 15) z (omega arith) (near_bound z fits);
    filled = filled_distance z;
    read =
        ap (made value.Distance) (distance_back find (2 ^ 15) slot z (omega arith) (near_bound z fits));
  }

  far_reads : (z : ℤ) → FitsSigned w32 z → Reads kind.FarDistance (value_spelling (value.FarDistance z))
      (value.FarDistance z)
  far_reads z fits = record {
    plain = plain_distance (2 ^ 31) z (omega arith) (far_bound z fits);
    filled = filled_distance z;
    read =
        ap (made value.FarDistance) (distance_back find (2 ^ 31) slot z (omega arith) (far_bound z fits));
  }

  address_reads : (r : ℕ) (z : ℤ) → r ≤ 10 → FitsSigned w16 z
      → Reads kind.Address (value_spelling (value.Address r z)) (value.Address r z)
  address_reads r z le fits = record {
    plain = (
      omega arith,
      (λ e. absurd cc),
      plain-append ((114 ∷ decimal r) ++ distance_spelling z) (93 ∷ [])
          (plain-append (114 ∷ decimal r) (distance_spelling z) (plain_register r le)
          (plain_distance (2 ^ 15) z (omega arith) (near_bound z fits))) (omega arith, (λ e. absurd cc), tt),
    );
    filled = omega arith;
    read = address_back r z le (near_bound z fits);
  }

  no_letter : (b : ℕ) → is_ascii_digit b ≡ true → (b == 114) ≡ false
  no_letter b e = grind (arith, nat_tests)

  number_no_register : (z : ℤ) → InBound (2 ^ 31) z → is_register (signed_decimal z) ≡ false
  number_no_register (pos n) lt =
      let d = decimal_digits n (below (2 ^ 31) n (omega arith) lt) in
      let digit = AllPass-from_list_all is_ascii_digit (decimal n) d.digits 0 0 d.filled in
      rw (no_letter (get_or (decimal n) 0 0) digit) refl
  number_no_register (negsuc n) lt = refl

  imm_operand : (z : ℤ) → FitsSigned w32 z → Reads kind.RegOrImm (value_spelling (value.Imm z)) (value.Imm z)
  imm_operand z fits =
      let r = imm_reads z fits in
      record {
        plain = r.plain;
        filled = r.filled;
        read = cond-false (is_register (signed_decimal z)) _ _ (number_no_register z (far_bound z fits)) ∙ r.read;
      }

  register_word : (word : List ℕ) → 0 < length word → list_all is_ascii_digit word ≡ true → is_register (114 ∷ word)
      ≡ true
  register_word word some digits =
      and_from (nat_lt 1 (length (114 ∷ word))) _ (lt-ltb 1 (length (114 ∷ word)) (omega arith)) digits

  reg_operand : (r : ℕ) → r ≤ 10 → Reads kind.RegOrImm (value_spelling (value.Reg r)) (value.Reg r)
  reg_operand r le =
      let d = decimal_digits r (omega arith) in
      let reg = reg_reads r le in
      record {
        plain = reg.plain;
        filled = reg.filled;
        read = cond-true (is_register (114 ∷ decimal r)) _ _ (register_word (decimal r) d.filled d.digits) ∙ reg.read;
      }

  wide_reads : (n : ℕ) → n < 2 ^ 64 → Reads kind.Wide (value_spelling (value.Wide n)) (value.Wide n)
  wide_reads n fits = record {
    plain = plain_decimal n fits;
    filled = (decimal_digits n fits).filled;
    read = ap (made value.Wide) (in_field (2 ^ 64 - 1) n (omega arith) (omega arith));
  }

  -- ---- each instruction

  exit_line : insn_of_line find slot (insn_spelling insn.Exit) ≡ Ok insn.Exit
  unfolding insn_of_line
  exit_line = ap (with_operands find slot) exit_back

  -- a second number that a kind has not is zero where the load has bytes
  load_back : (k : ImmKind) (dst : ℕ) (imm next : ℤ) (ss : List Slot) → InsnFits (insn.LoadImm k dst imm next)
      → spelling (insn.LoadImm k dst imm next) ≡ Ok ss →
      insn_of_line find slot (insn_spelling (insn.LoadImm k dst imm next)) ≡ Ok (insn.LoadImm k dst imm next)
  load_back load.Number dst imm next ss fits e =
      line_back (insn.LoadImm load.Number dst imm next) tt
      (reg_reads dst fits.0, wide_reads (wide imm next) (wide_fits imm next fits.1 fits.2))
      (ap₂ (λ (low high : ℤ). Some (insn.LoadImm load.Number dst low high)) (wide_low imm next fits.1)
      (wide_high imm next fits.1 fits.2))
  load_back load.MapFdValue dst imm next ss fits e = line_back (insn.LoadImm load.MapFdValue dst imm next) tt
      (reg_reads dst fits.0, imm_reads imm fits.1, imm_reads next fits.2) refl
  load_back load.MapValue dst imm next ss fits e = line_back (insn.LoadImm load.MapValue dst imm next) tt
      (reg_reads dst fits.0, imm_reads imm fits.1, imm_reads next fits.2) refl
  load_back load.Code dst imm (pos zero) ss fits e = line_back (insn.LoadImm load.Code dst imm (pos zero)) tt
      (reg_reads dst fits.0, far_reads imm fits.1) refl
  load_back k dst imm (pos zero) ss fits e = line_back (insn.LoadImm k dst imm (pos zero)) tt
      (reg_reads dst fits.0, imm_reads imm fits.1) refl
  load_back k dst imm next ss fits e = absurd cc

  pub insn_back : (i : Insn) (ss : List Slot) → InsnFits i → spelling i ≡ Ok ss
      → insn_of_line find slot (insn_spelling i) ≡ Ok i
  insn_back (insn.Alu w o dst (operand.Imm imm)) ss fits e =
      line_back (insn.Alu w o dst (operand.Imm imm)) tt (reg_reads dst fits.0, imm_operand imm fits.1) refl
  insn_back (insn.Alu w o dst (operand.Reg src)) ss fits e =
      line_back (insn.Alu w o dst (operand.Reg src)) tt (reg_reads dst fits.0, reg_operand src fits.1) refl
  insn_back (insn.Neg w dst) ss fits e = line_back (insn.Neg w dst) tt (reg_reads dst fits) refl
  insn_back (insn.Movsx width.W32 movsx.B32 dst src) ss fits e = absurd cc
  insn_back (insn.Movsx w bits dst src) ss fits e =
      line_back (insn.Movsx w bits dst src) tt (reg_reads dst fits.0, reg_reads src fits.1) refl
  insn_back (insn.Endian o bits dst) ss fits e = line_back (insn.Endian o bits dst) tt (reg_reads dst fits) refl
  insn_back (insn.Ja offset) ss fits e = line_back (insn.Ja offset) tt (near_reads offset fits) refl
  insn_back (insn.Ja32 imm) ss fits e = line_back (insn.Ja32 imm) tt (far_reads imm fits) refl
  insn_back (insn.Jump w c dst (operand.Imm imm) offset) ss fits e =
      line_back (insn.Jump w c dst (operand.Imm imm) offset) tt
      (reg_reads dst fits.0, imm_operand imm fits.1, near_reads offset fits.2) refl
  insn_back (insn.Jump w c dst (operand.Reg src) offset) ss fits e =
      line_back (insn.Jump w c dst (operand.Reg src) offset) tt
      (reg_reads dst fits.0, reg_operand src fits.1, near_reads offset fits.2) refl
  insn_back (insn.Call callee imm) ss fits e = line_back (insn.Call callee imm) tt (imm_reads imm fits) refl
  insn_back insn.Exit ss fits e = exit_line
  insn_back (insn.Load s dst src offset) ss fits e = line_back (insn.Load s dst src offset) tt
      (reg_reads dst fits.0, address_reads src offset fits.1 fits.2) refl
  insn_back (insn.LoadSx size.Dw dst src offset) ss fits e = absurd cc
  insn_back (insn.LoadSx s dst src offset) ss fits e = line_back (insn.LoadSx s dst src offset) tt
      (reg_reads dst fits.0, address_reads src offset fits.1 fits.2) refl
  insn_back (insn.StoreImm s dst offset imm) ss fits e = line_back (insn.StoreImm s dst offset imm) tt
      (address_reads dst offset fits.0 fits.1, imm_reads imm fits.2) refl
  insn_back (insn.Store s dst src offset) ss fits e = line_back (insn.Store s dst src offset) tt
      (address_reads dst offset fits.0 fits.2, reg_reads src fits.1) refl
  insn_back (insn.Atomic w o dst src offset) ss fits e = line_back (insn.Atomic w o dst src offset) tt
      (address_reads dst offset fits.0 fits.2, reg_reads src fits.1) refl
  insn_back (insn.LoadImm k dst imm next) ss fits e = load_back k dst imm next ss fits e

pub one_insn : (i j : Insn) (a b : List Slot) → InsnFits i → InsnFits j → spelling i ≡ Ok a → spelling j ≡ Ok b
    → insn_spelling i ≡ insn_spelling j → i ≡ j
one_insn i j a b fits others spelled also same =
    same_ok i j (insn_of_line (λ name. None) 0 (insn_spelling i)) (insn_back (λ name. None) 0 i a fits spelled)
    (ap (insn_of_line (λ name. None) 0) same ∙ insn_back (λ name. None) 0 j b others also)
