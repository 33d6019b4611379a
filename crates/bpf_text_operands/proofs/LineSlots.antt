-- A line takes the slots of the instruction that it is.
use Rattle.std.proofs.Common.{◌≡◌, ℕ, ℤ, pos, ◌-◌, ◌^◌, Bool, true, false, cond, ◌&&◌, ◌||◌, ◌==◌, List, length, drop}
use Rattle.std.proofs.Common.{Option, Some, None, Result, Ok, Err, refl, sym, ap, ◌∙◌}
use Rattle.std.specs.{Prelude.{is_ok}, Option.{ok_or}}
use Rattle.std.proofs.lemmas.Bool.{and_from, or_left, or_right, cond-true}
use Rattle.bpf_insn_types.specs.{declared.insn.{ImmKind.{ImmKind}, Insn.{Insn}}, Slots.{slots_of}}
use Rattle.bpf_insn_types.specs.declared.insn.ImmKind.TheVariants as load
use Rattle.bpf_text_lex.specs.declared.text_error.TextFault.{TextFault}
use Rattle.bpf_text_lex.{specs.{Lines.{trim}, Names.{is_name}}, proofs.SpellingLaws.{numeral_if}}
use Rattle.bpf_text_lex.specs.{Numbers.{is_numeral, is_negative, is_number, number_in}, declared.value.Value.{Value}}
use Rattle.bpf_text_lex.specs.declared.{mnemonic.Mnemonic.{Mnemonic}, value.Operands.{Operands}}
use Rattle.bpf_text_lex.specs.declared.value.Operands.TheVariants.{Zero, One, Two, Three}
use Rattle.bpf_text_lex.specs.declared.text_error.TextFault.TheVariants as faults
use Rattle.bpf_text_lex.specs.declared.mnemonic.Mnemonic.TheVariants as mnemonic
use Rattle.bpf_text_lex.specs.declared.value.Value.TheVariants as value
use Rattle.bpf_text_operands.specs.declared.kind.{Kind.{Kind}, Kinds.{Kinds}}
use Rattle.bpf_text_operands.specs.SignedNumbers.{is_register, register_at, ahead, back, signed_at, is_ahead, is_offset}
use Rattle.bpf_text_operands.specs.SignedNumbers.{made, offset_at, to_label, distance_at}
use Rattle.bpf_text_operands.specs.Operands.{kinds_of, pair}
use Rattle.bpf_text_operands.specs.Operands.{as_address, is_bracketed, inside, base_part, offset_part, value_at}
use Rattle.bpf_text_operands.specs.Operands.{cut_comma, both_at, three_at}
use Rattle.bpf_text_operands.specs.Operands.{operands_at, fits, both_fit, three_fit, all_fit}
use Rattle.bpf_text_operands.specs.Statements.{statement_at, two_slots_of, insn_of_mnemonic, built}
use Rattle.bpf_text_operands.specs.Statements.{with_operands, insn_of_line, mnemonic_slots, slots_where, slots_at}
use Rattle.bpf_text_operands.specs.declared.kind.Kind.TheVariants as kind
use Rattle.bpf_text_operands.specs.declared.kind.Kinds.TheVariants as kinds

-- ---- what is read has its form

-- both of a pair that is read
both_read : {A B : Type 0} (a : Result A TextFault) (b : Result B TextFault) (x : A × B) → pair a b ≡ Ok x
    → ((u : A) × (a ≡ Ok u)) × ((v : B) × (b ≡ Ok v))
both_read (Ok u) (Ok v) x e = ((u, refl), (v, refl))
both_read (Ok u) (Err fault) x e = absurd cc
both_read (Err fault) (Ok v) x e = absurd cc
both_read (Err fault) (Err other) x e = absurd cc

-- what was made is made of a value
made_read : {A B : Type 0} (f : A → B) (r : Result A TextFault) (y : B) → made f r ≡ Ok y → (x : A) × (r ≡ Ok x)
made_read f (Ok x) y e = (x, refl)
made_read f (Err fault) y e = absurd cc

signed_read : (bound : ℕ) (word : List ℕ) (z : ℤ) → signed_at bound word ≡ Ok z → is_number word ≡ true
signed_read bound word z e = by_sign (is_negative word) refl e
  where
    by_sign : (b : Bool) → is_negative word ≡ b → cond b (back (number_in bound (drop 1 word)))
        (ahead (number_in (bound - 1) word)) ≡ Ok z → (is_numeral word || is_negative word) ≡ true
    by_sign true same h = or_right (is_numeral word) (is_negative word) same
    by_sign false same h =
        let n = made_read pos (number_in (bound - 1) word) z h in
        or_left (is_numeral word) (is_negative word) (numeral_if (bound - 1) word n.0 n.1)

offset_read : (bound : ℕ) (word : List ℕ) (z : ℤ) → offset_at bound word ≡ Ok z → is_offset word ≡ true
offset_read bound word z e = by_sign (is_negative word) (is_ahead word) refl refl e
  where
    by_sign : (b c : Bool) → is_negative word ≡ b → is_ahead word ≡ c →
        cond b (back (number_in bound (drop 1 word))) (cond c (ahead (number_in (bound - 1) (drop 1 word)))
        (Err faults.Form)) ≡ Ok z → (is_negative word || is_ahead word) ≡ true
    by_sign true c same other h = or_left (is_negative word) (is_ahead word) same
    by_sign false true same other h = or_right (is_negative word) (is_ahead word) other
    by_sign false false same other h = absurd cc

module _ (find : List ℕ → Option ℕ) (slot : ℕ) where
  distance_read : (bound : ℕ) (word : List ℕ) (z : ℤ) → distance_at find bound slot word ≡ Ok z
      → (is_name word || is_offset word) ≡ true
  distance_read bound word z e = by_name (is_name word) refl e
    where
      by_name : (b : Bool) → is_name word ≡ b → cond b (to_label bound slot (find word)) (offset_at bound word) ≡ Ok z
          → (is_name word || is_offset word) ≡ true
      by_name true same h = or_left (is_name word) (is_offset word) same
      by_name false same h = or_right (is_name word) (is_offset word) (offset_read bound word z h)

  -- a word that is read as an operand of a kind has its form
  value_fits : (k : Kind) (word : List ℕ) (v : Value) → value_at find slot k word ≡ Ok v → fits k word ≡ true
  value_fits kind.Reg word v e = ap is_ok (made_read value.Reg (register_at word) v e).1
  value_fits kind.RegOrImm word v e = by_register (is_register word) e
    where
      by_register : (b : Bool) → cond b (made value.Reg (register_at word)) (made value.Imm (signed_at (2 ^ 31) word))
          ≡ Ok v → cond b (is_ok (register_at word)) (is_number word) ≡ true
      by_register true h = ap is_ok (made_read value.Reg (register_at word) v h).1
      by_register false h = (let z = made_read value.Imm (signed_at (2 ^ 31) word) v h in
          signed_read (2 ^ 31) word z.0 z.1)
  value_fits kind.Imm word v e = (let z = made_read value.Imm (signed_at (2 ^ 31) word) v e in
      signed_read (2 ^ 31) word z.0 z.1)
  value_fits kind.Wide word v e =
      let n = made_read value.Wide (number_in (2 ^ 64 - 1) word) v e in
      or_left (is_numeral word) (is_negative word) (numeral_if (2 ^ 64 - 1) word n.0 n.1)
  value_fits kind.Distance word v e = (let z = made_read value.Distance (distance_at find (2 ^ 15) slot word) v e in
      distance_read (2 ^ 15) word z.0 z.1)
  value_fits kind.FarDistance word v e =
      let z = made_read value.FarDistance (distance_at find (2 ^ 31) slot word) v e in
      distance_read (2 ^ 31) word z.0 z.1
  value_fits kind.Address word v e = by_brackets (is_bracketed word) e
    where
      by_brackets : (b : Bool) → cond b
          (as_address (pair (register_at (base_part (inside word))) (offset_at (2 ^ 15) (offset_part (inside word)))))
          (Err faults.Form) ≡ Ok v →
          (b && (is_ok (register_at (base_part (inside word))) && is_offset (offset_part (inside word)))) ≡ true
      by_brackets true h =
          let x = made_read (λ x. value.Address x.0 x.1) (pair (register_at (base_part (inside word)))
          (offset_at (2 ^ 15) (offset_part (inside word)))) v h in
          let parts = both_read (register_at (base_part (inside word))) (offset_at (2 ^ 15) (offset_part (inside word)))
          x.0 x.1 in
          and_from (is_ok (register_at (base_part (inside word)))) (is_offset (offset_part (inside word)))
          (ap is_ok parts.0.1)
          (offset_read (2 ^ 15) (offset_part (inside word)) parts.1.0 parts.1.1)
      by_brackets false h = absurd cc

  both_fits : (a b : Kind) (cut : Option (List ℕ × List ℕ)) (x : Value × Value) → both_at find slot a b cut ≡ Ok x
      → both_fit a b cut ≡ true
  both_fits a b None x e = absurd cc
  both_fits a b (Some parts) x e =
      let read = both_read (value_at find slot a (trim parts.0)) (value_at find slot b (trim parts.1)) x e in
      and_from (fits a (trim parts.0)) (fits b (trim parts.1)) (value_fits a (trim parts.0) read.0.0 read.0.1)
      (value_fits b (trim parts.1) read.1.0 read.1.1)

  three_fits : (a b c : Kind) (cut : Option (List ℕ × List ℕ)) (x : Value × (Value × Value))
      → three_at find slot a b c cut ≡ Ok x → three_fit a b c cut ≡ true
  three_fits a b c None x e = absurd cc
  three_fits a b c (Some parts) x e =
      let read = both_read (value_at find slot a (trim parts.0)) (both_at find slot b c (cut_comma parts.1)) x e in
      and_from (fits a (trim parts.0)) (both_fit b c (cut_comma parts.1)) (value_fits a (trim parts.0) read.0.0
      read.0.1) (both_fits b c (cut_comma parts.1) read.1.0 read.1.1)

  nothing_read : (b : Bool) (o : Operands) → cond b (Ok Zero) (Err faults.Form) ≡ Ok o → b ≡ true
  nothing_read true o e = refl
  nothing_read false o e = absurd cc

  -- a text that is read as operands has their form
  operands_fit : (ks : Kinds) (text : List ℕ) (o : Operands) → operands_at find slot ks text ≡ Ok o
      → all_fit ks text ≡ true
  operands_fit kinds.Zero text o e = nothing_read (length text == 0) o e
  operands_fit (kinds.One a) text o e = (let v = made_read One (value_at find slot a (trim text)) o e in
      value_fits a (trim text) v.0 v.1)
  operands_fit (kinds.Two a b) text o e =
      let x = made_read (λ x. Two x.0 x.1) (both_at find slot a b (cut_comma text)) o e in
      both_fits a b (cut_comma text) x.0 x.1
  operands_fit (kinds.Three a b c) text o e =
      let x = made_read (λ x. Three x.0 x.1.0 x.1.1) (three_at find slot a b c (cut_comma text)) o e in
      three_fits a b c (cut_comma text) x.0 x.1

  -- ---- the slots of a mnemonic's instruction

  same_slots : (made i : Insn) (n : ℕ) → Some made ≡ Some i → slots_of made ≡ n → n ≡ slots_of i
  same_slots made i n e h = (let same : made ≡ i = cc in sym h ∙ ap slots_of same)

  load_slots : (k : ImmKind) (o : Operands) (i : Insn) → two_slots_of k o ≡ Some i → 2 ≡ slots_of i
  load_slots load.Number (Two (value.Reg dst) (value.Wide n)) i e = same_slots _ i 2 e refl
  load_slots load.Code (Two (value.Reg dst) (value.FarDistance d)) i e = same_slots _ i 2 e refl
  load_slots k (Two (value.Reg dst) (value.Imm imm)) i e = same_slots _ i 2 e refl
  load_slots k (Three (value.Reg dst) (value.Imm imm) (value.Imm next)) i e = same_slots _ i 2 e refl
  load_slots k o i e = absurd cc

  insn_slots : (m : Mnemonic) (o : Operands) (i : Insn) → insn_of_mnemonic m o ≡ Some i → mnemonic_slots m ≡ slots_of i
  insn_slots (mnemonic.Alu w p) (Two (value.Reg dst) (value.Imm imm)) i e = same_slots _ i 1 e refl
  insn_slots (mnemonic.Alu w p) (Two (value.Reg dst) (value.Reg src)) i e = same_slots _ i 1 e refl
  insn_slots (mnemonic.Neg w) (One (value.Reg dst)) i e = same_slots _ i 1 e refl
  insn_slots (mnemonic.Movsx w bits) (Two (value.Reg dst) (value.Reg src)) i e = same_slots _ i 1 e refl
  insn_slots (mnemonic.Endian p bits) (One (value.Reg dst)) i e = same_slots _ i 1 e refl
  insn_slots mnemonic.Ja (One (value.Distance d)) i e = same_slots _ i 1 e refl
  insn_slots mnemonic.Ja32 (One (value.FarDistance d)) i e = same_slots _ i 1 e refl
  insn_slots (mnemonic.Jump w c) (Three (value.Reg dst) (value.Imm imm) (value.Distance d)) i e =
      same_slots _ i 1 e refl
  insn_slots (mnemonic.Jump w c) (Three (value.Reg dst) (value.Reg src) (value.Distance d)) i e =
      same_slots _ i 1 e refl
  insn_slots (mnemonic.Call c) (One (value.Imm imm)) i e = same_slots _ i 1 e refl
  insn_slots mnemonic.Exit Zero i e = same_slots _ i 1 e refl
  insn_slots (mnemonic.Load s) (Two (value.Reg dst) (value.Address base offset)) i e = same_slots _ i 1 e refl
  insn_slots (mnemonic.LoadSx s) (Two (value.Reg dst) (value.Address base offset)) i e = same_slots _ i 1 e refl
  insn_slots (mnemonic.StoreImm s) (Two (value.Address base offset) (value.Imm imm)) i e = same_slots _ i 1 e refl
  insn_slots (mnemonic.Store s) (Two (value.Address base offset) (value.Reg src)) i e = same_slots _ i 1 e refl
  insn_slots (mnemonic.Atomic w p) (Two (value.Address base offset) (value.Reg src)) i e = same_slots _ i 1 e refl
  insn_slots (mnemonic.LoadImm k) o i e = load_slots k o i e
  insn_slots m o i e = absurd cc

  -- ---- the line

  insn_there : (r : Option Insn) (i : Insn) → ok_or r faults.Form ≡ Ok i → r ≡ Some i
  insn_there (Some j) i e = (let same : j ≡ i = cc in ap (λ (x : Insn). Some x) same)
  insn_there None i e = absurd cc

  -- what was read of the operands of an instruction that was built
  built_read : (m : Mnemonic) (r : Result Operands TextFault) (i : Insn) → built m r ≡ Ok i → (o : Operands)
      × (r ≡ Ok o) × (insn_of_mnemonic m o ≡ Some i)
  built_read m (Ok o) i e = (o, refl, insn_there (insn_of_mnemonic m o) i e)
  built_read m (Err fault) i e = absurd cc

  statement_slots : (s : Option (Mnemonic × List ℕ)) (i : Insn) → with_operands find slot s ≡ Ok i
      → slots_where s ≡ slots_of i
  statement_slots None i e = absurd cc
  statement_slots (Some s) i e =
      let made = built_read s.0 (operands_at find slot (kinds_of s.0) s.1) i e in
      cond-true (all_fit (kinds_of s.0) s.1) (mnemonic_slots s.0) 0 (operands_fit (kinds_of s.0) s.1 made.0 made.1)
      ∙ insn_slots s.0 made.0 i made.2

  pub line_slots : (line : List ℕ) (i : Insn) → insn_of_line find slot line ≡ Ok i → slots_at line ≡ slots_of i
  unfolding insn_of_line slots_at
  line_slots line i e = statement_slots (statement_at line) i e
