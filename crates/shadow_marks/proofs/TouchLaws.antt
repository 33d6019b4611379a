-- What the list of touched elements says of the flags.
use Rattle.std.proofs.Common.{◌≡◌, ℕ, ◌<◌, Bool, true, false, ◌||◌, eqb, List, [], ◌∷◌, ◌++◌, length, get_or, set, refl}
use Rattle.std.proofs.Common.{sym, ◌∙◌, ap, inl, inr, arith, length-set, get_or-set_same, get_or-set_other, eq-eqb}
use Rattle.std.proofs.{Common.{ne_eqb}, Math.Bool.{or-false, or-true}, lemmas.{Bool.{cases_eq}, List.Folds.{list_any-append}}}
use Rattle.std.{proofs.lemmas.Nat.Bits.{bit_at-zero}, specs.Int.{bit_at}}
use Rattle.loop_core_model.{specs.Flags.{no_flags}, proofs.FlagLaws.{same_flags}}
use Rattle.shadow_marks.specs.declared.element_flags.ElementFlags.{ElementFlags}
use Rattle.shadow_marks.specs.Kept.{place_by, flags_in, nothing_kept, has_element}

-- where nothing is kept there are no flags
pub nothing_flagged : (kept : ElementFlags) → kept.bits ≡ 0 → flags_in kept ≡ no_flags
nothing_flagged kept none =
    let unset : (place : ℕ) → eqb (bit_at kept.bits place) 1 ≡ false =
    λ place. ap (λ bits. eqb (bit_at bits place) 1) none ∙ ap (λ bit. eqb bit 1) (bit_at-zero place) in
    same_flags _ _ (record { wrote = unset 0; looked = unset 1; plain = unset 2; by = λ op. unset (place_by op) })

-- one element more in a list
pub has-last : (touched : List ℕ) (e x : ℕ) → has_element (touched ++ e ∷ []) x ≡ (has_element touched x || eqb e x)
has-last touched e x =
    list_any-append (λ other. eqb other x) touched (e ∷ []) ∙ ap (λ b. has_element touched x || b) (or-false (eqb e x))

-- what is known of touched elements and flags
pub record Covers (touched : List ℕ) (cells : List ElementFlags) : Type 0 where
  pub within : (e : ℕ) → has_element touched e ≡ true → e < length cells
  pub covered : (e : ℕ) → has_element touched e ≡ false → (get_or cells e nothing_kept).bits ≡ 0

or_left : (a b : Bool) → a ≡ true → (a || b) ≡ true
or_left a b h = ap (λ x. x || b) h

or_both : (a b : Bool) → a ≡ false → b ≡ false → (a || b) ≡ false
or_both a b h k = ap (λ x. x || b) h ∙ k

pub last_within : (touched rest : List ℕ) (e : ℕ) (cells : List ElementFlags) → touched ≡ rest ++ e ∷ []
    → Covers touched cells → e < length cells
last_within touched rest e cells is covers =
    covers.within e (ap (λ l. has_element l e) is ∙ has-last rest e e
    ∙ ap (λ b. has_element rest e || b) (eq-eqb e e refl) ∙ or-true (has_element rest e))

-- the last one taken from the list and emptied
pub covers_rest : (touched rest : List ℕ) (e : ℕ) (cells : List ElementFlags) → touched ≡ rest ++ e ∷ []
    → Covers touched cells →
    Covers rest (set cells e nothing_kept)
covers_rest touched rest e cells is covers = record {
  within = λ x has.
      let was : has_element touched x ≡ true = ap (λ l. has_element l x) is ∙ has-last rest e x
      ∙ or_left (has_element rest x) (eqb e x) has in
      omega (arith, covers.within x was, length-set cells e nothing_kept);
  covered = λ x has.
      elim (cases_eq x e) [
        | inl same ↦
            ap (λ (y : ℕ). (get_or (set cells e nothing_kept) y nothing_kept).bits) same
            ∙ ap (λ (kept : ElementFlags). kept.bits) (get_or-set_same cells e nothing_kept nothing_kept
            (last_within touched rest e cells is covers))
        | inr other ↦
            ap (λ (kept : ElementFlags). kept.bits) (get_or-set_other cells e x nothing_kept nothing_kept other)
            ∙ covers.covered x
            (ap (λ l. has_element l x) is ∙ has-last rest e x
            ∙ or_both (has_element rest x) (eqb e x) has (ne_eqb e x (λ same. other (sym same))))
      ];
}

pub none_touched : (touched : List ℕ) (e : ℕ) → length touched ≡ 0 → has_element touched e ≡ false
none_touched [] e none = refl
none_touched (x ∷ xs) e none = absurd (omega arith)
