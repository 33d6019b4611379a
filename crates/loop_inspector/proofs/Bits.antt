-- Elements of planes that pass tests.
use Rattle.std.proofs.Common.{◌≡◌, ℕ, ◌+◌, ◌*◌, ◌%◌, ◌≤◌, Bool, false, ◌==◌}
use Rattle.std.proofs.Common.{◌&&◌, cond, List, [], ◌∷◌, length, refl, sym, ap, ◌∙◌, inl, inr, arith}
use Rattle.std.{specs.{Int.{bit_at}, List.{filter, range_with_len}}, proofs.lemmas.Bool.{cases_Bool}}
use Rattle.std.proofs.Math.ListN.{get_or-eq_default}
use Rattle.std.proofs.lemmas.{List.{append-nil, Elements.{filter-append}}, Nat.Bits.{bit_at-zero}}
use Rattle.loop_core_model.{specs.Planes.{bit_of, elements_in_plane}, proofs.PlaneLaws.{filter-none, range-append}}
use Rattle.loop_inspector.specs.Inspections.{KeepsBits}

-- those that pass two tests, one after the other
pub filter_both : (p q : ℕ → Bool) (xs : List ℕ) → filter (λ e. p e && q e) xs ≡ filter q (filter p xs)
filter_both p q [] = refl
filter_both p q (x ∷ xs) = elim (cases_Bool (p x)) [
  | inl on ↦ rw on (ap (λ (ys : List ℕ). cond (q x) (x ∷ ys) ys) (filter_both p q xs))
  | inr off ↦ rw off (filter_both p q xs)
]

-- past the last word no bit is set
past_all : (words : List ℕ) (e : ℕ) → 64 * length words ≤ e → bit_of words e ≡ false
past_all words e past =
    ap (λ (word : ℕ). bit_at word (e % 64) == 1) (get_or-eq_default words 0 (omega (arith, past)))
    ∙ ap (λ (n : ℕ). n == 1) (bit_at-zero (e % 64))

-- those below two numbers, where none is past either
more_none : (p : ℕ → Bool) (few more : ℕ) → ((e : ℕ) → few ≤ e → p e ≡ false)
    → filter p (range_with_len 0 (few + more)) ≡ filter p (range_with_len 0 few)
more_none p few more none =
    rw (
      range-append 0 few more,
      filter-append p (range_with_len 0 few) (range_with_len (0 + few) more),
      filter-none p (0 + few) more (λ e low high. none e (omega (arith, low))),
    ) (append-nil _)

same_upto : (p : ℕ → Bool) (n m : ℕ) → ((e : ℕ) → n ≤ e → p e ≡ false) → ((e : ℕ) → m ≤ e → p e ≡ false)
    → filter p (range_with_len 0 n) ≡ filter p (range_with_len 0 m)
same_upto p n m none also =
    let both : n + m ≡ m + n = omega arith in
    sym (more_none p n m none) ∙ ap (λ (k : ℕ). filter p (range_with_len 0 k)) both ∙ more_none p m n also

-- the elements of a plane, of which none is past a number
pub elements_below : (plane : List ℕ) (n : ℕ) → ((e : ℕ) → n ≤ e → bit_of plane e ≡ false)
    → elements_in_plane plane ≡ filter (bit_of plane) (range_with_len 0 n)
elements_below plane n none = same_upto (bit_of plane) (64 * length plane) n (past_all plane) none

-- those of a plane of which another's were kept
pub elements_kept : (others old new : List ℕ) → KeepsBits others old new
    → elements_in_plane new ≡ filter (bit_of others) (elements_in_plane old)
elements_kept others old new keeps =
    ap (λ (n : ℕ). filter (bit_of new) (range_with_len 0 (64 * n))) keeps.count
    ∙ (λ i. filter (λ e. keeps.bits e i) (range_with_len 0 (64 * length old)))
    ∙ filter_both (bit_of old) (bit_of others) (range_with_len 0 (64 * length old))
