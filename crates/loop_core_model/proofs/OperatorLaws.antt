-- Each operator is associative.
use Rattle.std.proofs.Common.{◌≡◌, ℕ, List, [], ◌∷◌, refl, sym, ◌∙◌, ap, arith}
use Rattle.std.specs.{Prelude.{◌%◌, ◌^◌, bit_and, bit_or, bit_xor}, List.{fold}, Int.Bits.{xor_assoc}}
use Rattle.std.proofs.Math.Nat.{mod-mod}
use Rattle.std.proofs.lemmas.{Nat.{and_assoc, and_mod, or_mod, xor_mod}, Nat.Bits.{bit_at_or, same_from_bits}}
use Rattle.bpf_insn_types.specs.Words.{alu}
use Rattle.array_maps.specs.{declared.access.Op.{Op, TheVariants.{Add, Or, And, Xor, AddH}}, Accesses.{combined}}
use Rattle.array_maps.specs.Halves.{half_of, halves_added}
use Rattle.loop_core_model.specs.Kept.{combined_from_first, applied, OperatorsAssociate}

or_assoc : (a b c : ℕ) → bit_or (bit_or a b) c ≡ bit_or a (bit_or b c)
or_assoc a b c = same_from_bits _ _ (λ i. simp bit_at_or (omega arith))

-- an operator on the low 64 bits, whose results keep to them
low_assoc : (f : ℕ → ℕ → ℕ) → ((a b : ℕ) → f a b % 2 ^ 64 ≡ f (a % 2 ^ 64) (b % 2 ^ 64))
    → ((a b c : ℕ) → f (f a b) c ≡ f a (f b c)) → (a b c : ℕ) →
    f (f (a % 2 ^ 64) (b % 2 ^ 64) % 2 ^ 64) (c % 2 ^ 64) ≡ f (a % 2 ^ 64) (f (b % 2 ^ 64) (c % 2 ^ 64) % 2 ^ 64)
low_assoc f fits assoc a b c =
    ap (λ n. f n (c % 2 ^ 64)) (kept a b) ∙ assoc (a % 2 ^ 64) (b % 2 ^ 64) (c % 2 ^ 64)
    ∙ ap (f (a % 2 ^ 64)) (sym (kept b c))
  where
    kept : (x y : ℕ) → f (x % 2 ^ 64) (y % 2 ^ 64) % 2 ^ 64 ≡ f (x % 2 ^ 64) (y % 2 ^ 64)
    kept x y = fits (x % 2 ^ 64) (y % 2 ^ 64) ∙ ap (λ n. f n (y % 2 ^ 64 % 2 ^ 64)) (mod-mod x (2 ^ 64))
        ∙ ap (f (x % 2 ^ 64)) (mod-mod y (2 ^ 64))

halves_assoc : (a b c : ℕ) → halves_added (halves_added a b) c ≡ halves_added a (halves_added b c)
unfolding halves_added half_of
halves_assoc a b c = omega arith

each_associates : (op : Op) (a b c : ℕ) → combined op (combined op a b) c ≡ combined op a (combined op b c)
unfolding combined alu halves_added
each_associates Add a b c = omega arith
each_associates Or a b c = low_assoc bit_or (λ x y. or_mod x y 64) or_assoc a b c
each_associates And a b c = low_assoc bit_and (λ x y. and_mod x y 64) (λ x y z. and_assoc z x y) a b c
each_associates Xor a b c = low_assoc bit_xor (λ x y. xor_mod x y 64) xor_assoc a b c
each_associates AddH a b c = halves_assoc a b c

-- operands in turn are their combination at once
pub fold_at_once : (op : Op) (word first : ℕ) (rest : List ℕ) → combined op word (fold (combined op) first rest)
    ≡ fold (combined op) (combined op word first) rest
fold_at_once op word first [] = refl
fold_at_once op word first (next ∷ rest) =
    fold_at_once op word (combined op first next) rest ∙ ap (λ w. fold (combined op) w rest)
    (sym (each_associates op word first next))

at_once : (op : Op) (word : ℕ) (operands : List ℕ) → fold (combined op) word operands ≡ applied word
    (combined_from_first op operands)
at_once op word [] = refl
at_once op word (first ∷ rest) = sym (fold_at_once op word first rest)

pub operators_associate : OperatorsAssociate
operators_associate = record { each = each_associates; at_once = at_once }
