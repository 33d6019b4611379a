-- Two changes of words that may change places.
use Rattle.std.proofs.Common.{◌≡◌, ◌≢◌, ℕ, zero, suc, List, [], ◌∷◌, set, get_or, refl, sym, ◌∙◌, ap}
use Rattle.std.{proofs.{Common.{inl, inr}, Math.Nat.{add_comm}}, specs.Prelude.{◌%◌, ◌^◌}}
use Rattle.std.proofs.lemmas.{Bool.{cases_eq}, Nat.{or_comm, and_comm, xor_comm}}
use Rattle.std.proofs.lemmas.List.{get_or-set_other, set_comm}
use Rattle.bpf_insn_types.specs.Words.{alu}
use Rattle.array_maps.specs.{declared.access.Op.{Op, TheVariants.{Add, Or, And, Xor, AddH}}, Accesses.{combined}}
use Rattle.array_maps.specs.{Halves.{half_of, halves_added}, declared.access.Half.TheVariants.{Low, High}}
use Rattle.loop_core_model.specs.Kept.{OperatorsAssociate}

-- a word of a list changed
abbrev pub changed_at : (ℕ → ℕ) → ℕ → List ℕ → List ℕ
changed_at change e words = set words e (change (get_or words e 0))

-- two changes at one place, which commute
pub same_place : (f g : ℕ → ℕ) → ((word : ℕ) → f (g word) ≡ g (f word)) → (words : List ℕ) (e : ℕ)
    → changed_at f e (changed_at g e words) ≡ changed_at g e (changed_at f e words)
same_place f g comm [] e = refl
same_place f g comm (word ∷ words) zero = ap (λ (w : ℕ). w ∷ words) (comm word)
same_place f g comm (word ∷ words) (suc e) = ap (λ (ws : List ℕ). word ∷ ws) (same_place f g comm words e)

-- two changes at different places
pub other_place : (f g : ℕ → ℕ) (words : List ℕ) (d e : ℕ) → d ≢ e
    → changed_at f d (changed_at g e words) ≡ changed_at g e (changed_at f d words)
other_place f g words d e apart =
    let x : ℕ = f (get_or words d 0) in
    let y : ℕ = g (get_or words e 0) in
    ap (λ (w : ℕ). set (set words e y) d (f w)) (get_or-set_other words e d y 0 apart)
    ∙ set_comm words e d y x (λ same. apart (sym same))
    ∙ sym (ap (λ (w : ℕ). set (set words d x) e (g w)) (get_or-set_other words d e x 0 (λ same. apart (sym same))))

-- reduces by one operator
combined_comm : (op : Op) (a b : ℕ) → combined op a b ≡ combined op b a
unfolding combined alu halves_added
combined_comm Add a b = ap (λ (n : ℕ). n % 2 ^ 64) (add_comm (a % 2 ^ 64) (b % 2 ^ 64))
combined_comm Or a b = or_comm (a % 2 ^ 64) (b % 2 ^ 64)
combined_comm And a b = and_comm (a % 2 ^ 64) (b % 2 ^ 64)
combined_comm Xor a b = xor_comm (a % 2 ^ 64) (b % 2 ^ 64)
combined_comm AddH a b =
    rw (add_comm (half_of Low a) (half_of Low b), add_comm (half_of High a) (half_of High b)) refl

in_either_order : OperatorsAssociate → (op : Op) (word x y : ℕ) → combined op (combined op word x) y ≡ combined op
    (combined op word y) x
in_either_order laws op word x y = laws.each op word x y ∙ ap (combined op word) (combined_comm op x y)
    ∙ sym (laws.each op word y x)

pub reduces_swap : OperatorsAssociate → (op : Op) (d e x y : ℕ) (words : List ℕ)
    → changed_at (λ (word : ℕ). combined op word x) d (changed_at (λ (word : ℕ). combined op word y) e words)
    ≡ changed_at (λ (word : ℕ). combined op word y) e (changed_at (λ (word : ℕ). combined op word x) d words)
reduces_swap laws op d e x y words = elim (cases_eq d e) [
  | inl same ↦ rw same (same_place (λ (word : ℕ). combined op word x) (λ (word : ℕ). combined op word y)
      (λ word. in_either_order laws op word y x) words e)
  | inr other ↦ other_place (λ (word : ℕ). combined op word x) (λ (word : ℕ). combined op word y) words d e other
]
