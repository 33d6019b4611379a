-- Facts of a list's values, one more at a time; and what a lookup finds.
use Rattle.std.proofs.Common.{◌≡◌, ℕ, zero, suc, ◌+◌, ◌*◌, ◌%◌, ◌^◌, ◌<◌, ◌≤◌, ◌⊎◌, inl, inr, List, [], ◌∷◌, ◌++◌}
use Rattle.std.proofs.{Common.{length, refl, sym, ap, subst, arith, true, false}, Math.Nat.{mod-eq_of_lt}}
use Rattle.std.specs.Prelude.{slice_get, slice_index, Some, nat_lt}
use Rattle.bpf_insn_types.specs.declared.insn.{Width.TheVariants.{W32, W64}, AluOp.TheVariants.{Add, Mul, Mov}}
use Rattle.bpf_insn_types.specs.{declared.insn.Compare.TheVariants.{Lt}, Words.{alu, holds}}
use Rattle.bpf_step_model.specs.AreaWords.{area_word, looked_up_word}
use Rattle.row_list.specs.{declared.row_op.RowOp.{RowOp}, Rows.{IsRowValue}}
use Rattle.row_facts.specs.{declared.fact.Fact.{Fact}, Facts.{IsFact, FitFacts, AreFacts}}

-- an element of a list with one more is of the list, or that one
pub get-more : {X : Type 0} (xs : List X) (x y : X) (k : ℕ) → slice_get (xs ++ x ∷ []) k ≡ Some y →
    (slice_get xs k ≡ Some y) ⊎ ((k ≡ length xs) × (x ≡ y))
get-more [] x y zero e = inr (refl, (cc))
get-more [] x y (suc k) e = absurd (cc)
get-more (z ∷ xs) x y zero e = inl e
get-more (z ∷ xs) x y (suc k) e = elim (get-more xs x y k e) [ inl l ↦ inl l | inr r ↦ inr (ap suc r.0, r.1) ]

-- no fact
pub no-facts : (list : List RowOp) → AreFacts list []
no-facts list = record {
  each = λ index caller words values few are. record { words = are.fit; each = λ k fact e. absurd (cc) };
}

-- one more
pub more-facts : (list : List RowOp) (facts : List Fact) (op : RowOp) (fact : Fact) →
    slice_get list (length facts) ≡ Some op → AreFacts list facts →
    ((index : ℕ) (caller words values : List ℕ) (n : ℕ) → index ≤ 2 ^ 23 → FitFacts facts index values → n < 2 ^ 64 →
    IsRowValue op index caller values words n → IsFact fact index n) → AreFacts list (facts ++ fact ∷ [])
more-facts list facts op fact is are more = record {
  each = λ index caller words values few lane.
      let fit = are.each index caller words values few lane in
      record {
        words = lane.fit;
        each = λ k other e. elim (get-more facts fact other k e) [
          | inl old ↦ fit.each k other old
          | inr new ↦
              let last : IsFact fact index (slice_index values (length facts)) =
              more index caller (words (length facts)) values (slice_index values (length facts)) few fit (lane.fit (length facts))
              (lane.each (length facts) op is) in
              let P : Fact → Type 0 = λ f. IsFact f index (slice_index values k) in
              let Q : ℕ → Type 0 = λ j. IsFact fact index (slice_index values j) in
              subst P new.1 (subst Q (sym new.0) last)
        ];
      };
}

-- a comparison of words
pub holds-lt : (a b : ℕ) → a < 2 ^ 64 → b < 2 ^ 64 → holds W64 Lt a b ≡ nat_lt a b
unfolding holds
holds-lt a b h k = rw (mod-eq_of_lt h, mod-eq_of_lt k) refl

-- the area word of an element, as it is computed
pub area-computed : (first key : ℕ) → first < 2 ^ 32 → key < 2 ^ 32 →
    alu W64 Add (alu W64 Mul key 8) (2 ^ 32 + 8 * first) ≡ area_word (8 * (first + key))
unfolding alu
area-computed first key h k =
    let one : key % 2 ^ 64 ≡ key = mod-eq_of_lt (omega arith) in
    let product : key * 8 % 2 ^ 64 ≡ key * 8 = mod-eq_of_lt (omega arith) in
    let base : (2 ^ 32 + 8 * first) % 2 ^ 64 ≡ 2 ^ 32 + 8 * first = mod-eq_of_lt (omega arith) in
    let sum : (key * 8 + (2 ^ 32 + 8 * first)) % 2 ^ 64 ≡ key * 8 + (2 ^ 32 + 8 * first) = mod-eq_of_lt (omega arith) in
    rw (one, product, product, base, sum) (omega arith)

-- the lower half of a word, as it is moved
pub low-moved : (y x : ℕ) → alu W32 Mov y x ≡ x % 2 ^ 32
unfolding alu
low-moved y x = refl

-- a key that is in the map, and one that isn't
pub found-there : (first count key : ℕ) → nat_lt key count ≡ true → looked_up_word first count key ≡ area_word (8 *
    (first + key))
found-there first count key e = rw e refl

pub found-nowhere : (first count key : ℕ) → nat_lt key count ≡ false → looked_up_word first count key ≡ 0
found-nowhere first count key e = rw e refl
