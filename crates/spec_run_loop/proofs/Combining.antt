-- Words that are combined, element by element.
use Rattle.std.proofs.Common.{◌≡◌, ℕ, zero, suc, ◌+◌, ◌-◌, ◌<◌, ◌≤◌, ◌^◌, true, inl, inr, List, [], ◌∷◌, length}
use Rattle.std.{proofs.Common.{slice_set, refl, sym, ap, ◌∙◌, subst, arith}, specs.Int.Bits.{or_zero_r, xor_zero_r}}
use Rattle.std.specs.{Prelude.{slice_index, ◌%◌, bit_and, bit_or, bit_xor}, List.{list_all}}
use Rattle.std.proofs.lemmas.{Bool.{cases_eq}, List.{get_or-set_same, get_or-set_other}, Nat.{and_mask}}
use Rattle.std.proofs.lemmas.List.FromFn.{fill_by_all}
use Rattle.bpf_insn_types.specs.Words.{alu}
use Rattle.array_maps.specs.{declared.access.Op.{Op, TheVariants.{Add, Or, And, Xor, AddH}}, Accesses.{words_after_all}}
use Rattle.array_maps.specs.Accesses.{words_after_run, Action, Reduce, Access, combined, left_by_all, actions_at}
use Rattle.array_maps.specs.{Halves.{half_of, halves_added}, MapList.{AreWords}}
use Rattle.array_maps.proofs.ElementLaws.{length-words_after, length-words_after_all, element_after_all}
use Rattle.loop_core_model.specs.{Actions.{reduces_by}, Kept.{OperatorsAssociate}}
use Rattle.spec_run_loop.specs.{SumLaw.{AllReduce}, Sums.{identity_of, combined_words}}
use Rattle.spec_run_loop.proofs.Reduces.{reduces_at, combined_first}

low : (word : ℕ) → word < 2 ^ 64 → word % 2 ^ 64 ≡ word
low word h = omega (arith, h)

no_bits : 0 % 2 ^ 64 ≡ 0
no_bits = omega arith

all_bits : 18446744073709551615 % 2 ^ 64 ≡ 2 ^ 64 - 1
all_bits = omega arith

-- the operand that leaves each word as it was
kept : (op : Op) (word : ℕ) → word < 2 ^ 64 → combined op word (identity_of op) ≡ word
unfolding combined alu halves_added half_of identity_of
kept Add word h = omega (arith, h)
kept Or word h = ap (bit_or (word % 2 ^ 64)) no_bits ∙ or_zero_r (word % 2 ^ 64) ∙ low word h
kept And word h =
    ap (bit_and (word % 2 ^ 64)) all_bits ∙ and_mask (word % 2 ^ 64) 64 ∙ ap (λ (n : ℕ). n % 2 ^ 64) (low word h)
    ∙ low word h
kept Xor word h = ap (bit_xor (word % 2 ^ 64)) no_bits ∙ xor_zero_r (word % 2 ^ 64) ∙ low word h
kept AddH word h = omega (arith, h)

-- so what reduces leave of a word is the word, combined with what they leave of that operand
element_combined : OperatorsAssociate → (op : Op) (actions : List Action) → list_all (reduces_by op) actions ≡ true
    → (word : ℕ) → word < 2 ^ 64
    → left_by_all actions word ≡ combined op word (left_by_all actions (identity_of op))
element_combined laws op actions all word h =
    sym (ap (left_by_all actions) (kept op word h)) ∙ combined_first laws op actions word (identity_of op) all

word_below : (words : List ℕ) → AreWords words → (e : ℕ) → e < length words → slice_index words e < 2 ^ 64
word_below [] fit e h = absurd (omega arith)
word_below (word ∷ words) fit zero h = fit.0
word_below (word ∷ words) fit (suc e) h = word_below words fit.1 e (omega arith)

-- and so it is of all words
pub sums_combine : OperatorsAssociate → (op : Op) (made : List Access) → AllReduce op made → (words : List ℕ)
    → AreWords words → (base : List ℕ) → length base ≡ length words
    → ((e : ℕ) → e < length base → slice_index base e ≡ identity_of op)
    → words_after_all made words ≡ combined_words op words (words_after_all made base)
sums_combine laws op made all words fit base same is =
    fill_by_all (λ (e : ℕ). combined op (slice_index words e) (slice_index (words_after_all made base) e))
    (words_after_all made words) (length words) 0 (length-words_after_all made words)
    (λ e h.
    let inside : e < length base = subst (λ (n : ℕ). e < n) (sym same) h in
    element_after_all made words e h
    ∙ element_combined laws op (actions_at e made) (reduces_at op made all e) (slice_index words e)
    (word_below words fit e h)
    ∙ ap (combined op (slice_index words e)) (ap (left_by_all (actions_at e made)) (sym (is e inside))
    ∙ sym (element_after_all made base e inside)))

-- reduces at elements in a row, from the first on
module _ (op : Op) (operands words : List ℕ) where
  abbrev pub after_run : ℕ → List ℕ
  after_run count = words_after_run 0 (λ k. Reduce op (slice_index operands k)) count words

  length_run : (count : ℕ) → length (after_run count) ≡ length words
  length_run zero = refl
  length_run (suc count) =
      length-words_after (record { element = 0 + count; action = Reduce op (slice_index operands count) })
      (after_run count)
      ∙ length_run count

  not_yet : (count e : ℕ) → count ≤ e → slice_index (after_run count) e ≡ slice_index words e
  not_yet zero e late = refl
  not_yet (suc count) e late =
      get_or-set_other (after_run count) (0 + count) e
      (combined op (slice_index (after_run count) (0 + count)) (slice_index operands count)) 0 (λ same. omega arith)
      ∙ not_yet count e (omega arith)

  done_last : (count e : ℕ) → e ≡ count → e < length words
      → slice_index (after_run (suc count)) e ≡ combined op (slice_index words e) (slice_index operands e)
  done_last count e same inside =
      let at : e ≡ 0 + count = omega (arith, same) in
      let long = length_run count in
      subst (λ (k : ℕ). slice_index (slice_set (after_run count) k (combined op (slice_index (after_run count) k)
      (slice_index operands count))) e
      ≡ combined op (slice_index words e) (slice_index operands e)) at
      (get_or-set_same (after_run count) e (combined op (slice_index (after_run count) e) (slice_index operands count))
      0 (omega (arith, inside, long))
      ∙ ap (λ (word : ℕ). combined op word (slice_index operands count)) (not_yet count e (omega (arith, same)))
      ∙ ap (λ (k : ℕ). combined op (slice_index words e) (slice_index operands k)) (sym same))

  done : (count e : ℕ) → e < count → e < length words
      → slice_index (after_run count) e ≡ combined op (slice_index words e) (slice_index operands e)
  done zero e early inside = absurd (omega arith)
  done (suc count) e early inside = elim (cases_eq e count) [
    | inl same ↦ done_last count e same inside
    | inr apart ↦
        get_or-set_other (after_run count) (0 + count) e
        (combined op (slice_index (after_run count) (0 + count)) (slice_index operands count)) 0
        (λ same. apart (omega arith))
        ∙ done count e (omega arith) inside
  ]

  -- where there is one for each word, all words are combined
  pub run_is_combined : length operands ≡ length words → after_run (length operands) ≡ combined_words op words operands
  run_is_combined same =
      fill_by_all (λ (e : ℕ). combined op (slice_index words e) (slice_index operands e)) (after_run (length operands))
      (length words) 0 (length_run (length operands))
      (λ e h. done (length operands) e (omega (arith, same, h)) h)
