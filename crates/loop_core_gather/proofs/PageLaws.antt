-- The words of a page: those that are left there, block after block.
use Rattle.std.proofs.Common.{◌≡◌, ℕ, ◌+◌, ◌*◌, ◌/◌, ◌%◌, ◌<◌, false, List, length, set}
use Rattle.std.proofs.Common.{refl, ◌∙◌, inl, inr, arith, get_or-set_same, get_or-set_other, length-set}
use Rattle.std.specs.Prelude.{slice_index, bit_or, not}
use Rattle.std.proofs.lemmas.{Bool.{cases_eq, and_right}, Nat.{le_or_l, le_or_r, Bits.{bit_at-zero}}}
use Rattle.array_maps.specs.declared.access.Op.{Op, TheVariants.{Add, Or, And, Xor, AddH}}
use Rattle.loop_core_model.specs.Planes.{bit_of}
use Rattle.shadow_marks.specs.{declared.planes.{OperatorPlanes.{OperatorPlanes}, Planes.{Planes}}, Standing.{plane_by}}
use Rattle.loop_core_gather.specs.Held.{is_reduction}

-- the first k words of a page are known
pub record FilledTo (words : List ℕ) (page : ℕ) (own : List ℕ) (k : ℕ) : Type 0 where
  pub long : length own ≡ 64
  pub each : (j : ℕ) → j < k → slice_index own j ≡ slice_index words (page * 64 + j)

-- and one more
pub filled_next : (words own : List ℕ) (page k word : ℕ) → k < 64 → word ≡ slice_index words (page * 64 + k)
    → FilledTo words page own k → FilledTo words page (set own k word) (k + 1)
filled_next words own page k word inside is so_far =
    let long = so_far.long in
    record {
      long = length-set own k word ∙ long;
      each = λ j below. elim (cases_eq j k) [
        | inl here ↦ rw here (get_or-set_same own k word 0 (omega arith) ∙ is)
        | inr apart ↦ get_or-set_other own k j word 0 apart ∙ so_far.each j (omega arith)
      ];
    }

-- the parts of a word of which no bit is set
pub none_reduced : (planes : OperatorPlanes) (page add or and xor addh : ℕ) →
    bit_or (bit_or (bit_or (bit_or add or) and) xor) addh ≡ 0 → add ≡ slice_index planes.add.items page
    → or ≡ slice_index planes.or.items page → and ≡ slice_index planes.and.items page
    → xor ≡ slice_index planes.xor.items page → addh ≡ slice_index planes.addh.items page
    → (op : Op) → slice_index (plane_by planes op) page ≡ 0
none_reduced planes page add or and xor addh unset is_add is_or is_and is_xor is_addh =
    let one = le_or_l add or in
    let two = le_or_l (bit_or add or) and in
    let three = le_or_l (bit_or (bit_or add or) and) xor in
    let four = le_or_l (bit_or (bit_or (bit_or add or) and) xor) addh in
    elim [
      | Add ↦ omega arith
      | Or ↦ omega (arith, le_or_r add or)
      | And ↦ omega (arith, le_or_r (bit_or add or) and)
      | Xor ↦ omega (arith, le_or_r (bit_or (bit_or add or) and) xor)
      | AddH ↦ omega (arith, le_or_r (bit_or (bit_or (bit_or add or) and) xor) addh)
    ]

-- where no element of a page was reduced, none is reduction-only
pub none_reduction_only : (planes : Planes) (page e : ℕ) → e / 64 ≡ page
    → ((op : Op) → slice_index (plane_by planes.operators op) page ≡ 0) → is_reduction planes e ≡ false
none_reduction_only planes page e here none =
    let clear : (op : Op) → bit_of (plane_by planes.operators op) e ≡ false =
    λ op. rw (here, none op, bit_at-zero (e % 64)) refl in
    and_right (not (bit_of planes.plain.items e)) _ (rw (clear Add, clear Or, clear And, clear Xor, clear AddH) refl)
