use Rattle.std.proofs.Common.{◌≡◌, ◌≢◌, ◌∙◌, ℕ, ◌*◌, ◌/◌, ◌%◌, ◌<◌, ◌&&◌, List, length, set, get_or, ap, sym, inl, inr}
use Rattle.std.proofs.Common.{arith, eqb, bit_and, Bool, get_or-set_same, get_or-set_other}
use Rattle.std.{specs.Int.{bit_at}, proofs.lemmas.{Bool.{cases_lt}, List.{get_or_past}}}
use Rattle.loop_core_model.specs.Planes.{bit_of}
use Rattle.lane_planes.proofs.BitMeaning.{bit-and}
use Rattle.loop_inspector.proofs.inspection.keep_bits.Goals.{then-k-others, else-k-others}
use Rattle.loop_inspector.proofs.inspection.keep_bits.Goals as goal

-- bits of a word that is replaced, and the others
bits_here : (words others : List ℕ) (k e word : ℕ) → k < length words → word ≡ get_or others k 0 → e / 64 ≡ k
    → bit_of (set words k (bit_and (get_or words k 0) word)) e ≡ (bit_of words e && bit_of others e)
bits_here words others k e word inside is same =
    rw (same, get_or-set_same words k (bit_and (get_or words k 0) word) 0 inside, ← is)
    (bit-and (get_or words k 0) word (e % 64))

bits_there : (words : List ℕ) (k e word : ℕ) → e / 64 ≢ k → bit_of (set words k word) e ≡ bit_of words e
bits_there words k e word apart =
    ap (λ (w : ℕ). eqb (bit_at w (e % 64)) 1) (get_or-set_other words k (e / 64) word 0 apart)

pub loop-k-preserved : goal.loop-k-preserved
loop-k-preserved c =
    let old = c.args.plane.now in
    let others = c.args.others.now in
    let words = c.loop-k.plane in
    let k = c.loop-k.k in
    let word = c.if-k-others.word in
    let is : word ≡ get_or others k 0 = elim c.if-k-others.branch [
      | then-k-others w ↦ w.word-is
      | else-k-others w ↦ w.word-is ∙ sym (get_or_past others k 0 w.if-k-others.false)
    ] in
    let left : ℕ = bit_and (get_or words k 0) word in
    record {
      done = λ e below. elim (cases_lt e (64 * k)) [
        | inl before ↦ bits_there words k e left (omega (arith, before)) ∙ c.loop-k.invariant.done e before
        | inr here ↦ bits_here words others k e word (omega arith) is (omega (arith, here, below))
            ∙ ap (λ (b : Bool). b && bit_of others e) (c.loop-k.invariant.rest e here)
      ];
      rest = λ e above. bits_there words k e left (omega (arith, above))
          ∙ c.loop-k.invariant.rest e (omega (arith, above));
    }
