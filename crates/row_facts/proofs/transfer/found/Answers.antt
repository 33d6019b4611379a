use Rattle.std.proofs.Common.{◌≡◌, ◌∙◌, ℕ, ◌+◌, ◌*◌, ◌%◌, ◌^◌, ◌<◌, ◌≤◌, true, false, sym, subst, inl, inr, arith}
use Rattle.std.{specs.Prelude.{nat_lt}, proofs.lemmas.{Bool.{cases_Bool, ltb-false, le-leb}, Nat.{mod_below, pow_pos}}}
use Rattle.bpf_insn_types.specs.{declared.insn.{Width.TheVariants.{W64}, AluOp.TheVariants.{Add, Mul}}, Words.{alu}}
use Rattle.bpf_step_model.specs.AreaWords.{looked_up_word}
use Rattle.value_range.{specs.{Spans.{Contains}, RefineRows.{says}}, proofs.SpanLaws.{exact-contains}}
use Rattle.row_facts.specs.Facts.{IsSure}
use Rattle.row_facts.proofs.FactLaws.{low-moved, holds-lt, area-computed, found-there, found-nowhere}
use Rattle.row_facts.proofs.transfer.found.Goals as goal

pub returns-in-None : goal.returns-in-None
returns-in-None c index x value =
    let k = x % 2 ^ 32 in
    let count = c.args.count in
    let key : IsSure c.computed-key.result index k =
    subst (λ (n : ℕ). IsSure c.computed-key.result index n) (low-moved 0 x)
    (c.computed-key.ensures index 0 x (c.number.ensures index) value) in
    let counted : Contains c.exact.result count = rw c.exact.ensures (exact-contains count) in
    let away : nat_lt k count ≡ false =
    sym (holds-lt k count key.word (omega arith)) ∙ sym (c.taken.ensures.meaning W64 k count)
    ∙ c.in-None.ensures.none k count key.in_range counted in
    inl (subst (λ (n : ℕ). IsSure c.number-in-None.result index n) (sym (found-nowhere c.args.first count k away))
    (c.number-in-None.ensures index))

pub returns-in-Some : goal.returns-in-Some
returns-in-Some c index x value =
    let k = x % 2 ^ 32 in
    let count = c.args.count in
    let first = c.args.first in
    let key : IsSure c.computed-key.result index k =
    subst (λ (n : ℕ). IsSure c.computed-key.result index n) (low-moved 0 x)
    (c.computed-key.ensures index 0 x (c.number.ensures index) value) in
    let counted : Contains c.exact.result count = rw c.exact.ensures (exact-contains count) in
    let small : k < 2 ^ 32 = mod_below x (2 ^ 32) (pow_pos 32) in
    elim (cases_Bool (nat_lt k count)) [
      | inl there ↦
          let test : says c.taken.result W64 k count ≡ true =
          c.taken.ensures.meaning W64 k count ∙ holds-lt k count key.word (omega arith) ∙ there in
          let both = c.in-Some.ensures.some k count key.in_range counted test in
          let place : IsSure c.computed-place.result index (alu W64 Mul k 8) =
          c.computed-place.ensures index k 8 (c.within.ensures index k both.0 key.on_line) (c.number-in-Some.ensures
          index) in
          let sum : IsSure c.computed-address.result index (alu W64 Add (alu W64 Mul k 8) (2 ^ 32 + 8 * first)) =
          c.computed-address.ensures index (alu W64 Mul k 8) (2 ^ 32 + 8 * first) place (c.number-in-Some-2.ensures
          index) in
          let address : IsSure c.computed-address.result index (looked_up_word first count k) =
          subst (λ (n : ℕ). IsSure c.computed-address.result index n)
          (area-computed first k (omega arith) small ∙ sym (found-there first count k there)) sum in
          inl (record { word = address.word; in_range = address.in_range; on_line = address.on_line })
      | inr away ↦
          let above : count ≤ c.hi.result = omega (
            arith,
            ltb-false k count away,
            key.in_range.below,
            c.hi.ensures.number,
          ) in
          inr (le-leb count c.hi.result above, found-nowhere first count k away)
    ]
