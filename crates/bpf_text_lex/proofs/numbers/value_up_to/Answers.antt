use Rattle.std.proofs.Common.{◌≡◌, ℕ, ◌+◌, ◌*◌, ◌-◌, ◌<◌, ◌≤◌, false, List, [], ◌∷◌, suc, refl, sym, ap, ◌∙◌, arith}
use Rattle.std.proofs.{Common.{drop, get_or, drop-cons, nat_le}, lemmas.Bool.{lt-leb}}
use Rattle.bpf_text_lex.specs.Numbers.{value_of, value_after}
use Rattle.bpf_text_lex.proofs.numbers.value_up_to.Goals as goal

-- digits spell at least what the first of them spell
le-value_after : (n : ℕ) (digits : List ℕ) → n ≤ value_after n digits
le-value_after n [] = omega arith
le-value_after n (b ∷ bs) = omega (arith, le-value_after (10 * n + (b - 48)) bs)

pub returns-then-longer-from : goal.returns-then-longer-from
returns-then-longer-from c =
    let digits = c.args.digits.now in
    let i = c.loop-b.b-index in
    let longer = 10 * c.loop-b.value + (get_or digits i 0 - 48) in
    let above : c.args.limit < longer = omega arith in
    let so_far = ap (value_after c.loop-b.value) (sym (drop-cons digits i 0 c.loop-b-test.true))
    ∙ c.loop-b.invariant.so_far in
    let more = le-value_after longer (drop (suc i) digits) in
    let no : nat_le (value_of digits) c.args.limit ≡ false = lt-leb _ _ (omega (arith, above, more, so_far)) in
    rw no refl
