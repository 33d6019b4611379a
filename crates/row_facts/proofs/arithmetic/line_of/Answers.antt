use Rattle.std.proofs.Common.{ℕ, ◌%◌, ◌*◌, ◌^◌, ◌-◌, refl, sym, subst, inl, inr}
use Rattle.row_facts.specs.Facts.{IsOnLine, IsSumOfBits}
use Rattle.row_facts.proofs.OperatorLaws.{alu-mov, alu-add, alu-sub, alu-or, alu-xor}
use Rattle.row_facts.proofs.arithmetic.line_of.Goals as goal

pub returns-in-Mov : goal.returns-in-Mov
returns-in-Mov c index x y first second = rw c.in-Mov.is
    (subst (λ (n : ℕ). IsOnLine c.args.second.line index n) (sym (alu-mov x y second.word)) second.on_line)

pub returns-in-Add : goal.returns-in-Add
returns-in-Add c index x y first second = rw c.in-Add.is
    (subst (λ (n : ℕ). IsOnLine c.sum.result index n) (sym (alu-add x y)) (c.sum.ensures index x y first.on_line
    second.on_line))

pub returns-in-Sub : goal.returns-in-Sub
returns-in-Sub c index x y first second = rw c.in-Sub.is
    (subst (λ (n : ℕ). IsOnLine c.sum-in-Sub.result index n) (sym (alu-sub x y first.word second.word))
    (c.sum-in-Sub.ensures index x ((y * (2 ^ 64 - 1)) % 2 ^ 64) first.on_line (c.product.ensures index y
    second.on_line)))

pub returns-then-are_disjoint : goal.returns-then-are_disjoint
returns-then-are_disjoint c index x y first second =
    let bits : IsSumOfBits x y = c.if-are_disjoint.ensures refl x y first.in_range second.in_range in
    let sum = c.sum-then-are_disjoint.ensures index x y first.on_line second.on_line in
    let on : ℕ → Type 0 = λ n. IsOnLine c.sum-then-are_disjoint.result index n in
    elim c.in-Or.is [
      | inl e ↦ rw e (subst on (sym (alu-or x y first.word second.word bits)) sum)
      | inr e ↦ rw e (subst on (sym (alu-xor x y first.word second.word bits)) sum)
    ]
