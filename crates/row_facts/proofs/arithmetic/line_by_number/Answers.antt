use Rattle.std.{proofs.Common.{ℕ, ◌-◌, ◌^◌, sym, subst}, specs.Int.{w64, trailing_zeros}}
use Rattle.value_range.proofs.Multiples.{trailing-multiple, trailing-most}
use Rattle.bpf_insn_types.specs.{declared.insn.{Width.TheVariants.{W64}, AluOp.TheVariants.{And}}, Words.{alu}}
use Rattle.row_facts.{specs.Facts.{IsOnLine}, proofs.OperatorLaws.{alu-mul, alu-lsh, alu-rsh, alu-and}}
use Rattle.row_facts.proofs.arithmetic.line_by_number.Goals as goal

pub returns-in-Mul : goal.returns-in-Mul
returns-in-Mul c index x line word = rw c.in-Mul.is
    (subst (λ (n : ℕ). IsOnLine c.product.result index n) (sym (alu-mul x c.args.n)) (c.product.ensures index x line))

pub returns-in-Lsh : goal.returns-in-Lsh
returns-in-Lsh c index x line word = rw c.in-Lsh.is
    (subst (λ (n : ℕ). IsOnLine c.product-in-Lsh.result index n) (sym (alu-lsh x c.args.n word c.ranges.n.fits))
    (c.product-in-Lsh.ensures index x line))

pub returns-in-Rsh : goal.returns-in-Rsh
returns-in-Rsh c index x line word = rw c.in-Rsh.is
    (subst (λ (n : ℕ). IsOnLine c.quotient.result index n) (sym (alu-rsh x c.args.n word c.ranges.n.fits))
    (c.quotient.ensures index x line))

pub returns-in-And : goal.returns-in-And
returns-in-And c index x line word =
    let rest = 2 ^ 64 - 1 - c.args.n in
    rw c.in-And.is
    (c.cut.ensures index x (alu W64 And x c.args.n) line
    (alu-and (trailing_zeros w64 rest) x c.args.n (trailing-most rest) word c.ranges.n.fits (trailing-multiple rest)))
