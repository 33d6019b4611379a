use Rattle.std.{proofs.{Common.{◌∙◌, ℕ, ◌-◌, ap}, lemmas.Nat.{and_mask, one_shl}}, specs.Prelude.{bit_and}}
use Rattle.row_facts.proofs.lines.low.Goals as goal

pub returns-then-bits-lt64 : goal.returns-then-bits-lt64
returns-then-bits-lt64 c few =
    ap (λ (n : ℕ). bit_and c.args.number (n - 1)) (one_shl c.args.bits 64 c.if-bits-lt64.true)
    ∙ and_mask c.args.number c.args.bits
