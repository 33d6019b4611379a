use Rattle.std.{proofs.Common.{refl}, specs.Prelude.{not}}
use Rattle.loop_core_block.specs.Shown.{shown}
use Rattle.loop_core_gather.{specs.Counting.{is_in_split}, proofs.CountLaws.{any_map}}
use Rattle.loop_core_gather.proofs.order.counting_blocks.Goals as goal

pub returns-in_default-clause-fault : goal.returns-in_default-clause-fault
returns-in_default-clause-fault c = rw (← c.least_break-least.ensures, c.in_default.ensures.none) refl

pub returns-then-has_twins-clause-fault : goal.returns-then-has_twins-clause-fault
returns-then-has_twins-clause-fault c =
    rw (← c.least_break-least.ensures, c.in-Some.ensures.some, ← c.if-has_twins.ensures) refl

pub returns-then-has_foreign-clause-fault : goal.returns-then-has_foreign-clause-fault
returns-then-has_foreign-clause-fault c =
    rw (
      ← c.least_break-least.ensures,
      c.in-Some.ensures.some,
      ← c.if-has_twins.ensures,
      any_map shown (λ b. not (is_in_split c.args.split.now b)) c.args.blocks.now,
      ← c.if-has_foreign.ensures,
    ) refl

pub returns-else-has_foreign-clause-counts : goal.returns-else-has_foreign-clause-counts
returns-else-has_foreign-clause-counts c = record {
  faultless = rw (
    ← c.least_break-least.ensures,
    c.in-Some.ensures.some,
    ← c.if-has_twins.ensures,
    any_map shown (λ b. not (is_in_split c.args.split.now b)) c.args.blocks.now,
    ← c.if-has_foreign.ensures,
  ) refl;
  least_is = c.least_break-least.ensures;
  in_order = c.in-Some.ensures.some;
}
