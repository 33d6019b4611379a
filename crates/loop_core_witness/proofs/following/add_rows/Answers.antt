use Rattle.std.{proofs.Common.{◌≡◌, ℕ, ◌+◌, ◌-◌, ◌++◌, sym, ap, ◌∙◌, arith}, specs.List.{range_with_len}}
use Rattle.loop_core_witness.{specs.Grids.{IsGridRow, indices}, proofs.GridLaws.{all_last, indices_last, none_between}}
use Rattle.loop_core_witness.proofs.following.add_rows.Goals as goal

pub loop-index-init : goal.loop-index-init
loop-index-init c = record {
  rows = c.requires.rows;
  iterations = none_between (indices c.args.rows.now.items) c.args.span.from;
}

pub loop-index-preserved : goal.loop-index-preserved
loop-index-preserved c =
    let from = c.args.span.from in
    let reached = c.loop-index.auto.index in
    let next : c.loop-index.index + 1 - from ≡ c.loop-index.index - from + 1 = omega (arith, reached) in
    let here : from + (c.loop-index.index - from) ≡ c.loop-index.index = omega (arith, reached) in
    record {
      rows = all_last (IsGridRow c.args.program.now c.args.call.now c.args.start.now.words c.args.elements.now)
          c.loop-index.rows.items c.push.new.self.items c.in_ok-row.row c.in_ok-push.ensures.items
          c.loop-index.invariant.rows c.in_ok-row.ensures.cells;
      iterations = indices_last c.loop-index.rows.items c.push.new.self.items c.in_ok-row.row
          (indices c.args.rows.now.items) from (c.loop-index.index - from) c.loop-index.index
          c.in_ok-push.ensures.items c.loop-index.invariant.iterations c.in_ok-row.ensures.index here
          ∙ ap (λ (n : ℕ). indices c.args.rows.now.items ++ range_with_len from n) (sym next);
    }

pub returns : goal.returns
returns c =
    let from = c.args.span.from in
    let all : c.loop-index.index - from ≡ c.args.span.past - from = omega arith in
    record {
      rows = c.loop-index.invariant.rows;
      iterations = c.loop-index.invariant.iterations
          ∙ ap (λ (n : ℕ). indices c.args.rows.now.items ++ range_with_len from n) all;
    }
