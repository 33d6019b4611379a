use Rattle.std.proofs.Common.{◌≤◌, ◌<◌, length, get_or, refl, ◌∙◌, arith}
use Rattle.std.proofs.lemmas.List.{take_all}
use Rattle.loop_core_trace.specs.Traced.{IsTraceOf}
use Rattle.loop_core_witness.specs.{declared.grid.Cell.{Cell}, Grids.{IsCell}}
use Rattle.loop_core_witness.proofs.GridLaws.{columns_last, all_last}
use Rattle.loop_core_witness.proofs.following.row_of.Goals as goal

pub loop-at-preserved : goal.loop-at-preserved
loop-at-preserved c =
    let element = get_or c.args.elements.now c.loop-at.at 0 in
    let told : IsTraceOf c.args.program.now c.args.call.now c.args.index c.args.start.now.words element
    c.in_ok-trace.trace = rw c.loop-at.invariant.same at c.in_ok-trace.ensures.traced in
    let cell : Cell = record { element = element; slots = c.in_ok-trace.trace.slots } in
    let within : c.loop-at.at < length c.args.elements.now = omega arith in
    record {
      same = c.in_ok-trace.ensures.same ∙ c.loop-at.invariant.same;
      columns = columns_last c.loop-at.cells.items c.push.new.self.items c.args.elements.now c.loop-at.at cell
          c.in_ok-push.ensures.items c.loop-at.invariant.columns within refl;
      cells = all_last (IsCell c.args.program.now c.args.call.now c.args.start.now.words c.args.index)
          c.loop-at.cells.items c.push.new.self.items cell c.in_ok-push.ensures.items c.loop-at.invariant.cells
          (record { iterated = told.iterated; ended = told.ended; slots = told.slots });
    }

pub returns-clause-cells : goal.returns-clause-cells
returns-clause-cells c =
    let over : length c.args.elements.now ≤ c.loop-at.at = omega arith in
    record {
      columns = c.loop-at.invariant.columns ∙ take_all c.loop-at.at c.args.elements.now over;
      cells = c.loop-at.invariant.cells;
    }
