use Rattle.std.proofs.Common.{◌≤◌, ◌<◌, sym, ◌∙◌, arith}
use Rattle.loop_core_witness.proofs.Runs.{within}
use Rattle.loop_core_witness.proofs.EndLaws.{none_yet, one_traced, all_quiet, found, found_none}
use Rattle.loop_core_witness.proofs.ending.find_end_of_reduction.Goals as goal

pub loop-index-init : goal.loop-index-init
loop-index-init c =
    record {
      same = c.in_ok-maps.ensures;
      kept = none_yet c.args.program.now c.args.call.now c.args.start.now.words c.args.element c.counted_by.result;
    }

pub loop-index-preserved-then-index-next : goal.loop-index-preserved-then-index-next
loop-index-preserved-then-index-next c =
    record {
      same = c.loop-index.invariant.same;
      kept = all_quiet c.args.program.now c.args.call.now c.args.start.now.words c.args.element c.counted_by.result
          c.loop-index.op c.loop-index.index c.skip_quiet.result c.min-next.result (omega arith)
          (omega arith) (omega arith) c.skip_quiet.ensures.quiet c.loop-index.invariant.kept;
    }

pub trace_iteration-requires-clause-below : goal.trace_iteration-requires-clause-below
trace_iteration-requires-clause-below c =
    let few = within c.counted_by.ensures in
    omega arith

pub returns-in-Some : goal.returns-in-Some
returns-in-Some c =
    let words = c.args.start.now.words in
    let trace = c.in_ok-trace.trace in
    let below : c.loop-index.index < c.counted_by.result = omega arith in
    let told = rw c.loop-index.invariant.same at c.in_ok-trace.ensures.traced in
    record {
      end = found c.args.program.now c.args.call.now words c.args.element c.counted_by.ensures c.loop-index.op
          c.loop-index.index c.in-Some.slot trace below told c.loop-index.invariant.kept (sym c.in-Some.ensures);
    }

pub loop-index-preserved : goal.loop-index-preserved
loop-index-preserved c =
    let words = c.args.start.now.words in
    let trace = c.in_ok-trace.trace in
    let below : c.loop-index.index < c.counted_by.result = omega arith in
    let told = rw c.loop-index.invariant.same at c.in_ok-trace.ensures.traced in
    record {
      same = c.in_ok-trace.ensures.same ∙ c.loop-index.invariant.same;
      kept = rw c.operator_after-op.ensures (one_traced c.args.program.now c.args.call.now words c.args.element
          c.counted_by.result c.loop-index.op c.loop-index.index trace below told c.loop-index.invariant.kept
          (sym c.in_default.ensures));
    }

pub returns : goal.returns
returns c =
    let over : c.counted_by.result ≤ c.loop-index.index = omega arith in
    record {
      end = found_none c.args.program.now c.args.call.now c.args.start.now.words c.args.element c.counted_by.ensures
          c.loop-index.op c.loop-index.index over c.loop-index.invariant.kept;
    }
