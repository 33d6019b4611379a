use Rattle.std.proofs.Common.{◌+◌, None, refl, ◌∙◌, arith}
use Rattle.loop_core_witness.proofs.{Runs.{within}, Searches.{traced, none_more, none_both}}
use Rattle.loop_core_witness.proofs.finding.Search.first.Goals as goal

pub trace_iteration-requires-clause-below : goal.trace_iteration-requires-clause-below
trace_iteration-requires-clause-below c =
    let few = within c.requires.counts in
    omega arith

pub loop-index-preserved-then-index-next : goal.loop-index-preserved-then-index-next
loop-index-preserved-then-index-next c =
    let search = c.args.self.now in
    record {
      after = omega arith;
      same = c.loop-index.invariant.same;
      none = none_both c.args.kind search.program.now search.call.now search.start.now.words search.element c.args.from
          c.loop-index.index c.skip-next.result c.loop-index.invariant.none c.skip-next.ensures.none;
    }

pub loop-index-preserved : goal.loop-index-preserved
loop-index-preserved c =
    let search = c.args.self.now in
    let words = search.start.now.words in
    let trace = c.in_ok-trace.trace in
    let told = rw c.loop-index.invariant.same at c.in_ok-trace.ensures.traced in
    record {
      after = omega arith;
      same = c.in_ok-trace.ensures.same ∙ c.loop-index.invariant.same;
      none = none_more c.args.kind search.program.now search.call.now words search.element c.args.from
          c.loop-index.index (c.loop-index.index + 1) refl c.loop-index.invariant.none
          (traced c.args.kind search.program.now search.call.now words search.element c.loop-index.index trace told None
          c.in_default.ensures);
    }
