use Rattle.std.proofs.Common.{sym, ◌∙◌}
use Rattle.loop_core_witness.proofs.BreakLaws.{least_within, breaks_here}
use Rattle.loop_core_witness.proofs.breaking.find_break.Goals as goal

pub trace_iteration-requires-clause-below : goal.trace_iteration-requires-clause-below
trace_iteration-requires-clause-below c =
    least_within c.args.program.now c.args.call.now c.args.start.now.words c.in-Some.index
    (sym c.requires.least ∙ c.in-Some.is)

pub returns : goal.returns
returns c =
    record {
      broke = breaks_here c.args.program.now c.args.call.now c.args.start.now.words c.in-Some.index 0
          c.in_ok-trace.trace (sym c.requires.least ∙ c.in-Some.is)
          (rw c.in_ok-maps.ensures at c.in_ok-trace.ensures.traced);
    }
