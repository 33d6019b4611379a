use Rattle.std.proofs.Common.{length}
use Rattle.lane_rows.specs.Rows.{is_in}
use Rattle.loop_marks.{specs.SiteMarks.{IsEnd, is_at, runs_on}, proofs.OneLaws.{one_kept}}
use Rattle.loop_marks.proofs.SiteLaws.{none_kept, one_reached, run_reached, some_kept}
use Rattle.loop_marks.proofs.by_site.keep_numbers.Goals.{then-greatest, else-greatest}
use Rattle.loop_marks.proofs.by_site.keep_numbers.Goals as goal

pub returns-after-greatest : goal.returns-after-greatest
returns-after-greatest c =
    let at = c.in-One.at in
    let one = one_reached (length c.args.numbers.now) at c.args.reached c.in-One.is c.requires.reached in
    let end : IsEnd (is_in c.args.reached.mask.now) c.args.greatest c.args.reached.lanes c.if-greatest.lane =
    elim c.if-greatest.branch [
      | then-greatest w ↦ rw w.lane-is (rw w.if-greatest.true c.requires.reached.last)
      | else-greatest w ↦ rw w.lane-is (rw w.if-greatest.false c.requires.reached.first)
    ] in
    some_kept c.args.reached c.args.done (is_at c.args.reached.mask.now at) c.args.greatest c.args.index
    c.args.numbers.now c.keep.new.numbers c.if-done.true one.each
    (one_kept c.args.reached.mask.now at c.args.reached.lanes c.args.greatest c.args.index c.if-greatest.lane
    c.args.numbers.now c.keep.new.numbers end c.keep.ensures)

pub returns-in-Run : goal.returns-in-Run
returns-in-Run c =
    let run = run_reached (length c.args.numbers.now) c.in-Run.halves c.in-Run.first c.args.reached c.in-Run.is
    c.requires.reached in
    some_kept c.args.reached c.args.done (runs_on c.in-Run.halves c.in-Run.first) c.args.greatest c.args.index
    c.args.numbers.now c.keep_run.new.numbers c.if-done.true run.each c.keep_run.ensures

pub returns-else-done : goal.returns-else-done
returns-else-done c =
    none_kept c.args.reached c.args.done c.args.greatest c.args.index c.args.numbers.now c.if-done.false
