use Rattle.std.proofs.Common.{◌+◌, ◌-◌, ◌*◌, ◌≤◌, length, sym, arith}
use Rattle.lane_stamps.specs.Sites.{element_named}
use Rattle.loop_marks.specs.SiteMarks.{is_at, runs_on}
use Rattle.loop_marks.proofs.{OneLaws.{one_set}, RunLaws.{element_rises, places_set}}
use Rattle.loop_marks.proofs.SiteLaws.{none_set, one_reached, run_reached, some_set}
use Rattle.loop_marks.proofs.by_site.set_bits.Goals as goal

pub returns-in-One : goal.returns-in-One
returns-in-One c =
    let at = c.in-One.at in
    let one = one_reached (64 * length c.args.words.now) at c.args.reached c.in-One.is c.requires in
    some_set c.args.reached c.args.done (is_at c.args.reached.mask.now at) c.args.words.now c.set_bit.new.words
    c.if-done.true one.each (one_set c.args.reached.mask.now at c.args.reached.lanes c.args.reached.first
    c.args.words.now c.set_bit.new.words c.requires.first c.set_bit.ensures)

pub returns-in-Run : goal.returns-in-Run
returns-in-Run c =
    let halves = c.in-Run.halves in
    let first = c.in-Run.first in
    let lanes = c.args.reached.lanes in
    let run = run_reached (64 * length c.args.words.now) halves first c.args.reached c.in-Run.is c.requires in
    let start = c.element_of-start.ensures in
    let end = c.element_of-end.ensures in
    let some = c.requires.first.within in
    let rising : element_named halves first ≤ element_named halves (first + (lanes - 1)) =
    element_rises halves first _ in
    some_set c.args.reached c.args.done (runs_on halves first) c.args.words.now c.set_run.new.words c.if-done.true
    run.each (places_set halves first (lanes - 1) lanes
    (c.element_of-end.result + 1 - c.element_of-start.result) c.args.words.now c.set_run.new.words (omega (arith, some))
    (omega (arith, start, end, rising)) (rw (sym start) c.set_run.ensures))

pub returns-else-done : goal.returns-else-done
returns-else-done c = none_set c.args.reached c.args.done c.args.words.now c.if-done.false
