use Rattle.loop_core_sequential.proofs.WatchedEnds.{begins, to_end}
use Rattle.loop_core_sequential.proofs.watched_loop.watch.Goals as goal

pub returns-then-n-lt-MIN_BATCHED_ITERATIONS : goal.returns-then-n-lt-MIN_BATCHED_ITERATIONS
returns-then-n-lt-MIN_BATCHED_ITERATIONS c =
    rw (c.ended.ensures, ← c.new-run.ensures.program, ← c.new-run.ensures.call)
    (to_end c.new-run.result.program.now c.new-run.result.call.now _ c.args.maps.now
    c.one_by_one_watched-watch.new.maps c.one_by_one_watched-watch.new.log c.one_by_one_watched-watch.result
    (rw c.new-run.ensures.call c.n-n.ensures)
    (c.one_by_one_watched-watch.ensures.ran c.args.maps.now (begins _ _ c.args.maps.now _ c.requires.empty)))

pub returns-in_default : goal.returns-in_default
returns-in_default c =
    rw (c.ended-in_default.ensures, ← c.new-run.ensures.program, ← c.new-run.ensures.call)
    (to_end c.new-run.result.program.now c.new-run.result.call.now _ c.args.maps.now
    c.one_by_one_watched-watch-in_default.new.maps c.one_by_one_watched-watch-in_default.new.log
    c.one_by_one_watched-watch-in_default.result (rw c.new-run.ensures.call c.n-n.ensures)
    (c.one_by_one_watched-watch-in_default.ensures.ran c.args.maps.now
    (begins _ _ c.args.maps.now _ c.requires.empty)))

pub returns : goal.returns
returns c = rw (← c.new-run.ensures.program, ← c.new-run.ensures.call)
    ((rw c.one_by_one_watched.ensures.same at c.watch_in_batches.ensures) c.args.maps.now
    (c.in-Completed.ensures.ran c.args.maps.now (begins _ _ c.args.maps.now _ c.requires.empty)))

pub returns-in-Dependent : goal.returns-in-Dependent
returns-in-Dependent c = rw (← c.new-run.ensures.program, ← c.new-run.ensures.call)
    (c.in-Dependent.ensures.ran c.args.maps.now (begins _ _ c.args.maps.now _ c.requires.empty))
