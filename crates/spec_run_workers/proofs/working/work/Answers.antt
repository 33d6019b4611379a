use Rattle.std.proofs.{Common.{[], ◌∷◌, map, sym, ap, append-nil, arith}, lemmas.List.{map-append}}
use Rattle.loop_core_block.specs.{LoopBlocks.{RecordsRunOf}, Shown.{shown}}
use Rattle.spec_run_workers.proofs.StillWorks.{on_err, all_images, begins, fewer, stops, goes_on}
use Rattle.spec_run_workers.proofs.working.work.Goals as goal

pub loop-number-init : goal.loop-number-init
loop-number-init g c = begins _ _ _ (ap (map shown) c.new-blocks.ensures.items)

pub loop-number-smaller-in-Continue-branch-2 : goal.loop-number-smaller-in-Continue-branch-2
loop-number-smaller-in-Continue-branch-2 g c =
    fewer c.loop-number.invariant c.in-Some.ensures.drawn c.in_ok-taken.ensures.took _ c.in-Some.ensures.above
    c.in-Some.ensures.below

pub loop-number-preserved-in-Continue-branch-2 : goal.loop-number-preserved-in-Continue-branch-2
loop-number-preserved-in-Continue-branch-2 g c =
    goes_on c.loop-number.invariant c.in-Some.ensures.drawn c.in_ok-taken.ensures.took _
    (rw (c.in_ok-push.ensures.items, c.in-Some-taken.is)
    (map-append shown c.loop-number.blocks.items (c.in-Some-taken.block ∷ [])))

pub loop-number-smaller : goal.loop-number-smaller
loop-number-smaller g c =
    fewer c.loop-number.invariant c.in-Some.ensures.drawn c.in_ok-taken.ensures.took _ c.in-Some.ensures.above
    c.in-Some.ensures.below

pub loop-number-preserved : goal.loop-number-preserved
loop-number-preserved g c =
    goes_on c.loop-number.invariant c.in-Some.ensures.drawn c.in_ok-taken.ensures.took _
    (rw c.in_default-taken.is (sym (append-nil (map shown c.loop-number.blocks.items))))

pub returns-clause-ran : goal.returns-clause-ran
returns-clause-ran g c =
    all_images (RecordsRunOf c.args.of.now) shown c.loop-number.blocks.items c.loop-number.invariant.ran

pub returns-in_err-push-clause-stopped : goal.returns-in_err-push-clause-stopped
returns-in_err-push-clause-stopped g c =
    on_err _ _ (stops c.loop-number.invariant c.in-Some.ensures.drawn c.in_ok-taken.ensures.took
    (rw c.in-Some-taken.is (omega arith)))
