use Rattle.std.proofs.{Common.{◌<◌, map, vec_len, ap, subst, ◌∙◌, rules, arith}, lemmas.Grind.{common_steps}}
use Rattle.loop_core_model.specs.Intervals.{blocks_of}
use Rattle.loop_core_block.specs.{Loops.{LoopOf, IsSpeculative}, LoopBlocks.{RecordsRunOf}, Shown.{shown}}
use Rattle.spec_run_workers.proofs.{StillWorks.{all_images}, WorkerLaws.{boards, ran, complete}}
use Rattle.spec_run_loop.proofs.by_blocks.run_by_workers.Goals as goal

pub run_workers-requires-clause-blocks : goal.run_workers-requires-clause-blocks
run_workers-requires-clause-blocks g c κs outlives =
    c.in-Ok.ensures.board.0 ∙ c.blocks-2.ensures.blocks ∙ ap (λ (l : LoopOf). blocks_of l.bounds) c.of.view_is

pub gather-requires : goal.gather-requires
gather-requires g c =
    boards c.args.of.now c.in-Ok.board (vec_len c.in-Ok.seats)
    c.in_ok-seats.seats.items (map shown c.in_ok-seats.blocks.items) c.in_ok-seats.ensures

pub returns-clause-ran : goal.returns-clause-ran
returns-clause-ran g c =
    all_images (RecordsRunOf c.args.of.now) shown c.in_ok-seats.blocks.items
    (ran c.args.of.now c.in-Ok.board (vec_len c.in-Ok.seats) c.in_ok-seats.seats.items
    (map shown c.in_ok-seats.blocks.items) c.in_ok-seats.ensures)

pub returns-clause-faultless : goal.returns-clause-faultless
returns-clause-faultless g c =
    let few : 0 < vec_len c.in-Ok.seats = first_of (search rules, grind (arith, common_steps)) in
    let is = subst IsSpeculative c.of.view_is c.of.invariant in
    complete c.args.of.now c.in-Ok.board (vec_len c.in-Ok.seats)
    c.in_ok-seats.seats.items (map shown c.in_ok-seats.blocks.items) c.in_ok-seats.ensures c.law_of_workers.ensures
    is.split is.known.sound.iterations few
    c.in-Ok-gather._tally.claimed c.in-Ok.board.blocks (c.in-Ok.ensures.board.0 ∙ c.blocks-2.ensures.blocks
    ∙ ap (λ (l : LoopOf). blocks_of l.bounds) c.of.view_is) c.in-Ok-gather.ensures.legal
