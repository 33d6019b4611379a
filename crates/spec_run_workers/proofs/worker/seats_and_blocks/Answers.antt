use Rattle.std.proofs.Common.{◌≡◌, ◌-◌, ◌++◌, ℕ, Some, [], ◌∷◌, map, vec_len, subst, rules, arith, IfOk}
use Rattle.std.proofs.lemmas.{Grind.{common_steps}, List.{map-append, Elements.{All-pop}}, Result.{IfOk-at_ok}}
use Rattle.loop_core_block.specs.Shown.{shown}
use Rattle.spec_run_workers.{specs.Workers.{board_worker, IsWorkerAt, AreOfWorkers}, proofs.WorkerLaws.{one_more}}
use Rattle.spec_run_workers.proofs.worker.seats_and_blocks.Goals as goal

pub loop-worker-preserved : goal.loop-worker-preserved
loop-worker-preserved c = record {
  count = omega (arith, c.loop-worker.invariant.count, c.in-Some.ensures.len);
  parts = λ of board all.
      let so_far = c.loop-worker.invariant.parts of board all in
      let less = All-pop (λ r. IfOk r (λ w. IsWorkerAt of board (board_worker w))) c.loop-worker.done.items
      c.pop.new.self.items (Some c.in-Some.worker) c.in-Some.ensures.items so_far.0 in
      let pushed = c.in_ok-push.ensures.items in
      let appended = c.in_ok-append.ensures.items in
      let same_seat = c.in_ok-seat.seat-is in
      let same_blocks = c.in_ok-seat.its-is in
      let seats_are : c.push.new.self.items ≡ c.loop-worker.seats.items ++ c.in_ok-seat.field-0.seat ∷ [] =
      first_of (cc, search rules, grind (arith, common_steps)) in
      let blocks_are : c.append.new.self.items ≡ c.loop-worker.blocks.items ++ c.in_ok-seat.field-0.blocks.items =
      first_of (cc, search rules, grind (arith, common_steps)) in (
        less.0,
        one_more of board _ _ _ _ _ _ (board_worker c.in_ok-seat.field-0) so_far.1
            (IfOk-at_ok (λ w. IsWorkerAt of board (board_worker w)) c.in_ok-seat.was less.1)
            (omega (arith, c.loop-worker.invariant.count, c.in-Some.ensures.len)) seats_are
            (rw blocks_are (map-append shown _ _)),
      );
}

pub returns : goal.returns
returns c = λ of board all.
    let number : vec_len c.args.done - vec_len c.loop-worker.done ≡ vec_len c.args.done =
    omega (arith, c.in_default.ensures.cases.0) in
    subst (λ (n : ℕ). AreOfWorkers of board n c.loop-worker.seats.items (map shown c.loop-worker.blocks.items)) number
    (c.loop-worker.invariant.parts of board all).1
