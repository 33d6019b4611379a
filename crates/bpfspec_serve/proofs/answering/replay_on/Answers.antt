use Rattle.std.proofs.Common.{ℕ, List, Ok}
use Rattle.spec_run_replay.specs.ProgramReplay.{LoopReplay}
use Rattle.bpfspec_serve.specs.Output.{loop_replay}
use Rattle.bpfspec_serve.proofs.OutputLaws.{replay_refused}
use Rattle.bpfspec_serve.proofs.answering.replay_on.Goals as goal

pub returns-in_ok-print_replay-in-Ok : goal.returns-in_ok-print_replay-in-Ok
returns-in_ok-print_replay-in-Ok c = (
  Ok (loop_replay c.in-Ok.replayed),
  c.in-Ok.ensures.replayed,
  rw (c.in_ok-print_replay-in-Ok.ensures, c.in-Ok.ensures.sizes),
)

pub returns-in-Err : goal.returns-in-Err
returns-in-Err c =
    replay_refused {X = LoopReplay} {Y = List ℕ} (λ x. x) (λ x. x) c.args.test c.args.program.now c.args.argument
    c.args.maps.words (c.args.schedule.0.items, c.args.schedule.1.items) c.in-Err.error c.in-Err.ensures.replayed
