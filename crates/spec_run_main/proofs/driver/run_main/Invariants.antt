use Rattle.std.proofs.Common.{◌≤◌, List}
use Rattle.bpf_step_model.specs.{Run.{mapped}, ProgramInOrder.{LoopMade, program_in_order}}
use Rattle.bpf_verify_sound.specs.Soundness.{most_from}
use Rattle.spec_run_main.proofs.{CallLists.{behind}, Turns.{StillRuns}}
use Rattle.spec_run_main.proofs.driver.run_main.Given as goal

abbrev pub invariant-loop-call : goal.invariant-loop-call
invariant-loop-call g l = record {
  calls : List LoopMade;
  still : StillRuns (mapped (behind calls)) (program_in_order l.program 4096 l.argument l.fn.maps.words) l.program
      l.main l.fn.maps l.maps;
  recorded : g.L.LoopRunner.records l.program l.fn.runner calls l.runner;
  room : most_from l.program l.main.slot ≤ g.L.LoopRunner.room l.runner;
}

abbrev pub decreases-loop-call : goal.decreases-loop-call
decreases-loop-call g l = most_from l.program l.main.slot
