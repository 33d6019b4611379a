-- The lines of loop calls.
use Rattle.std.specs.Prelude.{◌≡◌, List, map}
use Rattle.bpf_step_model.specs.{Run.{BoundedResult, Ended}, ProgramInOrder.{LoopMade}}
use Rattle.loop_core_model.specs.{declared.verdict.LoopReport.{LoopReport}, LeastBreak.{all_ended}}

-- these are the lines of loop calls, one by one
abbrev pub AreLines : (LoopMade → BoundedResult LoopReport) → List LoopMade → List LoopReport → Type 0
AreLines line_of calls lines = all_ended (map line_of calls) ≡ Ended lines
