-- Each row is computed.
use Rattle.bpf_insn_types.specs.Words.{alu, holds}
use Rattle.array_maps.specs.Accesses.{combined}
use Rattle.bpf_step_model.specs.{Step.{step}, Iteration.{iteration}}
use Rattle.loop_core_model.specs.declared.loop_test.Test.{Test, TheVariants.{Lrpd, Flow}}
use Rattle.loop_core_model.specs.ReplayRows.{EndedRows}
use Rattle.loop_core_model.proofs.worked_replays.Goals as goal

ended : (test : Test) → EndedRows test
unfolding iteration step alu holds combined
ended Lrpd = assumption
ended Flow = assumption

pub returns : goal.returns
unfolding iteration step alu holds combined
returns c = record { ended = ended; left = assumption; refused = assumption }
