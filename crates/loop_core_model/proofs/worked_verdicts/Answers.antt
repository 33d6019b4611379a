-- Each row is computed.
use Rattle.bpf_insn_types.specs.Words.{alu, holds}
use Rattle.array_maps.specs.{Accesses.{combined}, Halves.{half_of, with_half, halves_added}}
use Rattle.bpf_step_model.specs.{Step.{step}, Iteration.{iteration}, ProgramInOrder.{program_in_order}}
use Rattle.loop_core_model.specs.declared.loop_test.Test.{Test, TheVariants.{Lrpd, Flow}}
use Rattle.loop_core_model.specs.VerdictRows.{ParallelRows, ConflictVerdictRows, HalfElementRows, CallRows}
use Rattle.loop_core_model.proofs.worked_verdicts.Goals as goal

each : (test : Test) → ParallelRows test × ConflictVerdictRows test × HalfElementRows test × CallRows test
unfolding program_in_order iteration step alu holds combined half_of with_half halves_added
each Lrpd = (assumption, assumption, assumption, assumption)
each Flow = (assumption, assumption, assumption, assumption)

pub returns : goal.returns
unfolding program_in_order iteration step alu holds combined half_of with_half halves_added
returns c = record {
  parallel = λ test. (each test).0;
  conflict = λ test. (each test).1;
  ahead_by_lrpd = assumption;
  ahead_by_flow = assumption;
  halves = λ test. (each test).2;
  calls = λ test. (each test).3;
}
