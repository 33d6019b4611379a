-- Each row is computed.
use Rattle.bpf_insn_types.specs.Words.{alu, holds}
use Rattle.array_maps.specs.Accesses.{combined}
use Rattle.bpf_step_model.specs.{Step.{step}, Iteration.{iteration}, ProgramInOrder.{program_in_order}}
use Rattle.bpf_step_model.proofs.worked_steps.Goals as goal

pub returns : goal.returns
unfolding program_in_order iteration step alu holds combined
returns c = assumption
