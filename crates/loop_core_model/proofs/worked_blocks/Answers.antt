-- Each row is computed.
use Rattle.bpf_insn_types.specs.Words.{alu, holds}
use Rattle.array_maps.specs.{Accesses.{combined}, Halves.{half_of, with_half, halves_added}}
use Rattle.bpf_step_model.specs.{Step.{step}, Iteration.{iteration}}
use Rattle.loop_core_model.proofs.worked_blocks.Goals as goal

pub returns : goal.returns
unfolding iteration step alu holds combined half_of with_half halves_added
returns c = record {
  right = assumption;
  left = assumption;
  mixed = assumption;
  writer = assumption;
  partial = assumption;
  halves = assumption;
}
