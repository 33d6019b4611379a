-- Each row is computed.
use Rattle.bpf_insn_types.specs.Words.{alu}
use Rattle.array_maps.specs.{Accesses.{combined}, Halves.{half_of, with_half, halves_added}}
use Rattle.bpf_step_model.specs.{Step.{step}, ProgramInOrder.{program_in_order}}
use Rattle.bpf_step_model.proofs.worked_maps.Goals as goal

pub returns : goal.returns
unfolding program_in_order step alu combined half_of with_half halves_added
returns c = assumption
