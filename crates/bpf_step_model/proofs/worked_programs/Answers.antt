-- Each row is computed.
use Rattle.bpf_insn_types.specs.Words.{alu, holds, negated, moved_signed, in_order}
use Rattle.bpf_step_model.specs.{Step.{step}, ProgramInOrder.{program_in_order}}
use Rattle.bpf_step_model.proofs.worked_programs.Goals as goal

pub returns : goal.returns
unfolding program_in_order step alu holds negated moved_signed in_order
returns c = assumption
