-- Each row is computed.
use Rattle.std.{specs.Int.Count.{ones_in, ones, count_trailing_zeros}}
use Rattle.bpf_insn_types.specs.Words.{alu, holds}
use Rattle.array_maps.specs.Accesses.{combined}
use Rattle.bpf_step_model.specs.{Step.{step}, Iteration.{iteration}}
use Rattle.loop_core_model.proofs.worked_planes.Goals as goal

pub returns : goal.returns
unfolding iteration step alu holds combined ones ones_in count_trailing_zeros
returns c = record {
  marks = assumption;
  conflicts = record { three = assumption; second_word = assumption; both_words = assumption; none = assumption };
}
