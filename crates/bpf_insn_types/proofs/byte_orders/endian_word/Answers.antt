-- Each order is the case of its name.
use Rattle.std.proofs.Common.{rules}
use Rattle.bpf_insn_types.specs.Words.{in_order}
use Rattle.bpf_insn_types.proofs.byte_orders.endian_word.Goals as goal

pub returns-in-Le : goal.returns-in-Le
unfolding in_order
returns-in-Le c = search rules

pub returns-in-Be : goal.returns-in-Be
unfolding in_order
returns-in-Be c = search rules

pub returns-in-Swap : goal.returns-in-Swap
unfolding in_order
returns-in-Swap c = search rules
