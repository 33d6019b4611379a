use Rattle.std.{proofs.Common.{◌≡◌, ◌≤◌, true, take}, specs.{Prelude.{nat_le, sum}, List.{list_all}}}
use Rattle.bpf_insn_types.proofs.limits.elements_of.Given as goal

abbrev pub invariant-loop-size : goal.invariant-loop-size
invariant-loop-size l = record {
  so_far : l.total ≡ sum (take l.size-index l.sizes);
  small : l.total ≤ 65536;
  filled : list_all (nat_le 1) (take l.size-index l.sizes) ≡ true;
}
