use Rattle.std.proofs.Common.{ℕ, List, get_or, ap, arith}
use Rattle.bpf_insn_types.specs.Program.{slot_count}
use Rattle.bpf_verify_model.proofs.LongestLaws.{longest-small}
use Rattle.bpf_verify.proofs.counting.counts_of.Goals as goal

pub longest_from-requires : goal.longest_from-requires
longest_from-requires c = λ k.
    omega (
      arith,
      ap (λ (l : List ℕ). get_or l k 0) c.as_slice.ensures.value,
      c.in_ok-longest.ensures.ok.at k,
      longest-small c.args.insns.now (slot_count c.args.insns.now) k,
      c.requires.slots,
      c.requires.few,
    )

pub longest_from-requires-in-loop-start : goal.longest_from-requires-in-loop-start
longest_from-requires-in-loop-start c = λ k.
    omega (
      arith,
      ap (λ (l : List ℕ). get_or l k 0) c.as_slice-in-loop-start.ensures.value,
      c.in_ok-longest.ensures.ok.at k,
      longest-small c.args.insns.now (slot_count c.args.insns.now) k,
      c.requires.slots,
      c.requires.few,
    )
