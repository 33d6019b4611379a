use Rattle.std.{proofs.Common.{◌≡◌, ℕ, ◌<◌, length, get_or, None}, specs.{Prelude.{filter}, List.{range_with_len}}}
use Rattle.bpf_verify.{specs.Layout.{function_starting_at}, proofs.StartLaws.{starts_at}}
use Rattle.bpf_verify.proofs.layout.numbered.Given as goal

abbrev pub invariant-loop-slot : goal.invariant-loop-slot
invariant-loop-slot l = record {
  starts : l.starts.items ≡ filter (starts_at l.insns) (range_with_len 0 l.slot);
  size : length l.places.items ≡ l.slot;
  places : (k : ℕ) → k < l.slot → get_or l.places.items k None ≡ function_starting_at l.insns k;
}
