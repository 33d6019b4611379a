use Rattle.std.proofs.Common.{◌≡◌, ◌≤◌, [], length}
use Rattle.bpf_text.specs.MapsText.{lists, values_held, maps_behind}
use Rattle.bpf_text.proofs.maps.read_maps.Given as goal

abbrev pub invariant-loop-line : goal.invariant-loop-line
invariant-loop-line l = record {
  so_far : maps_behind (lists l.maps.items) l.lines ≡ maps_behind [] l.initial.lines;
  count : l.held ≡ values_held (lists l.maps.items);
  room : l.held ≤ 65536;
}

abbrev pub decreases-loop-line : goal.decreases-loop-line
decreases-loop-line l = length l.lines
