use Rattle.std.proofs.Common.{◌≡◌, ◌≤◌, [], length, vec_len}
use Rattle.bpf_text.specs.HexText.{bytes_behind}
use Rattle.bpf_text.proofs.hex_reading.read_lines.Given as goal

abbrev pub invariant-loop-line : goal.invariant-loop-line
invariant-loop-line l = record {
  so_far : bytes_behind l.bytes.items l.lines ≡ bytes_behind [] l.initial.lines;
  room : vec_len l.bytes ≤ 32768;
}

abbrev pub decreases-loop-line : goal.decreases-loop-line
decreases-loop-line l = length l.lines
