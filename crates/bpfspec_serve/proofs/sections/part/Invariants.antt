use Rattle.std.{proofs.Common.{◌≡◌, ◌-◌, ◌++◌, length, take, drop}, specs.Str.{IsCharBoundary}}
use Rattle.bpfspec_serve.specs.Sections.{whole_lines, before_mark, behind_mark}
use Rattle.bpfspec_serve.proofs.sections.part.Given as goal

abbrev pub invariant-loop-at : goal.invariant-loop-at
invariant-loop-at l = record {
  section : before_mark (whole_lines l.text) ≡ take l.at l.text ++ before_mark (whole_lines (drop l.at l.text));
  rest : behind_mark (whole_lines l.text) ≡ behind_mark (whole_lines (drop l.at l.text));
  boundary : IsCharBoundary l.text l.at;
}

abbrev pub decreases-loop-at : goal.decreases-loop-at
decreases-loop-at l = length l.text - l.at
