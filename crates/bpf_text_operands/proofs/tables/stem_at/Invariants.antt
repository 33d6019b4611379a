use Rattle.std.proofs.Common.{◌≡◌, drop}
use Rattle.bpf_text_operands.{specs.Stems.{stems, first_stem}, proofs.StemLaws.{first_entry}}
use Rattle.bpf_text_operands.proofs.tables.stem_at.Given as goal

abbrev pub invariant-loop-entry : goal.invariant-loop-entry
invariant-loop-entry l = first_entry l.word (drop l.entry-index l.entry-items) ≡ first_stem l.word stems
