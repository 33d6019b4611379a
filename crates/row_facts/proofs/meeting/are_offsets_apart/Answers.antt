use Rattle.std.proofs.Common.{◌∙◌, ℕ, sym, subst}
use Rattle.row_facts.{specs.{Apart.{AreLinesApart}, Sites.{bytes_in}}, proofs.MeetingLaws.{offsets_apart}}
use Rattle.row_facts.proofs.meeting.are_offsets_apart.Goals.{then-is_aligned, else-is_aligned}
use Rattle.row_facts.proofs.meeting.are_offsets_apart.Goals as goal

pub returns-then-is_aligned-2 : goal.returns-then-is_aligned-2
returns-then-is_aligned-2 c is list facts are one two =
    let a = c.args.first.now in
    let b = c.args.second.now in
    let apart : AreLinesApart c.line_at-line.result (bytes_in a.place.width) c.line_at-other.result (bytes_in b.place.width) 0 =
    subst (λ (n : ℕ). AreLinesApart c.line_at-line.result n c.line_at-other.result (bytes_in b.place.width) 0)
    c.bytes_in-first_size.ensures
    (subst (λ (n : ℕ). AreLinesApart c.line_at-line.result c.bytes_in-first_size.result c.line_at-other.result n 0)
    c.bytes_in-second_size.ensures (c.are_lines_apart.ensures is)) in
    elim c.if-is_aligned.branch [
      | then-is_aligned w ↦ offsets_apart list facts are a b one two c.line_at-line.result c.line_at-other.result
          c.if-first-second.false (c.is_aligned.ensures w.if-is_aligned.true)
          (w.is_aligned-then-is_aligned.ensures (sym w.value-is ∙ c.if-is_aligned-2.true)) c.line_at-line.ensures
          c.line_at-other.ensures apart
      | else-is_aligned w ↦ absurd (let e = sym w.value-is ∙ c.if-is_aligned-2.true in cc)
    ]
