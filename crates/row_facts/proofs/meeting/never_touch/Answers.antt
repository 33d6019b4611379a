use Rattle.std.proofs.Common.{◌∙◌, ℕ, sym, subst}
use Rattle.row_facts.{specs.{Apart.{AreBytesApart}, Sites.{bytes_in}}, proofs.MeetingLaws.{bytes_apart}}
use Rattle.row_facts.proofs.meeting.never_touch.Goals.{then-is_aligned, else-is_aligned}
use Rattle.row_facts.proofs.meeting.never_touch.Goals as goal

pub returns-then-is_aligned-2 : goal.returns-then-is_aligned-2
returns-then-is_aligned-2 c is list facts are one two distance from upto =
    let a = c.args.first.now in
    let b = c.args.second.now in
    let apart : AreBytesApart a.byte (bytes_in a.place.width) b.byte (bytes_in b.place.width) distance =
    subst (λ (n : ℕ). AreBytesApart a.byte n b.byte (bytes_in b.place.width) distance) c.bytes_in-first_size.ensures
    (subst (λ (n : ℕ). AreBytesApart a.byte c.bytes_in-first_size.result b.byte n distance)
    c.bytes_in-second_size.ensures
    (c.are_apart.ensures is distance from upto)) in
    elim c.if-is_aligned.branch [
      | then-is_aligned w ↦ bytes_apart list facts are a b one two distance (c.is_aligned.ensures w.if-is_aligned.true)
          (w.is_aligned-then-is_aligned.ensures (sym w.value-is ∙ c.if-is_aligned-2.true)) apart
      | else-is_aligned w ↦ absurd (let e = sym w.value-is ∙ c.if-is_aligned-2.true in cc)
    ]
