use Rattle.row_facts.proofs.ApartLaws.{aligned, among-four, among-eight}
use Rattle.row_facts.proofs.meeting.is_aligned.Goals as goal

pub returns-in-W32 : goal.returns-in-W32
returns-in-W32 c is index byte half sure covers = rw c.in-W32.is
    (among-four byte half (aligned c.args.site.now.byte.line 2 index byte (c.is_of_multiples.ensures is) sure.on_line)
    (rw c.in-W32.is at covers))

pub returns-in-W64 : goal.returns-in-W64
returns-in-W64 c is index byte half sure covers = rw c.in-W64.is
    (among-eight byte half (aligned c.args.site.now.byte.line 3 index byte (c.is_of_multiples-in-W64.ensures is)
    sure.on_line) (rw c.in-W64.is at covers))
