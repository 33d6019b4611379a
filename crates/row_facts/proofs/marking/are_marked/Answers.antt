use Rattle.row_facts.proofs.MarkLaws.{are_marked}
use Rattle.row_facts.proofs.marking.are_marked.Goals as goal

pub returns-then-are_watched : goal.returns-then-are_watched
returns-then-are_watched c = λ even.
    are_marked c.args.meetings.now c.args.sites.now (c.are_watched.ensures c.if-are_watched.true) (c.are_even.ensures even)
