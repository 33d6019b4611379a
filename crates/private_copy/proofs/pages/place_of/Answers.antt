use Rattle.private_copy.proofs.PageLaws.{found_if}
use Rattle.private_copy.proofs.pages.place_of.Goals as goal

pub returns-clause-found : goal.returns-clause-found
returns-clause-found c =
    found_if c.args.order.now.keys c.args.number c.get_index_of.result c.get_index_of.ensures.index
