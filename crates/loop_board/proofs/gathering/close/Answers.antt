use Rattle.std.proofs.Common.{◌≡◌, ℕ, min, ◌∙◌, ap}
use Rattle.loop_board.proofs.Wholes.{closes}
use Rattle.loop_board.proofs.gathering.close.Goals as goal

pub returns : goal.returns
returns c =
    let drawn : c.min.result ≡ min c.word-next.result c.args.table.shared.key.blocks = c.min.ensures
    ∙ ap (λ (b : ℕ). min c.word-next.result b) (c.from.ensures ∙ c.requires.blocks) in
    rw drawn (closes _ _ _ _ _ c.requires.whole c.close_with-closed.ensures.values.2 _ _ c.word-next.ensures
    c.word-least.ensures)
