use Rattle.std.proofs.Common.{refl, Some, None}
use Rattle.private_copy.proofs.{CellLaws.{reads}, OverwriteLaws.{page_overwritten, default_none}}
use Rattle.private_copy.proofs.pages.Pages.overwrite.Goals as goal

pub returns-in_default : goal.returns-in_default
returns-in_default c =
    page_overwritten _ c.args.self.now c.args.page c.args.count None c.args.own.now c.args.own.now
    (reads c.self.inside c.args.self.now c.args.page c.index.result.now None c.self.view_is c.requires.within
    c.index.ensures (default_none c.index.result.now c.in_default.not-Some)) c.requires.few
    (record { inside = λ k below. refl; past = λ k above. refl })

pub returns : goal.returns
returns c =
    page_overwritten _ c.args.self.now c.args.page c.args.count (Some c.in-Some.kept) c.args.own.now c.overwrite.new.own
    (reads c.self.inside c.args.self.now c.args.page c.index.result.now (Some c.in-Some.kept) c.self.view_is
    c.requires.within c.index.ensures c.in-Some.is) c.requires.few (rw c.deref.ensures at c.overwrite.ensures)
