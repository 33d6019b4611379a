use Rattle.std.proofs.Common.{◌+◌, sym, subst, arith}
use Rattle.shadow_marks.specs.declared.planes.Planes.{Planes}
use Rattle.shadow_marks.proofs.ClearLaws.{ClearedSoFar, none_cleared, one_cleared, one_unmarked, all_cleared}
use Rattle.shadow_marks.proofs.planes.Planes.clear.Goals.{then-is_marked, else-is_marked}
use Rattle.shadow_marks.proofs.planes.Planes.clear.Goals as goal

pub loop-page-init : goal.loop-page-init
loop-page-init c = none_cleared c.args.self.now c.requires

pub loop-page-preserved : goal.loop-page-preserved
loop-page-preserved c =
    let old : Planes = c.args.self.now in
    elim c.if-is_marked.branch [
      | then-is_marked w ↦
          subst (λ (now : Planes). ClearedSoFar old now (c.loop-page.page + 1)) (sym w.self-is)
          (one_cleared old c.loop-page.self w.clear_page.new.self c.loop-page.page w.clear_page.ensures
          c.loop-page.invariant)
      | else-is_marked w ↦
          subst (λ (now : Planes). ClearedSoFar old now (c.loop-page.page + 1)) (sym w.self-is)
          (one_unmarked old c.loop-page.self c.loop-page.page (c.is_marked.ensures.0 w.if-is_marked.false)
          c.loop-page.invariant)
    ]

pub returns-clause-none : goal.returns-clause-none
returns-clause-none c =
    let past = c.len-page-end.ensures in
    let long = c.args.self.now.plain.ok.0 in
    let count = c.requires.plain.count in
    let end = c.loop-page-test.false in
    all_cleared c.args.self.now c.loop-page.self c.loop-page.page (omega (arith, past, long, count, end))
    c.loop-page.invariant
