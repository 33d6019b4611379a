use Rattle.std.proofs.Common.{sym, ◌∙◌}
use Rattle.std.proofs.lemmas.List.{take_all}
use Rattle.loop_core_sequential.proofs.NotingLaws.{noted_none, noted_site}
use Rattle.loop_core_sequential.proofs.noting.note_writes.Goals.{then-leaves, else-leaves}
use Rattle.loop_core_sequential.proofs.noting.note_writes.Goals as goal

pub loop-site-preserved : goal.loop-site-preserved
loop-site-preserved c = elim c.if-leaves.branch [
  | then-leaves w ↦ rw w.log-is (noted_site _ c.loop-site-test.true c.loop-site.invariant c.requires.within
      (sym c.leaves.ensures ∙ w.if-leaves.true) w.note_site.ensures)
  | else-leaves w ↦ rw w.log-is (noted_none _ c.loop-site-test.true c.loop-site.invariant
      (sym c.leaves.ensures ∙ w.if-leaves.false))
]

pub returns : goal.returns
returns c = record {
  grows = c.loop-site.invariant.grows;
  noted = rw (take_all c.loop-site.site-index c.args.sites.now c.loop-site-test.false) at c.loop-site.invariant.noted;
  only = c.loop-site.invariant.only;
}
