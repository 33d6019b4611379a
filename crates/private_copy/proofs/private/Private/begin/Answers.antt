use Rattle.std.proofs.Common.{◌≡◌, ℕ, ap, refl, arith}
use Rattle.private_copy.specs.{Cells.{cell_at, reduction_in}, Shown.{copy_of, last_in}}
use Rattle.private_copy.proofs.BeginLaws.{shows_start, none_flagged, begins}
use Rattle.private_copy.proofs.private.Private.begin.Goals as goal

pub returns-clause-ok : goal.returns-clause-ok
returns-clause-ok c =
    let old = c.args.self.now in
    let cells : (e : ℕ) → cell_at c.prepare.new.self e ≡ cell_at old.pages e = λ e. rw c.prepare.ensures.pages refl in
    record {
      start = refl;
      words = shows_start c.prepare.new.self old.begun old.start.now (λ e. rw c.prepare.ensures.pages (old.writers e));
      flags = none_flagged old.flags (let none = old.settled c.requires.ended in omega (arith, none));
      elements = old.flagged;
      last = λ e. ap last_in (cells e);
      reduction = λ e. ap reduction_in (cells e);
      pages = c.prepare.ensures.order;
      serves = refl;
      under_way = refl;
      begun = refl;
    }

pub returns-clause-records : goal.returns-clause-records
returns-clause-records c runs are = begins (copy_of c.args.self.now) _ c.args.need (returns-clause-ok c) runs are
