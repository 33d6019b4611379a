use Rattle.std.proofs.Common.{◌∙◌, refl, sym, ap, inl, inr}
use Rattle.row_list.specs.Places.{place_in}
use Rattle.row_facts.proofs.SiteLaws.{some-same}
use Rattle.loop_inspector.proofs.slice.cut.Goals as goal

pub returns-then-not-opens : goal.returns-then-not-opens
returns-then-not-opens c sites spans closed = inr (inr (record {
  same = refl;
  unneeded = λ needed. absurd (cc (c.is_set_at.ensures.only needed, c.if-is_set_at.false));
  closed = closed c.if-not-opens.true;
}))

pub returns-in-Load : goal.returns-in-Load
returns-in-Load c sites spans closed =
    let same = some-same c.in-Some.place c.in-Load.place (sym c.in-Some.is ∙ c.place.ensures
    ∙ ap place_in c.in-Load.is) in
    rw (c.in-Load.is, ← same) (inr (inl (record {
      same = refl;
      change = c.is_made.ensures c.if-not-is_made.false;
      unneeded = λ needed. absurd (cc (c.is_set_at.ensures.only needed, c.if-is_set_at.false));
    })))

pub returns-in-Store : goal.returns-in-Store
returns-in-Store c sites spans closed =
    let same = some-same c.in-Some.place c.in-Store.place (sym c.in-Some.is ∙ c.place.ensures
    ∙ ap place_in c.in-Store.is) in
    rw (c.in-Store.is, ← same) (inr (inl (record {
      same = refl;
      change = c.is_made.ensures c.if-not-is_made.false;
      unneeded = λ needed. absurd (cc (c.is_set_at.ensures.only needed, c.if-is_set_at.false));
    })))

pub returns-in-Reduce : goal.returns-in-Reduce
returns-in-Reduce c sites spans closed =
    let same = some-same c.in-Some.place c.in-Reduce.place (sym c.in-Some.is ∙ c.place.ensures
    ∙ ap place_in c.in-Reduce.is) in
    rw (c.in-Reduce.is, ← same) (inr (inl (record {
      same = refl;
      change = c.is_made.ensures c.if-not-is_made.false;
      unneeded = λ needed. absurd (cc (c.is_set_at.ensures.only needed, c.if-is_set_at.false));
    })))
