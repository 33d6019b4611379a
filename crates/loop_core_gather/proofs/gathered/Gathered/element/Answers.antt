use Rattle.std.proofs.Common.{◌+◌, ◌≡◌, ◌/◌, ◌<◌, length, map, sym, ◌∙◌, arith}
use Rattle.std.{specs.Prelude.{slice_index}, proofs.lemmas.List.{get_or_default}}
use Rattle.private_copy.proofs.AccessLaws.{shown_length}
use Rattle.loop_core_block.specs.Shown.{shown}
use Rattle.loop_core_gather.{specs.Held.{chosen}, proofs.HeldLaws.{starts_at, element_is}}
use Rattle.loop_core_gather.proofs.gathered.Gathered.element.Goals.{After-self}
use Rattle.loop_core_gather.proofs.gathered.Gathered.element.Goals as goal

-- the element is one of the start
inside : (c : After-self) → c.args.e < length c.self.inside.start.now
inside c = rw (← c.self.view_is, shown_length) at c.requires

-- and its page one of those that blocks touched or not
page_inside : (c : After-self) → c.args.e / 64 < length c.self.inside.touched.items
page_inside c =
    let pages : length c.self.inside.touched.items ≡ (length c.self.inside.start.now + 63) / 64 =
    c.self.invariant.pages in
    omega (arith, inside c, pages)

pub is_reduction-reduced-requires-clause-within : goal.is_reduction-reduced-requires-clause-within
is_reduction-reduced-requires-clause-within c =
    omega (arith, inside (goal.at.is_reduction-reduced-requires-clause-within c).After-self, c.self.invariant.count)

pub index-touched-requires : goal.index-touched-requires
index-touched-requires c =
    omega (arith, page_inside (goal.at.index-touched-requires c).After-self, c.self.inside.touched.ok.0)

pub bounds-self-inside-e : goal.bounds-self-inside-e
bounds-self-inside-e c = inside (goal.at.bounds-self-inside-e c).After-self

pub committed-requires-clause-within : goal.committed-requires-clause-within
committed-requires-clause-within c = rw c.deref.ensures.value (starts_at c.self.inside.blocks.items
    (length c.self.inside.start.now) c.args.e c.self.invariant.starts
    (inside (goal.at.committed-requires-clause-within c).After-self))

pub committed-requires-clause-touched : goal.committed-requires-clause-touched
committed-requires-clause-touched c =
    let at = goal.at.committed-requires-clause-touched c in
    let word : c.index-touched.result.now ≡ slice_index c.self.inside.touched.items (c.args.e / 64) =
    c.index-touched.ensures ∙ get_or_default c.self.inside.touched.items (c.args.e / 64) c.index-touched.result.now 0
    (page_inside at.After-self) in
    rw (c.deref.ensures.value, c.deref-2.ensures.0, word)
    (c.self.invariant.untouched c.args.e (inside at.After-self))

pub returns : goal.returns
returns c =
    let held = c.self.inside in
    rw (c.committed.ensures, c.deref.ensures.value, c.deref-2.ensures.0, ← c.self.view_is)
    (sym (element_is held.planes (chosen held.counting.items (map shown held.blocks.items)) held.start.now c.args.e
    c.is_reduction-reduced.result (sym c.is_reduction-reduced.ensures) (inside (goal.at.returns c).After-self)))
