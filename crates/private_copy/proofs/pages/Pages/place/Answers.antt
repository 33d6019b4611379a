use Rattle.std.proofs.Common.{rules, vec_len, ◌≡◌, ◌<◌, ◌+◌, ◌-◌, sym, ◌∙◌, ap, arith, length, length-set, take}
use Rattle.std.proofs.{Common.{None, false, [], ◌∷◌, ◌++◌}, lemmas.List.{length-take, get_or-take, length-map}}
use Rattle.std.proofs.lemmas.{List.Edits.{length-swap}, Option.{same_Some}}
use Rattle.private_copy.specs.{Cells.{PlacedPages, cells_of, IsBlank}, Touched.{has_page}}
use Rattle.private_copy.proofs.PageLaws.{Stands, where_stands, take_swap, cells_stay, agree_more, blank_is_some}
use Rattle.private_copy.proofs.pages.Pages.place.Goals.{In-Some, In-Some-pop, in-Some-1, in-None-1}
use Rattle.private_copy.proofs.pages.Pages.place.Goals as goal

-- the page has a place in the table
within : (c : In-Some) → c.args.number < length c.self.inside.table.items
within c = rw (← c.self.view_is, length-map c.self.inside.table.items cells_of) at c.requires.within

-- and isn't placed
absent : (c : In-Some) → has_page (take c.self.inside.placed c.self.inside.order.keys) c.args.number ≡ false
absent c = rw (← c.self.view_is) at c.requires.absent

-- so it stands among those that aren't
stands : (c : In-Some) → Stands c.self.inside.order.keys c.self.inside.placed c.args.number c.in-Some.at
stands c = where_stands c.self.inside.order.keys c.self.inside.placed c.args.number c.in-Some.at
    c.in-Some.ensures.found (absent c)

-- the last of the spare pages is taken, and is blank
long_spare : (c : In-Some-pop) → vec_len c.self.inside.spare ≡ length c.self.inside.spare.items
long_spare c = search rules

blank : (c : In-Some-pop) → IsBlank c.in-Some-pop.page
blank c =
    let many = vec_len c.self.inside.spare in
    let spare = ap (λ (v : PlacedPages). v.spare) c.self.view_is in
    let left : 0 < many = omega (arith, c.requires.spare, spare, long_spare c) in
    rw (same_Some _ _ (sym c.in-Some-pop.is ∙ c.pop.ensures.value None left))
    (c.self.invariant.blank (many - 1) (omega (arith, left, long_spare c)))

pub invariant_of-self-in-Some-pop-2 : goal.invariant_of-self-in-Some-pop-2
invariant_of-self-in-Some-pop-2 c =
    let at = goal.at.invariant_of-self-in-Some-pop-2 c in
    let keys = c.self.inside.order.keys in
    let table = c.self.inside.table.items in
    let spares = c.self.inside.spare.items in
    let placed = c.self.inside.placed in
    let page = c.in-Some-pop.page in
    let many = vec_len c.self.inside.spare in
    let stand = stands at.In-Some in
    let after = length-set table c.args.number page in
    let swapped = ap length c.swap_indices.ensures.keys ∙ length-swap keys c.in-Some.at placed in
    let few = ap length c.pop.ensures.rest ∙ length-take (many - 1) spares in
    record {
      most = omega (arith, c.self.invariant.most, after);
      numbers = swapped ∙ c.self.invariant.numbers ∙ sym after;
      all = λ other inside. c.swap_indices.ensures.reordered.2 other
          ∙ c.self.invariant.all other (omega (arith, inside, after));
      within = omega (arith, stand.behind, stand.within, swapped);
      placed = rw c.swap_indices.ensures.keys
          (agree_more keys placed c.args.number c.in-Some.at table page stand (within at.In-Some)
          (blank_is_some page (blank at.In-Some-pop)) c.self.invariant.placed);
      blank = λ k inside.
          rw (c.pop.ensures.rest, get_or-take (many - 1) spares k None (omega (arith, inside, few)))
          (c.self.invariant.blank k (omega (arith, inside, few, long_spare at.In-Some-pop)));
    }

pub returns-in-Some-pop-clause-pages : goal.returns-in-Some-pop-clause-pages
returns-in-Some-pop-clause-pages c =
    let at = goal.at.returns-in-Some-pop-clause-pages c in
    let table = c.self.inside.table.items in
    let stay = cells_stay table c.args.number c.in-Some-pop.page (blank at.In-Some-pop)
    (c.self.invariant.placed c.args.number (within at.In-Some) ∙ absent at.In-Some)
    ∙ ap (λ (v : PlacedPages). v.pages) c.self.view_is in
    elim c.match-index_mut-page.branch [
      | in-Some-1 w ↦ ap (λ (v : PlacedPages). v.pages) w.self-is ∙ stay
      | in-None-1 w ↦ ap (λ (v : PlacedPages). v.pages) w.self-is ∙ stay
    ]

pub returns-in-Some-pop-clause-order : goal.returns-in-Some-pop-clause-order
returns-in-Some-pop-clause-order c =
    let keys = c.self.inside.order.keys in
    let placed = c.self.inside.placed in
    let last = ap (λ l. take (placed + 1) l) c.swap_indices.ensures.keys ∙ take_swap keys placed c.args.number
    c.in-Some.at (stands (goal.at.returns-in-Some-pop-clause-order c).In-Some)
    ∙ ap (λ (v : PlacedPages). v.order ++ c.args.number ∷ []) c.self.view_is in
    elim c.match-index_mut-page.branch [
      | in-Some-1 w ↦ ap (λ (v : PlacedPages). v.order) w.self-is ∙ last
      | in-None-1 w ↦ ap (λ (v : PlacedPages). v.order) w.self-is ∙ last
    ]
