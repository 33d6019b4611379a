use Rattle.std.proofs.Common.{◌≡◌, ◌+◌, ◌*◌, ◌/◌, ◌<◌, ℕ, false, length, map, sym, ◌∙◌, inl, inr, rules, arith}
use Rattle.std.{proofs.lemmas.Bool.{cases_lt}, specs.Prelude.{slice_index}}
use Rattle.std.proofs.lemmas.List.{get_or_default, get_or_past}
use Rattle.private_copy.proofs.AccessLaws.{shown_length}
use Rattle.loop_core_block.specs.{Blocks.{BlockOf}, Shown.{shown}}
use Rattle.loop_core_gather.{specs.Held.{chosen}, proofs.PageLaws.{none_reduction_only}}
use Rattle.loop_core_gather.proofs.{ChoiceLaws.{all_made}, HeldLaws.{element_is}}
use Rattle.loop_core_gather.proofs.gathered.Gathered.page.Goals as goal

-- the page of its elements
page_is : (page k : ℕ) → k < 64 → (page * 64 + k) / 64 ≡ page
page_is page k below = omega arith

pub overwrite_in_turn-requires-clause-starts : goal.overwrite_in_turn-requires-clause-starts
overwrite_in_turn-requires-clause-starts c = rw c.deref.ensures.value (all_made shown
    (λ (b : BlockOf). length b.copy.start ≡ length c.self.inside.start.now) c.self.inside.blocks.items
    c.self.invariant.starts)

pub overwrite_in_turn-requires-clause-there : goal.overwrite_in_turn-requires-clause-there
overwrite_in_turn-requires-clause-there c =
    let pages : length c.self.inside.touched.items ≡ (length c.self.inside.start.now + 63) / 64 =
    c.self.invariant.pages in
    omega (arith, pages)

pub overwrite_in_turn-requires-clause-touched : goal.overwrite_in_turn-requires-clause-touched
overwrite_in_turn-requires-clause-touched c k below inside =
    let words = c.self.inside.touched.items in
    let within : c.args.page < length c.self.inside.touched.items = omega arith in
    let word : c.index-touched.result.now ≡ slice_index c.self.inside.touched.items c.args.page =
    c.index-touched.ensures ∙ get_or_default words c.args.page c.index-touched.result.now 0 within in
    rw (c.deref.ensures.value, c.deref-2.ensures.0, word)
    (rw (page_is c.args.page k below) at (c.self.invariant.untouched (c.args.page * 64 + k) inside))

pub returns : goal.returns
returns c k below =
    let held = c.self.inside in
    let e = c.args.page * 64 + k in
    let counting = chosen held.counting.items (map shown held.blocks.items) in
    rw (← c.self.view_is) (elim (cases_lt e (length c.self.inside.start.now)) [
      | inl inside ↦
          let unset : c.reduced_in_page.result ≡ 0 = first_of (search rules, omega arith) in
          rw (
            c.overwrite_in_turn.ensures.each k below inside,
            c.deref.ensures.value,
            c.deref-2.ensures.0,
            c.page_of-own.ensures k below,
          )
          (sym (element_is held.planes counting held.start.now e false (none_reduction_only held.planes c.args.page e
          (page_is c.args.page k below) (c.reduced_in_page.ensures unset)) inside))
      | inr out ↦
          c.overwrite_in_turn.ensures.past k out ∙ c.page_of-own.ensures k below
          ∙ get_or_past held.start.now e 0 out ∙ sym (get_or_past _ e 0 (rw shown_length out))
    ])
