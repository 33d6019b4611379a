use Rattle.std.proofs.Common.{◌≡◌, ◌/◌, sym, ◌∙◌, ap, refl, arith, length, length-append, get_or, None, [], ◌∷◌, ◌++◌}
use Rattle.std.{specs.Prelude.{is_some}, proofs.lemmas.{Bool.{lt-ltb, le-ltb}, List.{length-replicate, replicate_more}}}
use Rattle.private_copy.proofs.PageLaws.{unplaced_cell, none_placed, one_noted}
use Rattle.private_copy.proofs.pages.Pages.try_new.Goals as goal

pub loop-number-preserved : goal.loop-number-preserved
loop-number-preserved c =
    let keys = c.loop-number.order.keys in
    let number = c.loop-number.number in
    let held = c.loop-number.invariant in
    let added : c.insert.new.self.keys ≡ keys ++ number ∷ [] =
    rw (held.1 number, le-ltb number number (omega arith)) at c.in_ok-insert.ensures.keys in (
      rw (added, length-append keys (number ∷ []), held.0) refl,
      rw added (one_noted keys number held.1),
      c.in_ok-push.ensures.items ∙ ap (λ l. l ++ None ∷ []) held.2 ∙ replicate_more number None,
    )

pub invariant_of-result : goal.invariant_of-result
invariant_of-result c =
    let number = c.loop-number.number in
    let held = c.loop-number.invariant in
    let long = ap length held.2 ∙ length-replicate number None in
    let none = c.new.ensures.len in
    record {
      most = omega (arith, c.requires, long, c.loop-number.auto.number-end);
      numbers = held.0 ∙ sym long;
      all = λ page inside. held.1 page ∙ lt-ltb page number (omega (arith, inside, long));
      within = omega arith;
      placed = λ page inside. ap is_some (ap (λ l. get_or l page None) held.2 ∙ none_placed number page None refl);
      blank = λ k inside. absurd (omega (arith, inside, none));
    }

pub returns-clause-cells : goal.returns-clause-cells
returns-clause-cells c e =
    unplaced_cell c.loop-number.table.items e (ap (λ l. get_or l (e / 64) None) c.loop-number.invariant.2
    ∙ none_placed c.loop-number.number (e / 64) None refl)
