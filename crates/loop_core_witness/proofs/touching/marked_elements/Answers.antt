use Rattle.std.proofs.Common.{ℕ, None, ◌≡◌, append-nil, refl, sym, ◌∙◌}
use Rattle.std.specs.Prelude.{◌||◌, true}
use Rattle.loop_core_witness.{specs.Surveys.{does_more}, proofs.GridLaws.{listed_more}}
use Rattle.loop_core_witness.proofs.touching.marked_elements.Goals.{then-does_more+in_ok-push}
use Rattle.loop_core_witness.proofs.touching.marked_elements.Goals.{else-does_more+else-does_more-2}
use Rattle.loop_core_witness.proofs.touching.marked_elements.Goals.{then-does_more-via-then-does_more}
use Rattle.loop_core_witness.proofs.touching.marked_elements.Goals.{then-does_more-via-else-does_more+then-does_more-2}
use Rattle.loop_core_witness.proofs.touching.marked_elements.Goals as goal

pub loop-element-preserved : goal.loop-element-preserved
loop-element-preserved c =
    let below = λ (element : ℕ). does_more c.args.lower.now None element in
    let above = λ (element : ℕ). does_more c.args.upper.now None element in
    let e = c.loop-element.element in
    let xs = c.loop-element.elements.items in
    let listed = listed_more (λ (element : ℕ). below element || above element) e xs in
    elim c.if-does_more.branch [
      | then-does_more+in_ok-push w ↦
          let marked : (below e || above e) ≡ true = elim w.then-does_more.branch [
            | then-does_more-via-then-does_more v ↦ rw (sym c.does_more.ensures ∙ v.if-does_more.true) refl
            | then-does_more-via-else-does_more+then-does_more-2 v ↦
                rw (
                  sym c.does_more.ensures ∙ v.if-does_more.false,
                  sym v.does_more-else-does_more.ensures ∙ v.if-does_more-2.true,
                ) refl
          ] in
          rw w.elements-is (listed w.push.new.self.items c.loop-element.invariant
          (rw marked w.in_ok-push.ensures.items))
      | else-does_more+else-does_more-2 w ↦
          rw w.elements-is (listed xs c.loop-element.invariant (rw (
            sym c.does_more.ensures ∙ w.if-does_more.false,
            sym w.does_more-else-does_more.ensures ∙ w.if-does_more-2.false,
            append-nil xs,
          ) refl))
    ]
