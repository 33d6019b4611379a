use Rattle.std.proofs.{Common.{◌≡◌, sym, ◌∙◌}, lemmas.Result.{IfOk-weaker}}
use Rattle.loop_core_model.specs.declared.loop_test.Test.TheVariants.{Flow}
use Rattle.loop_core_block.specs.Shown.{shown}
use Rattle.loop_core_witness.{specs.Touching.{AreTouched, marked_by}, proofs.TouchLaws.{are_touched}}
use Rattle.loop_core_witness.proofs.touching.touched_elements.Goals as goal

pub marked_elements-requires-clause-lower : goal.marked_elements-requires-clause-lower
marked_elements-requires-clause-lower c =
    rw c.planes.ensures c.in_ok-below.ensures.ran.planes.whole

pub marked_elements-requires-clause-upper : goal.marked_elements-requires-clause-upper
marked_elements-requires-clause-upper c =
    rw c.planes-2.ensures c.in_ok-above.ensures.ran.planes.whole

pub marked_elements-requires-clause-same : goal.marked_elements-requires-clause-same
marked_elements-requires-clause-same c =
    rw (c.planes.ensures, c.planes-2.ensures) (c.in_ok-below.ensures.ran.elements
    ∙ sym c.in_ok-above.ensures.ran.elements)

pub returns : goal.returns
returns c =
    let program = c.args.program.now in
    let call = c.args.call.now in
    let words = c.args.start.now.words in
    IfOk-weaker c.marked_elements.result
    (λ elements. elements.items ≡ marked_by c.planes.result.now c.planes-2.result.now)
    (λ elements. AreTouched program call words c.args.lower c.args.upper elements.items)
    (λ elements marked. are_touched Flow program call words c.args.lower c.args.upper (shown c.in_ok-below.below)
    (shown c.in_ok-above.above) elements.items c.in_ok-below.ensures.ran c.in_ok-below.ensures.first
    c.in_ok-below.ensures.past c.in_ok-above.ensures.ran c.in_ok-above.ensures.first c.in_ok-above.ensures.past
    (rw (c.planes.ensures, c.planes-2.ensures) at marked))
    c.marked_elements.ensures
