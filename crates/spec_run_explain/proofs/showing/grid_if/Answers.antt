use Rattle.std.{proofs.Common.{ℕ, Option, Some, None, refl, sym, subst}, specs.Prelude.{Bool}}
use Rattle.loop_core_witness.specs.{declared.focus.Focus.{Focus}, Grids.{IsGrid}}
use Rattle.spec_run_explain.specs.Showing.{first_pair, Shows}
use Rattle.spec_run_explain.proofs.showing.grid_if.Goals as goal

pub returns-then-not-wanted : goal.returns-then-not-wanted
returns-then-not-wanted c =
    subst (λ (wanted : Bool). Shows c.args.program.now c.args.call.now c.args.start.now.words c.args.causes.now wanted
    None) (sym c.if-not-wanted.true) refl

pub returns : goal.returns
returns c =
    let program = c.args.program.now in
    let call = c.args.call.now in
    let words = c.args.start.now.words in
    let causes = c.args.causes.now in
    let grid = c.in_ok-grid.grid in
    subst (λ (wanted : Bool). Shows program call words causes wanted (Some grid)) (sym c.if-not-wanted.false)
    (subst (λ (count : ℕ). IsGrid program call words count (first_pair causes) grid) c.counted_by-count.ensures.all
    (subst (λ (focus : Option Focus). IsGrid program call words c.counted_by-count.result focus grid)
    c.first_pair.ensures c.in_ok-grid.ensures))
