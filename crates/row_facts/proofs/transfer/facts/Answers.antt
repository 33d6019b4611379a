use Rattle.std.{proofs.Common.{◌≡◌, ◌∙◌, ℕ, ◌+◌, List, length, get_or, sym, ap, subst}, specs.Prelude.{slice_get, Some}}
use Rattle.std.proofs.lemmas.{List.{length_push}, Option.{slice_get-get_or}}
use Rattle.row_list.specs.declared.row_op.RowOp.TheVariants.{All}
use Rattle.row_facts.{specs.{declared.fact.Fact.{Fact}, Facts.{FitFacts}}, proofs.FactLaws.{more-facts}}
use Rattle.row_facts.proofs.transfer.facts.Goals as goal

pub loop-op-preserved : goal.loop-op-preserved
loop-op-preserved c =
    let ops = c.args.ops.now in
    let facts = c.loop-op.facts.items in
    let fact = c.fact_of-fact.result in
    let k = c.loop-op.op-index in
    let op = get_or ops k All in
    let there : slice_get ops (length facts) ≡ Some op =
    ap (slice_get ops) c.loop-op.invariant.0 ∙ slice_get-get_or ops k All c.loop-op-test.true in
    rw c.in_ok-push.ensures.items (
      (length_push facts fact ∙ ap (λ (n : ℕ). n + 1) c.loop-op.invariant.0),
      more-facts ops facts op fact there c.loop-op.invariant.1
          (λ index caller words values n few fit word is.
          let P : List Fact → Type 0 = λ xs. FitFacts xs index values in
          c.fact_of-fact.ensures index caller words values n few (subst P (sym c.deref.ensures.value) fit) word is),
    )
