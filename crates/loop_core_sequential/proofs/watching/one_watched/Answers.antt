use Rattle.std.proofs.Common.{◌+◌, ◌∙◌, refl, sym, rules}
use Rattle.bpf_step.proofs.Limits.{few_steps}
use Rattle.loop_core_sequential.specs.declared.watching.Watch.TheVariants.{Completed, Broke, Dependent}
use Rattle.loop_core_sequential.proofs.WatchedSteps.{broke_alone, went_alone, met_alone, watched_as}
use Rattle.loop_core_sequential.proofs.watching.one_watched.Goals as goal

pub run-done-requires-clause-served : goal.run-done-requires-clause-served
run-done-requires-clause-served c = rw c.requires.ready.callback
    (few_steps c.args.run.now.program.now c.args.run.now.call.now.callback c.unit-unit.ensures.accepted)

pub returns-then-done-eq1-clause-ran : goal.returns-then-done-eq1-clause-ran
returns-then-done-eq1-clause-ran c = λ start goes.
    watched_as c.args.run.now.program.now c.args.run.now.call.now (c.args.index + 1) start
    c.run-done.new.store.maps.now _ c.run-done.new.store.log.now c.run-done.new.store.log.now
    (Broke (c.args.index + 1)) (search rules) refl
    (broke_alone c.law_of_watching.ensures c.requires.below (rw c.requires.ready.callback at c.run-done.ensures.ran)
    (rw (← c.new-watched.ensures.maps, ← c.new-watched.ensures.log) at goes)
    (sym c.has_dependence.ensures ∙ c.if-has_dependence.false) c.if-done-eq1.true)

pub returns-clause-ran : goal.returns-clause-ran
returns-clause-ran c = λ start goes.
    watched_as c.args.run.now.program.now c.args.run.now.call.now (c.args.index + 1) start
    c.run-done.new.store.maps.now _ c.run-done.new.store.log.now _ Completed (search rules) (search rules)
    (went_alone c.law_of_watching.ensures c.requires.below (rw c.requires.ready.callback at c.run-done.ensures.ran)
    (rw (← c.new-watched.ensures.maps, ← c.new-watched.ensures.log) at goes)
    (sym c.has_dependence.ensures ∙ c.if-has_dependence.false) c.if-done-eq1.false)

pub returns-then-has_dependence-clause-ran : goal.returns-then-has_dependence-clause-ran
returns-then-has_dependence-clause-ran c = λ start goes.
    watched_as c.args.run.now.program.now c.args.run.now.call.now (c.args.index + 1) start
    c.run-done.new.store.maps.now _ c.run-done.new.store.log.now _ (Dependent _) (search rules) (search rules)
    (met_alone c.law_of_watching.ensures c.requires.below (rw c.requires.ready.callback at c.run-done.ensures.ran)
    (rw (← c.new-watched.ensures.maps, ← c.new-watched.ensures.log) at goes)
    c.new-watched.ensures.met (sym c.has_dependence.ensures ∙ c.if-has_dependence.true))
