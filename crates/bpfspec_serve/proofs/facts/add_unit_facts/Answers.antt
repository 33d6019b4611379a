use Rattle.std.proofs.Common.{◌∙◌}
use Rattle.bpfspec_serve.proofs.FactLaws.{accepts}
use Rattle.bpfspec_serve.proofs.facts.add_unit_facts.Goals as goal

pub returns-in-Ok-clause-facts : goal.returns-in-Ok-clause-facts
returns-in-Ok-clause-facts c =
    accepts c.args.ask.now c.args.unit c.in-Ok.program c.in_ok-inspection.inspection c.args.maps.now
    c.args.events.now _ _ _ _ c.in-Ok.ensures (c.in_ok-inspection.ensures ∙ c.in_ok-copied.ensures)
    c.in_ok-add_functions-in-Ok.ensures c.in_ok-add_unit_records-in-Ok.ensures c.in_ok-add_run_facts-in-Ok.ensures
