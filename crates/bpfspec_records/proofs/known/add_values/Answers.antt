use Rattle.bpf_verify_model.specs.States.{known_register}
use Rattle.bpfspec_records.{specs.Units.{value_record}, proofs.EachLaws.{each_begun, value_next}}
use Rattle.bpfspec_records.proofs.known.add_values.Goals as goal

pub loop-number-init : goal.loop-number-init
loop-number-init c =
    each_begun (λ register. value_record c.args.slot c.args.to register (known_register c.args.state.now register))
    c.args.records.now.items

pub loop-number-preserved : goal.loop-number-preserved
loop-number-preserved c =
    value_next c.args.slot c.args.to c.args.state.now c.loop-number.number c.reg-register.result c.register.result
    c.args.records.now.items c.loop-number.records.items c.add_value.new.records.items c.loop-number.invariant
    c.reg-register.ensures c.register.ensures c.in_ok-add_value.ensures
