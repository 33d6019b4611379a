use Rattle.std.proofs.Common.{◌≡◌, ℕ, ◌<◌, length, get_or, sym, ◌∙◌, ap, refl, arith, set}
use Rattle.bpf_verify_model.specs.declared.abstract_value.AbstractValue.{AbstractValue, TheVariants.{Unwritten}}
use Rattle.bpf_verify_model.{specs.States.{joined_values}, proofs.MeetLaws.{met_to-none, met_to-step, met_to-end}}
use Rattle.bpf_verify_values.proofs.joining.join_registers.Goals as goal

pub loop-number-init : goal.loop-number-init
loop-number-init c = sym (met_to-none joined_values c.args.registers.now c.args.others.now)

pub loop-number-preserved : goal.loop-number-preserved
loop-number-preserved c =
    let own : c.loop-number.number < length c.args.registers.now =
    omega (arith, c.loop-number-test.true, c.min-number-end.ensures, c.len.ensures.length) in
    let other : c.loop-number.number < length c.args.others.now =
    omega (arith, c.loop-number-test.true, c.min-number-end.ensures, c.len-2.ensures.length) in
    let value : c.join_values.result ≡ joined_values (get_or c.loop-number.registers c.loop-number.number Unwritten)
    (get_or c.args.others.now c.loop-number.number Unwritten) =
    c.join_values.ensures
    ∙ ap (λ (v : AbstractValue). joined_values v c.get-in-loop-number.result) (c.get.ensures
    ∙ ap (λ (r : ℕ). get_or c.loop-number.registers r Unwritten) c.reg-reg.ensures)
    ∙ ap (joined_values (get_or c.loop-number.registers c.loop-number.number Unwritten)) (c.get-in-loop-number.ensures
    ∙ ap (λ (r : ℕ). get_or c.args.others.now r Unwritten) c.reg-reg.ensures) in
    c.set.ensures ∙ ap (λ (r : ℕ). set c.loop-number.registers r c.join_values.result) c.reg-reg.ensures
    ∙ met_to-step joined_values c.args.registers.now c.loop-number.registers c.args.others.now c.args.others.now
    c.loop-number.number Unwritten Unwritten c.join_values.result
    c.loop-number.invariant refl own other value

pub returns : goal.returns
returns c =
    met_to-end joined_values c.args.registers.now c.args.registers.now c.loop-number.registers c.args.others.now
    c.args.others.now c.loop-number.number 11
    c.loop-number.invariant refl refl (omega (
      arith,
      c.loop-number-test.false,
      c.min-number-end.ensures,
      c.len.ensures.eleven,
      c.len-2.ensures.eleven,
    ))
    (omega (
      arith,
      c.loop-number.auto.number-end,
      c.min-number-end.ensures,
      c.len.ensures.eleven,
      c.len-2.ensures.eleven,
    ))
    (sym c.len.ensures.length ∙ c.len.ensures.eleven) (sym c.len-2.ensures.length ∙ c.len-2.ensures.eleven)
