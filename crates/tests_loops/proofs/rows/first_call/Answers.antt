use Rattle.std.proofs.Common.{◌≤◌, ◌∙◌, sym, subst}
use Rattle.bpf_insn_types.specs.Program.{Program}
use Rattle.bpf_step_model.specs.State.{main_entry}
use Rattle.bpf_verify_sound.specs.Soundness.{OverApproximatesCall, most_from}
use Rattle.bpf_step.proofs.Limits.{few_steps}
use Rattle.loop_core_sequential.proofs.MapEffects.{sizes_kept}
use Rattle.tests_loops.proofs.CallLaws.{known_call}
use Rattle.tests_loops.proofs.rows.first_call.Goals as goal

pub next-requires-clause-served : goal.next-requires-clause-served
next-requires-clause-served c =
    subst (λ (program : Program). most_from program c.new-main.result.slot ≤ 4096) (sym c.new-main.ensures.program)
    (few_steps c.args.program.now c.new-main.result.slot c.unit-unit.ensures.accepted)

pub returns-in-Loop-clause-sizes : goal.returns-in-Loop-clause-sizes
returns-in-Loop-clause-sizes c =
    let ran = c.next.ensures.ran (main_entry 0) c.new-main.ensures.at in
    sizes_kept c.args.maps.now c.next.new.store ran.stretch.accesses ran.effects ∙ c.requires

pub returns-in-Loop-clause-known : goal.returns-in-Loop-clause-known
returns-in-Loop-clause-known c =
    let ran = c.in-Loop.ensures.ran (main_entry 0) c.new-main.ensures.at in
    subst (λ (program : Program). OverApproximatesCall program c.in-Loop.call) (c.next.ensures.program
    ∙ c.new-main.ensures.program)
    (known_call c.next.new.self ran.stretch.turn c.in-Loop.call ran.turns)

pub returns-in_default : goal.returns-in_default
returns-in_default c =
    let ran = c.next.ensures.ran (main_entry 0) c.new-main.ensures.at in
    record {
      sizes = sizes_kept c.args.maps.now c.next.new.store ran.stretch.accesses ran.effects ∙ c.requires;
      known = tt;
    }
