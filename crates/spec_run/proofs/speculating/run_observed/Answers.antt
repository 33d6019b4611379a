use Rattle.std.proofs.Common.{rules, IfOk, ap, sym, subst, ◌∙◌}
use Rattle.array_maps.specs.MapList.{MapList}
use Rattle.bpf_step_model.specs.State.{LoopCall}
use Rattle.bpf_verify_sound.specs.Soundness.{IsSoundProgram, OverApproximatesCall}
use Rattle.loop_core_gather.specs.Gathered.{IsOutcome}
use Rattle.spec_run.proofs.CallLaws.{each_by_test, told_of}
use Rattle.spec_run.proofs.speculating.run_observed.Goals as goal

pub run_program-requires-clause-runs : goal.run_program-requires-clause-runs
run_program-requires-clause-runs g c =
    let sound : IsSoundProgram c.args.program.now = record {
      accepted = c.unit-unit.ensures.accepted;
      fits = c.unit-unit.ensures.fit;
    } in
    let test = c.args.plan.now.test in
    record {
      may = λ call start known sizes call_ref maps workspace call_is start_is. (
        (
          search rules,
          subst (λ (call : LoopCall). OverApproximatesCall c.args.program.now call) (sym call_is) known,
          ap (λ (maps : MapList). maps.sizes) start_is ∙ sizes,
        ),
        (search rules, search rules),
      );
      ran = λ call start answered left known sizes it.
          each_by_test test c.args.program.now call start left c.law_of_filled_calls.ensures sound answered
          (told_of (λ call start left. IfOk answered (λ a. IsOutcome test c.args.program.now call start a.verdict
          a.answer left)) it it.ran);
    }
