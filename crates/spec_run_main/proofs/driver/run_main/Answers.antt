use Rattle.std.proofs.Common.{rules, ◌++◌, ◌∷◌, [], ◌∙◌, ◌≤◌, sym, subst, arith}
use Rattle.bpf_step_model.specs.{Run.{mapped}, ProgramInOrder.{program_in_order, valid_call, refused_call}}
use Rattle.bpf_verify_sound.specs.Soundness.{most_from}
use Rattle.bpf_step.proofs.Limits.{few_steps}
use Rattle.spec_run_main.proofs.CallLists.{behind, none_before, one_more, all_made}
use Rattle.spec_run_main.proofs.Turns.{Laws, program_ends, words_fit, starts, few_left, exits, refuses, refusal_lessens}
use Rattle.spec_run_main.proofs.Turns.{call_sizes, loops, loop_lessens}
use Rattle.spec_run_main.proofs.driver.run_main.Goals as goal

pub loop-call-init : goal.loop-call-init
loop-call-init g c =
    let program = c.args.program.now in
    let laws : Laws program = record {
      loops = c.law_of_accepted_programs.ensures;
      counts = c.law_of_accepted_runs.ensures.counts;
      sound = record { accepted = c.unit-unit.ensures.accepted; fits = c.unit-unit.ensures.fit };
    } in
    let whole = program_in_order program 4096 c.args.argument c.args.maps.now.words in
    let at = c.new-main.ensures.at in
    let few = few_steps program 0 laws.sound.accepted in
    let room = c.requires.room in
    record {
      calls = [];
      still = starts (mapped (behind [])) whole program c.args.argument c.new-main.result c.args.maps.now laws
          c.new-main.ensures.program at c.requires.sizes
          (words_fit program c.args.maps.now c.requires.sizes c.sizes-sizes.ensures.words c.words_fit.ensures)
          (none_before whole);
      recorded = c.requires.begins;
      room = subst (λ slot. most_from program slot ≤ g.L.LoopRunner.room c.args.runner.now) (sym at.stands.slot)
          (grind (arith, few, room));
    }

pub next-requires-clause-served : goal.next-requires-clause-served
next-requires-clause-served g c = few_left c.loop-call.invariant.still

pub run_call-requires-clause-sizes : goal.run_call-requires-clause-sizes
run_call-requires-clause-sizes g c = call_sizes c.loop-call.invariant.still c.in-Loop.ensures.ran

pub run_call-requires-clause-recorded : goal.run_call-requires-clause-recorded
run_call-requires-clause-recorded g c =
    (c.args.runner.now, c.loop-call.invariant.calls, c.loop-call.invariant.recorded)

pub loop-call-preserved-in-Loop : goal.loop-call-preserved-in-Loop
loop-call-preserved-in-Loop g c =
    let before = c.loop-call.invariant in
    let words = c.next.new.store.words in
    let answer = c.in_ok-answer-in-Loop.answer in
    let after = loops before.still c.next.ensures.program c.in-Loop.ensures.ran c.in_ok-answer-in-Loop.ensures.ran
    c.resume.ensures.program c.resume.ensures.at
    (λ made. mapped (behind (before.calls ++ valid_call made answer words ∷ [])))
    (λ made is e. one_more before.calls (valid_call made answer words) e) in
    let fewer = loop_lessens before.still c.next.ensures.program c.in-Loop.ensures.ran c.resume.ensures.at in
    let room = before.room in
    let used = c.in_ok-answer-in-Loop.ensures.used in
    record {
      calls = before.calls ++ valid_call after.0 answer words ∷ [];
      still = after.2;
      recorded = c.in_ok-answer-in-Loop.ensures.recorded c.args.runner.now before.calls after.0 after.1 before.recorded;
      room = omega (arith, fewer, room, used);
    }

pub loop-call-smaller-in-Loop : goal.loop-call-smaller-in-Loop
loop-call-smaller-in-Loop g c =
    loop_lessens c.loop-call.invariant.still c.next.ensures.program c.in-Loop.ensures.ran c.resume.ensures.at

pub loop-call-preserved : goal.loop-call-preserved
loop-call-preserved g c =
    let before = c.loop-call.invariant in
    let words = c.next.new.store.words in
    let refused = refused_call c.in-Refused.slot c.in-Refused.call words in
    let fewer = refusal_lessens before.still c.next.ensures.program c.in-Refused.ensures.ran in
    let room = before.room in
    let used = c.in_ok-note_refusal-in-Refused.ensures.used in
    record {
      calls = before.calls ++ refused ∷ [];
      still = refuses before.still c.next.ensures.program c.in-Refused.ensures.ran
          (mapped (behind (before.calls ++ refused ∷ []))) (one_more before.calls refused);
      recorded = c.in_ok-note_refusal-in-Refused.ensures.recorded c.args.program.now c.args.runner.now before.calls
          words before.recorded;
      room = omega (arith, fewer, room, used);
    }

pub loop-call-smaller : goal.loop-call-smaller
loop-call-smaller g c =
    refusal_lessens c.loop-call.invariant.still c.next.ensures.program c.in-Refused.ensures.ran

pub returns-in-Exit : goal.returns-in-Exit
returns-in-Exit g c =
    let before = c.loop-call.invariant in
    let end = exits before.still c.next.ensures.program c.in-Exit.ensures.ran in
    let fit = words_fit c.args.program.now c.args.maps.now c.requires.sizes c.sizes-sizes.ensures.words
    c.words_fit.ensures in
    record {
      calls = before.calls;
      gives = end.0 ∙ all_made before.calls c.in-Exit.ret c.next.new.store.words;
      recorded = before.recorded;
      kept = end.1;
      ends = program_ends before.still.laws c.args.argument (search rules) c.args.maps.now.words fit;
    }
