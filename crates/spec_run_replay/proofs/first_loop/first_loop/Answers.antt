use Rattle.std.proofs.Common.{rules, refl, arith}
use Rattle.bpf_step.proofs.Limits.{few_steps}
use Rattle.bpf_step_model.specs.Run.{mapped}
use Rattle.spec_run_main.proofs.Turns.{Laws, program_ends, words_fit, starts, few_left, refusal_lessens}
use Rattle.spec_run_replay.{specs.FirstLoop.{first_loop}, proofs.MainTurns.{first_of, ends_without, goes_on, calls}}
use Rattle.spec_run_replay.proofs.first_loop.first_loop.Goals.{After-words_fit}
use Rattle.spec_run_replay.proofs.first_loop.first_loop.Goals as goal

laws : (c : After-words_fit) → Laws c.args.program.now
laws c = record {
  loops = c.law_of_accepted_programs.ensures;
  counts = c.law_of_accepted_runs.ensures.counts;
  sound = record { accepted = c.unit-unit.ensures.accepted; fits = c.unit-unit.ensures.fit };
}

pub loop-call-init : goal.loop-call-init
loop-call-init c =
    let program = c.args.program.now in
    let maps = c.args.maps.now in
    let few = few_steps program c.new-main.result.slot c.unit-unit.ensures.accepted in
    let known = laws ((goal.at.loop-call-init c).After-words_fit) in
    let fit = words_fit program maps c.requires c.sizes-sizes.ensures.words c.words_fit.ensures in
    record {
      still = starts (mapped (first_of 0)) (first_loop program 4096 c.args.argument maps.words) program c.args.argument
          c.new-main.result maps known c.new-main.ensures.program c.new-main.ensures.at c.requires fit refl;
      few = omega (arith, few);
      ends = program_ends known c.args.argument (search rules) maps.words fit;
    }

pub next-requires-clause-served : goal.next-requires-clause-served
next-requires-clause-served c = few_left c.loop-call.invariant.still

pub loop-call-preserved : goal.loop-call-preserved
loop-call-preserved c = goes_on c.loop-call.invariant c.next.ensures.program c.in-Refused.ensures.ran

pub loop-call-smaller : goal.loop-call-smaller
loop-call-smaller c = refusal_lessens c.loop-call.invariant.still c.next.ensures.program c.in-Refused.ensures.ran

pub returns-in-Exit : goal.returns-in-Exit
returns-in-Exit c = ends_without c.loop-call.invariant c.next.ensures.program c.in-Exit.ensures.ran

pub returns-in-Loop : goal.returns-in-Loop
returns-in-Loop c =
    calls c.loop-call.invariant c.next.ensures.program c.in-Loop.ensures.ran
    (record { number = c.loop-call.number; call = c.in-Loop.call }) refl refl
