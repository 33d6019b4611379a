use Rattle.std.proofs.Common.{rules, ◌≡◌, ℕ, ℤ, pos, w64, ◌<◌, ◌^◌, ◌∙◌, sym, ap, subst, List, None, Some, Err, Option}
use Rattle.std.{proofs.{Common.{arith}, lemmas.Int.{ints}}, specs.Int.{cast_signed, cast_unsigned}}
use Rattle.bpf_verify_sound.specs.Soundness.{IsSoundProgram}
use Rattle.loop_core_model.specs.{Split.{split_fault}, declared.verdict.LoopReport.{LoopReport}}
use Rattle.loop_core_model.specs.{declared.replay_fault.ReplayFault.{ReplayFault}, Outcome.{Outcome, replayed}}
use Rattle.spec_run_replay.specs.{FoundLoop.{CameToLoop}, ProgramReplay.{ReplaysFrom}}
use Rattle.spec_run_replay.specs.declared.first_loop.NumberedCall.{NumberedCall}
use Rattle.spec_run_replay.specs.declared.replaying.ReplayRefusal.TheVariants.{Schedule}
use Rattle.spec_run_replay.proofs.ReplayLaws.{schedule_refused, loop_replayed}
use Rattle.spec_run_replay.proofs.replaying.replay.Goals.{After-unit-unit}
use Rattle.spec_run_replay.proofs.replaying.replay.Goals as goal

-- an answer is kept as a signed number
word_kept : (n : ℕ) → n < 2 ^ 32 → pos n ≡ cast_signed w64 (cast_unsigned w64 (pos n))
word_kept n small = grind (arith, ints)

sound : (c : After-unit-unit) → IsSoundProgram c.args.program.now
sound c = record { accepted = c.unit-unit.ensures.accepted; fits = c.unit-unit.ensures.fit }

-- the program came to the loop
came : (c : After-unit-unit)
    → CameToLoop c.args.program.now c.args.argument c.args.maps c.first_loop.new.maps (Some c.in-Some.first)
came c = subst (λ (r : Option NumberedCall). CameToLoop c.args.program.now c.args.argument c.args.maps
    c.first_loop.new.maps r) c.in-Some.is c.first_loop.ensures

-- whose iterations the bounds split
split : (c : After-unit-unit) → split_fault c.args.bounds.items c.in-Some.first.call.n ≡ None
split c = ap (split_fault c.args.bounds.items) (sym c.n.ensures) ∙ c.in-Ok.ensures.split

pub returns-in-Ok-replay_loop-clause-replayed : goal.returns-in-Ok-replay_loop-clause-replayed
returns-in-Ok-replay_loop-clause-replayed c =
    let at = (goal.at.returns-in-Ok-replay_loop-clause-replayed c).After-unit-unit in
    let program = c.args.program.now in
    let bounds = c.args.bounds.items in
    let found = c.in-Some.first in
    let new = c.first_loop.new.maps in
    let left = c.in-Ok-replay_loop.outcome in
    let o : Outcome = record { verdict = left.verdict; answer = left.answer; words = left.maps.words } in
    let ended = ap (λ (b : List ℕ). replayed c.args.test program 4096 found.call new.words b c.args.events.now)
    (sym c.in-Ok.ensures.ok) ∙ c.in-Ok-replay_loop.ensures.outcome in
    let small : left.answer < 2 ^ 32 = search rules in
    let answer : cast_signed w64 (cast_unsigned w64 c.from.result) ≡ pos left.answer =
    ap (λ (z : ℤ). cast_signed w64 (cast_unsigned w64 z)) c.from.ensures ∙ sym (word_kept left.answer small) in
    let report : LoopReport = record {
      slot = c.slot.result;
      answer = cast_signed w64 (cast_unsigned w64 c.from.result);
      verdict = left.verdict;
    } in
    loop_replayed c.args.test program c.args.argument c.args.maps new bounds c.args.events.now found (came at)
    c.law_of_filled_calls.ensures (sound at) (split at) o ended report
    (ap (λ (s : ℕ). record {
      slot = s;
      answer = cast_signed w64 (cast_unsigned w64 c.from.result);
      verdict = left.verdict;
    }) c.slot.ensures
    ∙ ap (λ (z : ℤ). record { slot = found.call.slot; answer = z; verdict = left.verdict }) answer)

pub returns-in-Err-Fault-clause-replayed : goal.returns-in-Err-Fault-clause-replayed
returns-in-Err-Fault-clause-replayed c =
    let at = (goal.at.returns-in-Err-Fault-clause-replayed c).After-unit-unit in
    let program = c.args.program.now in
    let bounds = c.args.bounds.items in
    let found = c.in-Some.first in
    let new = c.first_loop.new.maps in
    let amiss = ap (λ (b : List ℕ). replayed c.args.test program 4096 found.call new.words b c.args.events.now)
    (sym c.in-Ok.ensures.ok)
    ∙ c.in-Err-Fault.ensures.fault c.in-Err-Fault.fault (ap Err c.in-Err-Fault.field-0-is) in
    subst (λ (fault : ReplayFault). ReplaysFrom c.args.test program c.args.argument c.args.maps.words bounds
    c.args.events.now (Err (Schedule fault))) (sym c.in-Err-Fault.fault-is)
    (schedule_refused c.args.test program c.args.argument c.args.maps new bounds c.args.events.now found (came at)
    c.law_of_filled_calls.ensures (sound at) (split at) c.in-Err-Fault.fault amiss)
