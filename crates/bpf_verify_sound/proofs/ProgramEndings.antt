-- Iterations, loops in order and programs in order end.
use Rattle.std.proofs.Common.{◌≡◌, ℕ, zero, suc, ◌+◌, ◌<◌, ◌≤◌, ◌^◌, inl, inr, List, refl, sym, ap}
use Rattle.std.{proofs.Common.{subst, arith}, specs.Prelude.{◌==◌}}
use Rattle.bpf_insn_types.specs.{Program.{Program, slot_count, function_of}, WordBounds.{ResultsFit}}
use Rattle.bpf_verify_model.{specs.Count.{function_start, count_of}, proofs.LongestLaws.{longest-small}}
use Rattle.bpf_step_model.specs.{State.{Machine, LoopCall, main_entry, callback_entry}, Run.{Refused, RunSegment, run}}
use Rattle.bpf_step_model.specs.Run.{BoundedResult, Ended, Unfinished, followed, mapped, StopReason, Exit, Loop}
use Rattle.bpf_step_model.specs.{Iteration.{Iterated, exited_by, exited, iteration}, Bounds.{Extends}}
use Rattle.bpf_step_model.specs.LoopInOrder.{Looped, behind, loop_from, loop_in_order}
use Rattle.bpf_step_model.specs.ProgramInOrder.{LoopMade, Finished, with_loop, resumed, after_loop, after_stop}
use Rattle.bpf_step_model.specs.ProgramInOrder.{after_segment, main_from, program_in_order}
use Rattle.bpf_step_model.proofs.BoundLaws.{program_extends}
use Rattle.bpf_verify_sound.specs.Soundness.{IsSoundProgram, AreMapWords, OverApproximates, OverApproximatesCall}
use Rattle.bpf_verify_sound.specs.Soundness.{OverApproximatesOnceResumed, StopIsOverApproximated, RunIsOverApproximated}
use Rattle.bpf_verify_sound.specs.Soundness.{most_from, most_after, EndsWithin, IsExit, EndsAtExit, callback_count}
use Rattle.bpf_verify_sound.specs.Soundness.{IterationEnds, LoopEnds, OverApproximatesLoop, ProgramEnds, EndsIfFinished}
use Rattle.bpf_verify_sound.{proofs.StartLaws.{start-function}, specs.Soundness.{EachProgramEnds}}
use Rattle.bpf_verify_sound.proofs.{StepLaws.{main-starts}}
use Rattle.bpf_verify_sound.proofs.{RunLaws.{most-some, run-sound}, Tests.{if-either}}

most-small : (program : Program) (slot : ℕ) → most_from program slot ≤ slot_count program.insns
most-small program slot = longest-small program.insns (slot_count program.insns) slot

-- an iteration
exit-ends : (program : Program) (count : ℕ) (turn : StopReason) (s : RunSegment) → IsExit turn → s.steps ≤ count
    → AreMapWords program s.words → IterationEnds program count (exited_by turn s)
exit-ends program count (Exit ret) s i h w = (i, h, w)
exit-ends program count turn s i h w = absurd i

run-ends : (program : Program) (count : ℕ) (e : BoundedResult RunSegment) → RunIsOverApproximated program e
    → EndsWithin program count e → EndsAtExit e → IterationEnds program count (followed exited e)
run-ends program count (Ended s) k i x =
    let within : s.steps + most_after program s.turn ≤ count = i.1 in
    exit-ends program count s.turn s x (omega arith) k.1
run-ends program count e k i x = absurd i

-- a function's count is the most from its start on
pub count-small : (program : Program) (function : ℕ) → count_of program.insns function ≤ slot_count program.insns
unfolding count_of
count-small program function = most-small program (function_start program.insns function)

callback-most : (program : Program) (call : LoopCall) → OverApproximatesCall program call
    → most_from program call.callback ≡ callback_count program call
unfolding count_of
callback-most program call known =
    sym (ap (most_from program) (start-function program call.callback known.sound.callback))

-- a program in order
mapped-ends : (program : Program) (made : LoopMade) (e : BoundedResult Finished) → OverApproximatesLoop program made
    → ProgramEnds program e → ProgramEnds program (mapped (with_loop made) e)
mapped-ends program made (Ended f) k i = (i.0, (k, i.1), i.2)
mapped-ends program made e k i = absurd i

module _ (fit : ResultsFit) (program : Program) (sound : IsSoundProgram program) where
  module _ (call : LoopCall) (known : OverApproximatesCall program call) (bound : ℕ)
      (few : callback_count program call ≤ bound) where
    iteration-ends : (index : ℕ) → index < call.n → (words : List ℕ) → AreMapWords program words
        → IterationEnds program (callback_count program call) (iteration program bound call index words)
    unfolding iteration
    iteration-ends index h words w =
        let m : Machine = callback_entry call index in
        let most : most_from program call.callback ≡ callback_count program call = callback-most program call known in
        let runs = run-sound fit program sound bound m (known.entries index h) words w in
        run-ends program (callback_count program call) (run program bound m words) runs.known
        (subst (λ (count : ℕ). EndsWithin program count (run program bound m words)) most (runs.ends (omega arith)))
        (runs.exits refl)

    -- a loop in order
    behind-ends : (go_on : List ℕ → BoundedResult Looped) (index : ℕ) (e : BoundedResult Iterated) → index < call.n
        → ((words : List ℕ) → AreMapWords program words → LoopEnds program call (go_on words))
        → IterationEnds program (callback_count program call) e
        → LoopEnds program call (followed (behind go_on index) e)
    behind-ends go_on index (Ended it) inside go i =
        if-either (LoopEnds program call) (it.ret == 1) (λ e. (omega arith, i.2)) (λ e. go it.words i.2)
    behind-ends go_on index e inside go i = absurd i

    loop-from-ends : (left index : ℕ) → index + left ≡ call.n → (words : List ℕ) → AreMapWords program words
        → LoopEnds program call (loop_from program bound call left index words)
    loop-from-ends zero index all words w = (omega arith, w)
    loop-from-ends (suc left) index all words w =
        behind-ends (loop_from program bound call left (index + 1)) index _ (omega arith)
        (loop-from-ends left (index + 1) (omega arith)) (iteration-ends index (omega arith) words w)

    loop-ends : (words : List ℕ) → AreMapWords program words
        → LoopEnds program call (loop_in_order program bound call words)
    loop-ends words w = loop-from-ends call.n 0 (omega arith) words w

  module _ (bound : ℕ) (enough : slot_count program.insns ≤ bound) where
    -- what is claimed of main with n turns
    abbrev pub MainEnds : ℕ → Type 0
    MainEnds turns = (m : Machine) → OverApproximates program m → (words : List ℕ) → AreMapWords program words
        → most_from program m.slot ≤ turns → ProgramEnds program (main_from program bound turns m words)

    after-loop-ends : (turns : ℕ) → MainEnds turns → (call : LoopCall) (next : Machine) (words : List ℕ)
        (e : BoundedResult Looped) → OverApproximatesCall program call → OverApproximatesOnceResumed program next →
        most_from program next.slot ≤ turns → AreMapWords program words → LoopEnds program call e
        → ProgramEnds program (followed (after_loop (main_from program bound turns) call next words) e)
    after-loop-ends turns go call next words (Ended l) known goes few w i =
        let most : call.n ≤ 8388608 = known.sound.iterations in
        let answered : l.answer ≤ call.n = i.0 in
        mapped-ends program _ (main_from program bound turns (resumed next l.answer) l.words)
        (record { words = w; answered = (known, answered) })
        (go (resumed next l.answer) (goes l.answer (omega arith)) l.words i.1 few)
    after-loop-ends turns go call next words e known goes few w i = absurd i

    turn-ends : (turns : ℕ) → MainEnds turns → (turn : StopReason) (words : List ℕ)
        → StopIsOverApproximated program turn
        → most_after program turn ≤ turns → AreMapWords program words
        → ProgramEnds program (after_stop program bound (main_from program bound turns) turn words)
    turn-ends turns go (Exit ret) words k few w = (k, tt, w)
    turn-ends turns go (Loop call next) words k few w =
        let small : callback_count program call ≤ slot_count program.insns =
        count-small program (function_of program.insns call.callback) in
        after-loop-ends turns go call next words _ k.0 k.1 few w (loop-ends call k.0 bound (omega arith) words w)
    turn-ends turns go (Refused slot call next) words k few w =
        mapped-ends program _ (main_from program bound turns next words) (record { words = w; answered = tt })
        (go next k words w few)

    stretch-ends : (turns most : ℕ) → MainEnds turns → (e : BoundedResult RunSegment) → most ≤ suc turns
        → RunIsOverApproximated program e → EndsWithin program most e →
        ProgramEnds program (followed (after_segment program bound (main_from program bound turns)) e)
    stretch-ends turns most go (Ended s) few k i =
        let some : 0 < s.steps = i.0 in
        let within : s.steps + most_after program s.turn ≤ most = i.1 in
        turn-ends turns go s.turn s.words k.0 (omega arith) k.1
    stretch-ends turns most go e few k i = absurd i

    main-ends : (turns : ℕ) → MainEnds turns
    main-ends zero m known words w few = absurd (omega (arith, most-some program sound m known))
    main-ends (suc turns) m known words w few =
        let runs = run-sound fit program sound bound m known words w in
        stretch-ends turns (most_from program m.slot) (main-ends turns) (run program bound m words) few runs.known
        (runs.ends (omega (arith, most-small program m.slot)))

  program-ends : (bound : ℕ) → slot_count program.insns ≤ bound → (argument : ℕ) → argument < 2 ^ 64
      → (words : List ℕ) → AreMapWords program words
      → ProgramEnds program (program_in_order program bound argument words)
  unfolding program_in_order
  program-ends bound enough argument h words w =
      let few : most_from program 0 ≤ bound = omega (arith, most-small program 0) in
      main-ends bound enough bound (main_entry argument) (main-starts program sound argument h) words w few

  -- main's count is the most from slot 0 on
  main-within : (bound : ℕ) → count_of program.insns 0 ≤ bound → (argument : ℕ) → argument < 2 ^ 64 →
      (words : List ℕ) → AreMapWords program words → EndsWithin program (count_of program.insns 0)
      (run program bound (main_entry argument) words)
  unfolding count_of
  main-within bound few argument h words w =
      (run-sound fit program sound bound (main_entry argument) (main-starts program sound argument h) words w).ends few

  -- with a smaller bound it ends the same way, or not yet
  if-finished : (low high : BoundedResult Finished) → ProgramEnds program high → Extends low high
      → EndsIfFinished program low
  if-finished low high ends (inl e) = subst (EndsIfFinished program) (sym e) tt
  if-finished Unfinished high ends (inr e) = tt
  if-finished low high ends (inr e) = subst (ProgramEnds program) e ends

  never-stuck : (bound argument : ℕ) → argument < 2 ^ 64 → (words : List ℕ) → AreMapWords program words
      → EndsIfFinished program (program_in_order program bound argument words)
  never-stuck bound argument h words w =
      let enough : ℕ = bound + slot_count program.insns in
      if-finished _ (program_in_order program enough argument words)
      (program-ends enough (omega arith) argument h words w) (program_extends program bound enough (omega arith)
      argument
      words)

pub each-ends : ResultsFit → EachProgramEnds
each-ends fit = record {
  main = main-within fit;
  iterations = iteration-ends fit;
  loops = loop-ends fit;
  programs = program-ends fit;
  never_stuck = never-stuck fit;
}
