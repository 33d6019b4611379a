-- Main's turns, one after another. `whole` is what is told of the whole program, and `told` what is told of it by what
-- main still does.
use Rattle.std.proofs.Common.{◌≡◌, ℕ, zero, suc, ◌+◌, ◌<◌, ◌≤◌, ◌^◌, List, [], length, refl, sym, ap, subst, ◌∙◌, arith}
use Rattle.std.specs.List.{sum}
use Rattle.array_maps.specs.MapList.{MapList, AreWords}
use Rattle.bpf_insn_types.specs.Program.{Program}
use Rattle.bpf_step_model.specs.{declared.refused_call.RefusedCall.{RefusedCall}, State.{Machine, LoopCall, main_entry}}
use Rattle.bpf_step_model.specs.Run.{BoundedResult, Ended, mapped, followed, StopReason, Exit, Loop, Refused}
use Rattle.bpf_step_model.specs.{Run.{RunSegment, run}, LoopInOrder.{Looped, loop_in_order}}
use Rattle.bpf_step_model.specs.ProgramInOrder.{LoopMade, Finished, with_loop, resumed, after_loop, after_stop}
use Rattle.bpf_step_model.specs.ProgramInOrder.{after_segment, main_from, program_in_order, valid_call, refused_call}
use Rattle.bpf_verify_sound.specs.Soundness.{IsSoundProgram, AreMapWords, OverApproximatesCall, EachProgramEnds}
use Rattle.bpf_verify_sound.specs.Soundness.{LoopEnds, EachCountIsSmall, most_from, most_after}
use Rattle.bpf_step.specs.{declared.main_function.Turned.{Turned}, Mains.{MainOf, MainIsAt, Waits}}
use Rattle.bpf_step.specs.Turns.{IsFilled, StopsAs, RanMain}
use Rattle.bpf_step.proofs.Limits.{few_slots, few_steps, few_counts, map_words, iterations_end}
use Rattle.bpf_step.specs.declared.main_function.Turned.TheVariants as turned
use Rattle.loop_core_sequential.{specs.Loops.{RanLoopInOrder}, proofs.MapEffects.{map_effect, sizes_kept}}
use Rattle.loop_core_sequential.proofs.SameOutcomes.{filled_calls_are_one_loop}
use Rattle.spec_run_main.{specs.{Calls.{IsMadeAs}, Reports.{EndsWithItsLoops}}, proofs.LoopEnds.{ends_with_its_loops}}

-- the words of maps
abbrev pub words_of : MapList → List ℕ
words_of maps = maps.words

-- what is known of an accepted program
pub record Laws (program : Program) : Type 0 where
  pub loops : EachProgramEnds
  pub counts : EachCountIsSmall
  pub sound : IsSoundProgram program

-- the program ends over words of its maps, and so does each iteration of its loop calls
pub program_ends : {program : Program} → Laws program → (argument : ℕ) → argument < 2 ^ 64 → (words : List ℕ)
    → AreMapWords program words → EndsWithItsLoops program (program_in_order program 4096 argument words)
program_ends {program} laws argument small words fit =
    ends_with_its_loops program (iterations_end laws.loops laws.counts program laws.sound)
    (program_in_order program 4096 argument words)
    (laws.loops.programs program laws.sound 4096 (few_slots program laws.sound.accepted) argument small words fit)

-- before a turn the whole is told by what main still does
pub record StillRuns {R : Type 0} (told : BoundedResult Finished → BoundedResult R) (whole : BoundedResult R)
    (program : Program) (main : MainOf) (first now : MapList) : Type 0 where
  pub laws : Laws program
  pub same : main.program ≡ program
  pub m : Machine
  pub at : MainIsAt main m
  pub turns : ℕ
  pub enough : most_from program main.slot ≤ turns
  pub rest : whole ≡ told (main_from program 4096 turns m now.words)
  pub fit : AreMapWords program now.words
  pub sizes : first.sizes ≡ program.sizes
  pub kept : now.sizes ≡ first.sizes

-- the words of maps of a program's sizes
pub words_fit : (program : Program) (maps : MapList) → maps.sizes ≡ program.sizes
    → length maps.words ≡ sum maps.sizes → AreWords maps.words → AreMapWords program maps.words
words_fit program maps sizes count fit =
    map_words program maps.words (count ∙ ap (λ (sizes : List ℕ). sum sizes) sizes) fit

-- as it does at the beginning
pub starts : {R : Type 0} (told : BoundedResult Finished → BoundedResult R) (whole : BoundedResult R)
    (program : Program) (argument : ℕ) (main : MainOf) (maps : MapList) → Laws program → main.program ≡ program
    → MainIsAt main (main_entry argument) → maps.sizes ≡ program.sizes → AreMapWords program maps.words
    → whole ≡ told (program_in_order program 4096 argument maps.words)
    → StillRuns told whole program main maps maps
unfolding program_in_order
starts told whole program argument main maps laws same at sizes fit whole_is = record {
  laws = laws;
  same = same;
  m = main_entry argument;
  at = at;
  turns = 4096;
  enough = few_steps program main.slot laws.sound.accepted;
  rest = whole_is;
  fit = fit;
  sizes = sizes;
  kept = refl;
}

-- a loop in order leaves words again
looped_words : {program : Program} → Laws program → (call : LoopCall) → OverApproximatesCall program call
    → (words : List ℕ) → AreMapWords program words → (l : Looped) → loop_in_order program 4096 call words ≡ Ended l
    → AreMapWords program l.words
looped_words {program} laws call known words fit l ended =
    (subst (λ (e : BoundedResult Looped). LoopEnds program call e) ended (laws.loops.loops program laws.sound call known
    4096 (few_counts laws.counts program call laws.sound.accepted) words fit)).1

-- main's next turn, where main is at a machine
abbrev pub NextTurn : MainOf → MapList → Turned → MainOf → MapList → Type 0
NextTurn main now turn after new = (m : Machine) → MainIsAt main m → RanMain words_of map_effect m now turn after new

-- after a turn from a slot on
record Came {R : Type 0} (told : BoundedResult Finished → BoundedResult R) (whole : BoundedResult R)
    (program : Program) (slot : ℕ) (turn : StopReason) (words : List ℕ) : Type 0 where
  turns : ℕ
  few : most_after program turn ≤ turns
  fewer : most_after program turn < most_from program slot
  rest : whole ≡ told (after_stop program 4096 (main_from program 4096 turns) turn words)

came_with : {R : Type 0} (told : BoundedResult Finished → BoundedResult R) (whole : BoundedResult R)
    (program : Program) (at : ℕ) (words : List ℕ) (m : Machine) (turns : ℕ) (s : RunSegment)
    → m.slot ≡ at → most_from program m.slot ≤ turns → run program 4096 m words ≡ Ended s
    → (0 < s.steps) × (s.steps + most_after program s.turn ≤ most_from program m.slot)
    → whole ≡ told (main_from program 4096 turns m words)
    → Came told whole program at s.turn s.words
came_with told whole program at words m zero s slot enough ran few rest =
    let some = few.0 in
    let most = few.1 in
    absurd (omega (arith, some, most, enough))
came_with told whole program at words m (suc turns) s slot enough ran few rest =
    let some = few.0 in
    let most = few.1 in
    record {
      turns = turns;
      few = omega (arith, some, most, enough);
      fewer = subst (λ (at : ℕ). most_after program s.turn < most_from program at) slot (omega (arith, some, most));
      rest = rest ∙ ap (λ (e : BoundedResult RunSegment). told
          (followed (after_segment program 4096 (main_from program 4096 turns)) e)) ran;
    }

-- main made a valid call, and waits at a machine
pub record AtCall {R : Type 0} (told : BoundedResult Finished → BoundedResult R) (whole : BoundedResult R)
    (program : Program) (slot : ℕ) (main : MainOf) (call : LoopCall) (words : List ℕ) : Type 0 where
  pub made : LoopCall
  pub is : IsMadeAs program made call words
  pub known : OverApproximatesCall program call
  pub m : Machine
  pub waits : Waits main m
  pub turns : ℕ
  pub few : most_from program m.slot ≤ turns
  pub fewer : most_from program m.slot < most_from program slot
  pub rest : whole ≡ told (followed (after_loop (main_from program 4096 turns) made m words)
      (loop_in_order program 4096 made words))

-- or its call was refused, and it is at a machine
record AtRefusal {R : Type 0} (told : BoundedResult Finished → BoundedResult R) (whole : BoundedResult R)
    (program : Program) (slot : ℕ) (main : MainOf) (refused : LoopMade) (words : List ℕ) : Type 0 where
  m : Machine
  at : MainIsAt main m
  turns : ℕ
  few : most_from program m.slot ≤ turns
  fewer : most_from program m.slot < most_from program slot
  rest : whole ≡ told (mapped (with_loop refused) (main_from program 4096 turns m words))

module _ {R : Type 0} {told : BoundedResult Finished → BoundedResult R} {whole : BoundedResult R} {program : Program}
    (main : MainOf) {slot : ℕ} {words : List ℕ} where
  is_call : Laws program → main.program ≡ program → AreMapWords program words → (call : LoopCall) (turn : StopReason)
      → StopsAs main turn (turned.Loop call) → Came told whole program slot turn words
      → AtCall told whole program slot main call words
  is_call laws same fit call (Loop made m) stops came =
      let filled = subst (λ (p : Program). IsFilled p made call) same stops.0 in
      let known = subst (λ (p : Program). OverApproximatesCall p call) same stops.1 in
      record {
        made = made;
        is = record {
          filled = filled;
          fit = fit;
          same = filled_calls_are_one_loop laws.loops laws.counts program laws.sound made call filled known words fit;
        };
        known = known;
        m = m;
        waits = stops.2;
        turns = came.turns;
        few = came.few;
        fewer = came.fewer;
        rest = came.rest;
      }
  is_call laws same fit call (Exit ret) stops came = absurd stops
  is_call laws same fit call (Refused at asked m) stops came = absurd stops

  is_refusal : (at : ℕ) (call : RefusedCall) (turn : StopReason) → StopsAs main turn (turned.Refused at call)
      → Came told whole program slot turn words
      → AtRefusal told whole program slot main (refused_call at call words) words
  is_refusal at call (Refused its_slot its_call m) stops came =
      let goes_on = main_from program 4096 came.turns m words in
      record {
        m = m;
        at = stops.2;
        turns = came.turns;
        few = came.few;
        fewer = came.fewer;
        rest = came.rest
            ∙ ap (λ (s : ℕ). told (mapped (with_loop (refused_call s its_call words)) goes_on)) (sym stops.0)
            ∙ ap (λ (c : RefusedCall). told (mapped (with_loop (refused_call at c words)) goes_on)) (sym stops.1);
      }
  is_refusal at call (Loop made m) stops came = absurd stops
  is_refusal at call (Exit ret) stops came = absurd stops

  is_end : (ret : ℕ) (turn : StopReason) → StopsAs main turn (turned.Exit ret)
      → Came told whole program slot turn words
      → whole ≡ told (Ended (record { ret = ret; loops = []; words = words }))
  is_end ret (Exit its_ret) stops came = came.rest
      ∙ ap (λ (n : ℕ). told (Ended (record { ret = n; loops = []; words = words }))) (sym stops)
  is_end ret (Loop made m) stops came = absurd stops
  is_end ret (Refused at call m) stops came = absurd stops

module _ {R : Type 0} {told : BoundedResult Finished → BoundedResult R} {whole : BoundedResult R} {program : Program}
    {main : MainOf} {first now : MapList} (still : StillRuns told whole program main first now) where
  -- main takes at most 4,096 instructions more
  pub few_left : most_from main.program main.slot ≤ 4096
  few_left = subst (λ (p : Program). most_from p main.slot ≤ 4096) (sym still.same)
      (few_steps program main.slot still.laws.sound.accepted)

  -- the maps have as many words as main's program says
  pub words_count : length now.words ≡ sum main.program.sizes
  words_count = still.fit.count ∙ ap (λ (p : Program). sum p.sizes) (sym still.same)

  came : {after : MainOf} {new : MapList} {turn : Turned} → after.program ≡ main.program
      → (ran : RanMain words_of map_effect still.m now turn after new)
      → Came told whole program main.slot ran.stretch.turn new.words
  came {after} {new} {turn} same ran =
      let is = same ∙ still.same in
      let ended = subst (λ (p : Program). run p 4096 still.m now.words ≡ Ended ran.stretch) is ran.told in
      let slot = still.at.stands.slot in
      let few = subst (λ (p : Program). ran.stretch.steps + most_after p ran.stretch.turn ≤ most_from p still.m.slot) is
      ran.few in
      subst (λ (words : List ℕ). Came told whole program main.slot ran.stretch.turn words) (sym ran.words_are)
      (came_with told whole program main.slot now.words still.m still.turns ran.stretch (sym slot)
      (subst (λ (at : ℕ). most_from program at ≤ still.turns) slot still.enough) ended (ran.moves, few) still.rest)

  -- a turn keeps the sizes
  turn_keeps : {after : MainOf} {new : MapList} {turn : Turned} → NextTurn main now turn after new
      → new.sizes ≡ first.sizes
  turn_keeps {after} {new} {turn} next =
      let ran = next still.m still.at in
      sizes_kept now new ran.stretch.accesses ran.effects ∙ still.kept

  -- and leaves words
  turn_fits : {after : MainOf} {new : MapList} {turn : Turned} → after.program ≡ main.program
      → NextTurn main now turn after new → AreMapWords program new.words
  turn_fits {after} {new} {turn} same next =
      let ran = next still.m still.at in
      subst (λ (ws : List ℕ). AreMapWords program ws) (sym ran.words_are)
      (subst (λ (p : Program). AreMapWords p ran.stretch.words) (same ∙ still.same) ran.fit)

  -- it takes an instruction or more
  pub some_left : {after : MainOf} {new : MapList} {turn : Turned} → after.program ≡ main.program
      → NextTurn main now turn after new → 0 < most_from program main.slot
  some_left {after} {new} {turn} same next =
      let fewer = (came same (next still.m still.at)).fewer in
      omega (arith, fewer)

  -- main ends
  pub exits : {after : MainOf} {new : MapList} {ret : ℕ} → after.program ≡ main.program
      → NextTurn main now (turned.Exit ret) after new
      → (whole ≡ told (Ended (record { ret = ret; loops = []; words = new.words }))) × (new.sizes ≡ first.sizes)
  exits {after} {new} {ret} same next =
      let ran = next still.m still.at in
      (is_end after ret ran.stretch.turn ran.turns (came same ran), turn_keeps next)

  at_refusal : {after : MainOf} {new : MapList} {slot : ℕ} {call : RefusedCall} → after.program ≡ main.program
      → NextTurn main now (turned.Refused slot call) after new
      → AtRefusal told whole program main.slot after (refused_call slot call new.words) new.words
  at_refusal {after} {new} {slot} {call} same next =
      let ran = next still.m still.at in
      is_refusal after slot call ran.stretch.turn ran.turns (came same ran)

  -- its call was refused, and it goes on
  pub refuses : {after : MainOf} {new : MapList} {slot : ℕ} {call : RefusedCall} → after.program ≡ main.program
      → NextTurn main now (turned.Refused slot call) after new
      → (then_told : BoundedResult Finished → BoundedResult R)
      → ((e : BoundedResult Finished) → told (mapped (with_loop (refused_call slot call new.words)) e) ≡ then_told e)
      → StillRuns then_told whole program after first new
  refuses {after} {new} {slot} {call} same next then_told moves =
      let this = at_refusal same next in
      record {
        laws = still.laws;
        same = same ∙ still.same;
        m = this.m;
        at = this.at;
        turns = this.turns;
        enough = subst (λ (at : ℕ). most_from program at ≤ this.turns) (sym this.at.stands.slot) this.few;
        rest = this.rest ∙ moves (main_from program 4096 this.turns this.m new.words);
        fit = turn_fits same next;
        sizes = still.sizes;
        kept = turn_keeps next;
      }

  -- with less before it
  pub refusal_lessens : {after : MainOf} {new : MapList} {slot : ℕ} {call : RefusedCall} → after.program ≡ main.program
      → NextTurn main now (turned.Refused slot call) after new
      → most_from program after.slot < most_from program main.slot
  refusal_lessens {after} {new} {slot} {call} same next =
      let this = at_refusal same next in
      subst (λ (at : ℕ). most_from program at < most_from program main.slot) (sym this.at.stands.slot) this.fewer

  -- it called a loop
  pub at_call : {after : MainOf} {new : MapList} {call : LoopCall} → after.program ≡ main.program
      → NextTurn main now (turned.Loop call) after new → AtCall told whole program main.slot after call new.words
  at_call {after} {new} {call} same next =
      let ran = next still.m still.at in
      is_call after still.laws (same ∙ still.same) (turn_fits same next) call ran.stretch.turn ran.turns (came same ran)

  -- the maps are of the program's sizes then
  pub call_sizes : {after : MainOf} {new : MapList} {call : LoopCall} → NextTurn main now (turned.Loop call) after new
      → new.sizes ≡ program.sizes
  call_sizes {after} {new} {call} next = turn_keeps next ∙ still.sizes

  -- its loop left what it leaves in order, and main goes on with the answer
  pub loops : {after on : MainOf} {new left : MapList} {call : LoopCall} {answer : ℕ} → after.program ≡ main.program
      → NextTurn main now (turned.Loop call) after new → RanLoopInOrder program call new left answer
      → on.program ≡ after.program → ((m : Machine) → Waits after m → MainIsAt on (resumed m answer))
      → (then_told : LoopCall → BoundedResult Finished → BoundedResult R)
      → ((made : LoopCall) → IsMadeAs program made call new.words → (e : BoundedResult Finished)
      → told (mapped (with_loop (valid_call made answer new.words)) e) ≡ then_told made e)
      → (made : LoopCall) × IsMadeAs program made call new.words
      × StillRuns (then_told made) whole program on first left
  loops {after} {on} {new} {left} {call} {answer} same next looped same_on goes then_told moves =
      let this = at_call same next in
      let at = goes this.m this.waits in
      let ended : loop_in_order program 4096 this.made new.words
      ≡ Ended (record { answer = answer; words = left.words }) = sym this.is.same.orders ∙ looped.told in
      let goes_on = main_from program 4096 this.turns in (
        this.made,
        this.is,
        record {
          laws = still.laws;
          same = same_on ∙ same ∙ still.same;
          m = resumed this.m answer;
          at = at;
          turns = this.turns;
          enough = subst (λ (at : ℕ). most_from program at ≤ this.turns) (sym at.stands.slot) this.few;
          rest = this.rest
              ∙ ap (λ (e : BoundedResult Looped). told (followed (after_loop goes_on this.made this.m new.words) e))
              ended
              ∙ moves this.made this.is (goes_on (resumed this.m answer) left.words);
          fit = looped_words still.laws call this.known new.words this.is.fit (record {
            answer = answer;
            words = left.words;
          }) looped.told;
          sizes = still.sizes;
          kept = looped.kept ∙ turn_keeps next;
        },
      )

  -- with less before it
  pub loop_lessens : {after on : MainOf} {new : MapList} {call : LoopCall} {answer : ℕ} → after.program ≡ main.program
      → NextTurn main now (turned.Loop call) after new
      → ((m : Machine) → Waits after m → MainIsAt on (resumed m answer))
      → most_from program on.slot < most_from program main.slot
  loop_lessens {after} {on} {new} {call} {answer} same next goes =
      let this = at_call same next in
      subst (λ (at : ℕ). most_from program at < most_from program main.slot)
      (sym (goes this.m this.waits).stands.slot) this.fewer
