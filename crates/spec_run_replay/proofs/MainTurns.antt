-- Main's turns up to its first valid loop call.
use Rattle.std.proofs.Common.{◌≡◌, ℕ, ◌+◌, ◌≤◌, List, Option, Some, None, refl, sym, ap, subst, ◌∙◌, arith}
use Rattle.array_maps.specs.MapList.{MapList}
use Rattle.bpf_insn_types.specs.Program.{Program}
use Rattle.bpf_step_model.specs.{declared.refused_call.RefusedCall.{RefusedCall}, State.{Machine, LoopCall}}
use Rattle.bpf_step_model.specs.Run.{BoundedResult, Ended, Stuck, Unfinished, mapped, followed}
use Rattle.bpf_step_model.specs.{LoopInOrder.{Looped, loop_in_order}, ProgramInOrder.{valid_call, refused_call}}
use Rattle.bpf_step_model.specs.ProgramInOrder.{Finished, with_loop, after_loop, main_from, program_in_order}
use Rattle.bpf_verify_sound.specs.Soundness.{OverApproximatesCall, most_from}
use Rattle.bpf_step.specs.{Mains.{MainOf}, Turns.{IsFilled}}
use Rattle.bpf_step.specs.declared.main_function.Turned.TheVariants as turned
use Rattle.spec_run_main.specs.Reports.{EndsWithItsLoops}
use Rattle.spec_run_main.proofs.Turns.{StillRuns, NextTurn, exits, refuses, refusal_lessens, at_call, call_sizes}
use Rattle.spec_run_replay.specs.{FirstLoop.{ValidLoop, first_valid, first_loop}, FoundLoop.{CameToLoop}}
use Rattle.spec_run_replay.specs.declared.first_loop.NumberedCall.{NumberedCall}

-- the first valid loop call of a program that finished, whose loop calls are numbered from this number
abbrev pub first_of : ℕ → Finished → Option ValidLoop
first_of number f = first_valid number f.loops

-- a refused call before is one number more
one_refused : (number slot : ℕ) (call : RefusedCall) (words : List ℕ) (e : BoundedResult Finished)
    → mapped (first_of number) (mapped (with_loop (refused_call slot call words)) e)
    ≡ mapped (first_of (number + 1)) e
one_refused number slot call words (Ended f) = refl
one_refused number slot call words Stuck = refl
one_refused number slot call words Unfinished = refl

-- a valid call is the first, where what comes after it ends
valid_made : (number answer : ℕ) (words : List ℕ) (call : LoopCall) (e : BoundedResult Finished)
    (valid : Option ValidLoop)
    → mapped (first_of number)
    (mapped (with_loop (valid_call call answer words)) e) ≡ Ended valid
    → valid ≡ Some (record { number = number; call = call; words = words })
valid_made number answer words call (Ended f) valid is = cc
valid_made number answer words call Stuck valid is = absurd cc
valid_made number answer words call Unfinished valid is = absurd cc

valid_first : (number : ℕ) (go_on : Machine → List ℕ → BoundedResult Finished) (call : LoopCall) (next : Machine)
    (words : List ℕ) (e : BoundedResult Looped) (valid : Option ValidLoop)
    → mapped (first_of number) (followed (after_loop go_on call next words) e) ≡ Ended valid
    → valid ≡ Some (record { number = number; call = call; words = words })
valid_first number go_on call next words (Ended l) valid is =
    valid_made number l.answer words call (go_on _ l.words) valid is
valid_first number go_on call next words Stuck valid is = absurd cc
valid_first number go_on call next words Unfinished valid is = absurd cc

-- a program that ends has a first valid loop call, or none
first_ended : (program : Program) (e : BoundedResult Finished) → EndsWithItsLoops program e
    → (valid : Option ValidLoop) × (mapped (first_of 0) e ≡ Ended valid)
first_ended program (Ended f) ends = (first_of 0 f, refl)
first_ended program Stuck ends = absurd ends
first_ended program Unfinished ends = absurd ends

-- before a turn the program's first valid loop call is the first that main still makes, numbered from here
pub record StillSeeks (program : Program) (argument : ℕ) (main : MainOf) (first now : MapList) (number : ℕ) : Type 0
  where
    pub still : StillRuns (mapped (first_of number)) (first_loop program 4096 argument first.words) program main first
        now
    pub few : number + most_from program main.slot ≤ 4096
    pub ends : EndsWithItsLoops program (program_in_order program 4096 argument first.words)

module _ {program : Program} {argument : ℕ} {main after : MainOf} {first now new : MapList} {number : ℕ}
    (seeks : StillSeeks program argument main first now number) (same : after.program ≡ main.program) where
  -- main ends without a valid loop call
  pub ends_without : {ret : ℕ} → NextTurn main now (turned.Exit ret) after new
      → CameToLoop program argument first new None
  ends_without {ret} next = record {
    valid = None;
    first = (exits seeks.still same next).0;
    is = tt;
    ends = seeks.ends;
  }

  -- a call was refused, and main goes on
  pub goes_on : {slot : ℕ} {call : RefusedCall} → NextTurn main now (turned.Refused slot call) after new
      → StillSeeks program argument after first new (number + 1)
  goes_on {slot} {call} next =
      let fewer = refusal_lessens seeks.still same next in
      let few = seeks.few in
      record {
        still = refuses seeks.still same next (mapped (first_of (number + 1)))
            (one_refused number slot call new.words);
        few = omega (arith, fewer, few);
        ends = seeks.ends;
      }

  -- it made its first valid loop call
  pub calls : {call : LoopCall} → NextTurn main now (turned.Loop call) after new
      → (found : NumberedCall) → found.number ≡ number → found.call ≡ call
      → CameToLoop program argument first new (Some found)
  calls {call} next found is_number is_call =
      let this = at_call seeks.still same next in
      let first = first_ended program (program_in_order program 4096 argument first.words) seeks.ends in
      let is = valid_first number (main_from program 4096 this.turns) this.made this.m new.words
      (loop_in_order program 4096 this.made new.words) first.0 (sym this.rest ∙ first.1) in
      record {
        valid = Some (record { number = number; call = this.made; words = new.words });
        first = first.1 ∙ ap Ended is;
        is = record {
          number = is_number;
          filled = subst (IsFilled program this.made) (sym is_call) this.is.filled;
          known = subst (OverApproximatesCall program) (sym is_call) this.known;
          words = refl;
          fit = this.is.fit;
          sizes = call_sizes seeks.still next;
        };
        ends = seeks.ends;
      }
