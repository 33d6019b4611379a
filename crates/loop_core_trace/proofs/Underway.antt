-- An iteration under way, operation by operation.
use Rattle.std.proofs.Common.{◌≡◌, ℕ, zero, suc, ◌+◌, ◌<◌, Bool, true, false, nat_lt, List, [], ◌++◌, length}
use Rattle.std.{proofs.Common.{Some, refl, sym, ap, subst, ◌∙◌, arith}, specs.List.{sum}}
use Rattle.std.proofs.lemmas.{Bool.{ltb-true, ltb-false}, List.{append-nil, append_assoc, get_or_past}}
use Rattle.array_maps.specs.{Accesses.{Access}, MapList.{MapList}, Halves.{part_of}}
use Rattle.bpf_insn_types.specs.Program.{Program}
use Rattle.bpf_step_model.specs.{State.{Word, Machine, LoopCall, callback_entry}, Run.{mapped, with_first_step, run}}
use Rattle.bpf_step_model.specs.Step.{Request, Load, Fetch, StepOutcome, NoStep, Next, Asks}
use Rattle.bpf_step_model.specs.{Step.{Loops, Refuses, Exits, extended, step}, Steps.{GoesOn, Steps}}
use Rattle.bpf_step_model.specs.Run.{BoundedResult, Ended, Stuck, Unfinished, RunSegment, part_bytes, after_request}
use Rattle.bpf_verify_sound.specs.Soundness.{IsSoundProgram, AreMapWords, OverApproximates, StepsOverApproximated}
use Rattle.bpf_verify_sound.specs.Soundness.{ProgressAndPreservation, EndsWithin, IsExit, EndsAtExit}
use Rattle.bpf_step_ir.specs.{declared.ir_op.IrOp.{IrOp, TheVariants.{Stop}}, PlainRun.{op_of}}
use Rattle.bpf_step_ir.specs.Plain.{Plain, PlainStepOutcome, Goes, Wants, CallsLoop, RefusesLoop, Ends}
use Rattle.bpf_step_ir.specs.{Plain.{plain_step, plain_after_request}, Translation.{op_at, AreOps}}
use Rattle.bpf_step.specs.{Standing.{Simulates, SimulatesStep}, Laws.{EachOpSimulates}}
use Rattle.bpf_step.proofs.MachineLaws.{set-stands}
use Rattle.bpf_step_plain.specs.Moving.{CanStep}
use Rattle.loop_core_trace.specs.declared.{touch.Touch.{Touch}, journal.Note.{Note}, slots.Slots.{Slots}}
use Rattle.loop_core_trace.specs.{Touches.{touched_by}, Journals.{Undoes}, Traced.{AreSlots}}
use Rattle.loop_core_trace.proofs.TouchLaws.{AsTouched, as_touched}

-- a run ends at an exit
abbrev pub EndsByExit : BoundedResult RunSegment → Type 0
EndsByExit (Ended s) = IsExit s.turn
EndsByExit Stuck = ⊥
EndsByExit Unfinished = ⊥

pub ends_by_exit : (program : Program) (count : ℕ) (e : BoundedResult RunSegment) → EndsWithin program count e
    → EndsAtExit e → EndsByExit e
ends_by_exit program count (Ended s) ends exits = exits
ends_by_exit program count e ends exits = absurd ends

-- so does what comes after its first step
pub later : (accesses : List Access) (e : BoundedResult RunSegment) → EndsByExit (mapped (with_first_step accesses) e)
    → EndsByExit e
later accesses (Ended s) ends = ends
later accesses e ends = ends

-- one step more at the end
pub steps_more : (program : Program) (count : ℕ) (m : Machine) (words : List ℕ) (a : List Access) (last : Machine)
    (mid : List ℕ) (b : List Access) (next : Machine) (after : List ℕ) →
    Steps program count m words a last mid → GoesOn (step program last) mid b next after
    → Steps program (suc count) m words (a ++ b) next after
steps_more program zero m words a last mid b next after steps goes =
    let here : GoesOn (step program m) words b next after =
    subst (λ (ws : List ℕ). GoesOn (step program m) ws b next after) steps.2
    (subst (λ (n : Machine). GoesOn (step program n) mid b next after) steps.1 goes) in
    (next, after, b, [], here, (refl, refl, refl), ap (λ (xs : List Access). xs ++ b) steps.0 ∙ sym (append-nil b))
steps_more program (suc count) m words a last mid b next after steps goes = (
  steps.0,
  steps.1,
  steps.2,
  steps.3 ++ b,
  steps.4,
  steps_more program count steps.0 steps.1 steps.3 last mid b next after steps.5 goes,
  ap (λ (xs : List Access). xs ++ b) steps.6 ∙ append_assoc steps.2 steps.3 b,
)

-- a machine after a request
pub requested : (sizes : List ℕ) (request : Request) (n : ℕ) (m : Machine) (p : Plain) → Simulates sizes m p
    → Simulates sizes (after_request request n m) (plain_after_request request n p)
requested sizes (Load part extension into) n m p s =
    set-stands sizes m p into (Word (extended extension (part_bytes part) (part_of part n)))
    (extended extension (part_bytes part) (part_of part n)) s refl
requested sizes (Fetch part rmw value compare into) n m p s = set-stands sizes m p into (Word (part_of part n))
    (part_of part n) s refl
requested sizes request n m p s = s

-- after so many steps: an iteration that began on the first maps has made some accesses, and goes on from a machine
pub record Underway (program : Program) (call : LoopCall) (index element : ℕ) (first : MapList) (steps : ℕ) (p : Plain)
    (maps : MapList) (journal : List Note) (slots : Slots) : Type 0 where
  pub machine : Machine
  pub accesses : List Access
  pub came : Steps program steps (callback_entry call index) first.words accesses machine maps.words
  pub known : OverApproximates program machine
  pub stands : Simulates program.sizes machine p
  pub fit : AreMapWords program maps.words
  pub left : ℕ
  pub all : steps + left ≡ 4096
  pub ends : EndsByExit (run program left machine maps.words)
  pub slots_are : AreSlots program call index first.words element accesses slots
  pub undoes : Undoes journal maps first

-- a step is there
can_by : (program : Program) (count : ℕ) → count ≡ sum program.sizes
    → (move : StepOutcome) (plain_move : PlainStepOutcome) → StepsOverApproximated program move →
    SimulatesStep program.sizes move plain_move → CanStep count plain_move
can_by program count long NoStep plain_move over sim = absurd over
can_by program count long (Next next) (Goes p) over sim = tt
can_by program count long (Asks element request next) (Wants e r p) over sim =
    let inside = over.0 in let same = sim.0 in omega (arith, inside, same, long)
can_by program count long (Loops call next) (CallsLoop callback n ctx p) over sim = tt
can_by program count long (Refuses call next) (RefusesLoop a p) over sim = tt
can_by program count long (Exits ret) (Ends n) over sim = tt
can_by program count long move plain_move over sim = absurd sim

-- what is accessed is there
touch_within : (count : ℕ) (move : PlainStepOutcome) (touch : Touch) → AsTouched move (Some touch) → CanStep count move
    → touch.element < count
touch_within count (Wants element request next) touch agrees can =
    let here : element ≡ touch.element = ap (λ (t : Touch). t.element) (agrees 0) in omega (arith, here, can)
touch_within count move touch agrees can = absurd agrees

-- the laws of steps and operations, and a program that was accepted, with its operations
pub record Grounds (program : Program) (ops : List IrOp) : Type 0 where
  pub steps : ProgressAndPreservation
  pub simulate : EachOpSimulates
  pub sound : IsSoundProgram program
  pub are : AreOps program ops

module _ {program : Program} {ops : List IrOp} (grounds : Grounds program ops) {call : LoopCall} {index element : ℕ}
    {first : MapList} {steps : ℕ} {p : Plain} {maps : MapList} {journal : List Note} {slots : Slots}
    (under : Underway program call index element first steps p maps journal slots) where
  pub over : StepsOverApproximated program (step program under.machine)
  over = grounds.steps program grounds.sound under.machine under.known

  pub simulated : (op : IrOp) → op_of ops p.slot ≡ op → SimulatesStep program.sizes (step program under.machine)
      (plain_step op p)
  simulated op is =
      let same : op_at program under.machine.slot ≡ op = ap (op_at program) (sym under.stands.slot)
      ∙ sym (grounds.are.at p.slot) ∙ is in
      subst (λ (o : IrOp). SimulatesStep program.sizes (step program under.machine) (plain_step o p)) same
      (grounds.simulate program grounds.sound under.machine p under.known under.stands)

  pub can : (op : IrOp) → op_of ops p.slot ≡ op → CanStep (length maps.words) (plain_step op p)
  can op is = can_by program (length maps.words) under.fit.count (step program under.machine) (plain_step op p) over
      (simulated op is)

  halted : op_of ops p.slot ≡ Stop → ⊥
  unfolding plain_step
  halted is = can Stop is

  -- its operation is there
  pub within : p.slot < length ops
  within = go (nat_lt p.slot (length ops)) refl
    where
      go : (b : Bool) → nat_lt p.slot (length ops) ≡ b → p.slot < length ops
      go true is = ltb-true p.slot (length ops) is
      go false is = absurd (halted (get_or_past ops p.slot Stop (ltb-false p.slot (length ops) is)))

  pub touched_within : (op : IrOp) → op_of ops p.slot ≡ op → (touch : Touch) → touched_by op p.registers ≡ Some touch
      → touch.element < length maps.words
  touched_within op is touch same =
      touch_within (length maps.words) (plain_step op p) touch
      (subst (AsTouched (plain_step op p)) same (as_touched op p)) (can op is)
