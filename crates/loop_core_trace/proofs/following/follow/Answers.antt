use Rattle.std.proofs.Common.{◌≡◌, ◌<◌, ℕ, List, length, refl, sym, subst, ◌∙◌, arith}
use Rattle.bpf_step_ir.specs.PlainRun.{op_of}
use Rattle.bpf_step_plain.proofs.OpReads.{is_op}
use Rattle.bpf_step.proofs.{Callbacks.{begins}, Limits.{few_slots}}
use Rattle.loop_core_trace.proofs.Underway.{Grounds, within, can, touched_within}
use Rattle.loop_core_trace.proofs.GoingOn.{Leaves, left_by_op, begun}
use Rattle.loop_core_trace.proofs.following.follow.Goals.{After-operations, In-loop, After-index-ops-slot}
use Rattle.loop_core_trace.proofs.following.follow.Goals.{After-execute}
use Rattle.loop_core_trace.proofs.following.follow.Goals as goal

-- the program was accepted, and these are its operations
grounds : (c : After-operations) → Grounds c.args.program.now c.operations.result.0.now
grounds c = record {
  steps = c.law_of_steps.ensures.step;
  simulate = c.law_of_operations.ensures.step;
  sound = record { accepted = c.operations.ensures.accepted; fits = c.operations.ensures.fit };
  are = c.operations.ensures.ops;
}

-- the operation at the slot is there
inside : (c : In-loop) → c.loop.slot < length c.operations.result.0.now
inside c = within (grounds (goal.at.In-loop c).After-operations) c.loop.invariant

-- and is the one that was read
is : (c : After-index-ops-slot) → op_of c.operations.result.0.now c.loop.slot ≡ c.index-ops-slot.result
is c =
    is_op c.operations.result.0.now c.loop.slot c.index-ops-slot.result
    (inside (goal.at.After-index-ops-slot c).In-loop) c.index-ops-slot.is

-- what it left
left : (c : After-execute) → Leaves (grounds (goal.at.After-execute c).After-operations) c.loop.invariant
    c.execute.result c.execute.new.registers c.execute.new.frame c.frame-caller.result.now c.execute.new.store
    c.note_access.new.journal.items c.in_ok-slots.slots
left c =
    let at = goal.at.After-execute c in
    let few : c.loop.counter < 4096 = (let more = c.loop-test.true in omega (arith, more)) in
    left_by_op (grounds at.After-operations) c.loop.invariant c.index-ops-slot.result (is at.After-index-ops-slot)
    c.touch_of-touched.result c.words.result.now c.note_access.new.journal.items c.in_ok-slots.slots
    c.touch_of-touched.ensures c.words.ensures.words c.in_ok-slots.ensures.journal c.in_ok-slots.ensures.slots few
    c.execute.result c.execute.new.registers c.execute.new.frame c.frame-caller.result.now c.execute.new.store
    c.execute.ensures.did

pub loop-init : goal.loop-init
loop-init c =
    let at = goal.at.loop-init c in
    begun c.law_of_operations.ensures.entry c.law_of_accepted_runs.ensures.ends c.law_of_accepted_runs.ensures.callbacks
    c.args.program.now (grounds at.After-operations).sound c.args.call.now c.requires.known c.args.index
    c.requires.below c.args.element c.args.maps.now c.requires.sizes c.sizes-sizes.ensures.words c.words_fit.ensures _
    (begins c.args.call.now c.args.index c.callback-slot.result _ _ c.frame-caller.result.now c.callback-slot.ensures
    (record { count = refl; given = c.from.ensures; ctx = refl }) refl c.frame-caller.ensures)
    c.args.journal.now.items c.requires.fresh c.none-slots.result c.none-slots.ensures

pub bounds-ops-slot : goal.bounds-ops-slot
bounds-ops-slot c = inside (goal.at.bounds-ops-slot c).In-loop

pub note_access-requires : goal.note_access-requires
note_access-requires c =
    let at = goal.at.note_access-requires c in
    record {
      within = λ touch same.
          subst (λ (words : List ℕ). touch.element < length words) (sym c.words.ensures.words)
          (touched_within (grounds at.After-operations) c.loop.invariant c.index-ops-slot.result
          (is at.After-index-ops-slot) touch (sym c.touch_of-touched.ensures ∙ same));
    }

pub execute-requires-clause-slot : goal.execute-requires-clause-slot
execute-requires-clause-slot c =
    let here = inside (goal.at.execute-requires-clause-slot c).In-loop in
    let count = c.operations.ensures.ops.count in
    let few = few_slots c.args.program.now c.operations.ensures.accepted in
    omega (arith, here, count, few)

pub execute-requires-clause-can : goal.execute-requires-clause-can
execute-requires-clause-can c =
    let at = goal.at.execute-requires-clause-can c in
    can (grounds at.After-operations) c.loop.invariant c.index-ops-slot.result (is at.After-index-ops-slot)

pub returns-in-End-clause-traced : goal.returns-in-End-clause-traced
returns-in-End-clause-traced c =
    (rw c.in-End.is at (left (goal.at.returns-in-End-clause-traced c).After-execute)).0

pub returns-in-End-clause-undoes : goal.returns-in-End-clause-undoes
returns-in-End-clause-undoes c =
    (rw c.in-End.is at (left (goal.at.returns-in-End-clause-undoes c).After-execute)).1

pub unreachable-requires : goal.unreachable-requires
unreachable-requires c = rw c.in-Call.is at (left (goal.at.unreachable-requires c).After-execute)

pub unreachable-requires-in-Refusal : goal.unreachable-requires-in-Refusal
unreachable-requires-in-Refusal c =
    rw c.in-Refusal.is at (left (goal.at.unreachable-requires-in-Refusal c).After-execute)

pub loop-preserved : goal.loop-preserved
loop-preserved c = rw c.in-On.is at (left (goal.at.loop-preserved c).After-execute)
