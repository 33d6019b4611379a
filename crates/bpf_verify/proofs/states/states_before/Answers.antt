use Rattle.std.proofs.{Common.{ℕ, ◌+◌, ◌<◌, ◌≤◌, ◌≡◌, length, ap, sym, ◌∙◌, subst, arith}, Math.ListN.{length-set}}
use Rattle.bpf_insn_types.{specs.Program.{Program, slot_count, named_by}, proofs.ProgramLaws.{take-whole}}
use Rattle.bpf_verify_model.specs.Rules.{targets_in, with_target}
use Rattle.bpf_verify.proofs.PassLaws.{passed-none, passed-over, known-here}
use Rattle.bpf_verify.proofs.StateLaws.{StatesBelow, states-none, states-put, states-over, states-up_to, states-all}
use Rattle.bpf_verify.proofs.StateLaws.{passed-fine, passed-listed, Here, here-index}
use Rattle.bpf_verify.proofs.states.states_before.Goals as goal

pub loop-insn-init : goal.loop-insn-init
loop-insn-init c = record {
  low = omega arith;
  size = c.in_ok-table.ensures.ok.size;
  room = c.in_ok-states.ensures.ok.size;
  passed = passed-none (record { sizes = c.args.sizes.now; insns = c.args.insns.now }) c.in_ok-table.table.items
      (λ t h. c.in_ok-table.ensures.ok.known t (omega (arith, h, c.in_ok-table.ensures.ok.size)));
  below = states-none (record { sizes = c.args.sizes.now; insns = c.args.insns.now }) c.in_ok-states.states.items;
}

pub known-before-requires : goal.known-before-requires
known-before-requires c =
    let at : Here c.args.insns.now c.args.count c.loop-insn.slot c.loop-insn.insn-index c.insn-item.result =
    here-index c.args.insns.now c.args.count c.loop-insn.slot c.loop-insn.insn-index c.insn-item.result
    c.requires.slots c.loop-insn-test.true c.insn-item.is c.loop-insn.invariant.low in
    omega (arith, at.inside, at.some, c.loop-insn.invariant.size)

pub put_state-requires : goal.put_state-requires
put_state-requires c =
    let at : Here c.args.insns.now c.args.count c.loop-insn.slot c.loop-insn.insn-index c.insn-item.result =
    here-index c.args.insns.now c.args.count c.loop-insn.slot c.loop-insn.insn-index c.insn-item.result
    c.requires.slots c.loop-insn-test.true c.insn-item.is c.loop-insn.invariant.low in
    omega (arith, at.inside, at.some, c.loop-insn.invariant.room)

pub returns-then-last-slot-clause-ok : goal.returns-then-last-slot-clause-ok
returns-then-last-slot-clause-ok c =
    let at : Here c.args.insns.now c.args.count c.loop-insn.slot c.loop-insn.insn-index c.insn-item.result =
    here-index c.args.insns.now c.args.count c.loop-insn.slot c.loop-insn.insn-index c.insn-item.result
    c.requires.slots c.loop-insn-test.true c.insn-item.is c.loop-insn.invariant.low in
    let program : Program = record { sizes = c.args.sizes.now; insns = c.args.insns.now } in
    let inside : c.loop-insn.slot < length c.loop-insn.states.items =
    omega (arith, at.inside, at.some, c.loop-insn.invariant.room) in
    let in_table : c.loop-insn.slot < length c.loop-insn.table.items =
    omega (arith, at.inside, at.some, c.loop-insn.invariant.size) in
    states-up_to program c.loop-insn.slot c.args.last c.put_state.new.states.items
    (states-put program c.loop-insn.slot c.known-before.result c.loop-insn.states.items c.put_state.new.states.items
    c.loop-insn.invariant.below inside
    (known-here program c.loop-insn.slot c.known-before.result (targets_in c.args.insns.now c.loop-insn.slot)
    c.loop-insn.table.items c.loop-insn.invariant.passed in_table c.known-before.ensures) c.put_state.ensures)
    c.if-last-slot.true
    (ap length c.put_state.ensures ∙ length-set c.loop-insn.states.items c.loop-insn.slot c.known-before.result
    ∙ c.loop-insn.invariant.room ∙ sym c.requires.slots)

pub propagate_reached-requires : goal.propagate_reached-requires
propagate_reached-requires c =
    let at : Here c.args.insns.now c.args.count c.loop-insn.slot c.loop-insn.insn-index c.insn-item.result =
    here-index c.args.insns.now c.args.count c.loop-insn.slot c.loop-insn.insn-index c.insn-item.result
    c.requires.slots c.loop-insn-test.true c.insn-item.is c.loop-insn.invariant.low in
    omega (arith, at.inside, at.some, c.requires.few)

pub overflow_add-slot : goal.overflow_add-slot
overflow_add-slot c =
    let at : Here c.args.insns.now c.args.count c.loop-insn.slot c.loop-insn.insn-index c.insn-item.result =
    here-index c.args.insns.now c.args.count c.loop-insn.slot c.loop-insn.insn-index c.insn-item.result
    c.requires.slots c.loop-insn-test.true c.insn-item.is c.loop-insn.invariant.low in
    omega (arith, at.inside, c.requires.few, c.slots-slot.ensures)

pub loop-insn-preserved : goal.loop-insn-preserved
loop-insn-preserved c =
    let at : Here c.args.insns.now c.args.count c.loop-insn.slot c.loop-insn.insn-index c.insn-item.result =
    here-index c.args.insns.now c.args.count c.loop-insn.slot c.loop-insn.insn-index c.insn-item.result
    c.requires.slots c.loop-insn-test.true c.insn-item.is c.loop-insn.invariant.low in
    let program : Program = record { sizes = c.args.sizes.now; insns = c.args.insns.now } in
    let inside : c.loop-insn.slot < length c.loop-insn.states.items =
    omega (arith, at.inside, at.some, c.loop-insn.invariant.room) in
    let in_table : c.loop-insn.slot < length c.loop-insn.table.items =
    omega (arith, at.inside, at.some, c.loop-insn.invariant.size) in
    record {
      low = ap (λ (n : ℕ). c.loop-insn.slot + n) c.slots-slot.ensures ∙ at.more;
      size = c.propagate_reached.ensures.size ∙ c.loop-insn.invariant.size;
      room = ap length c.put_state.ensures ∙ length-set c.loop-insn.states.items c.loop-insn.slot
          c.known-before.result ∙ c.loop-insn.invariant.room;
      passed = passed-listed program (c.loop-insn.slot + c.slots-slot.result)
          (with_target (targets_in c.args.insns.now c.loop-insn.slot) (named_by c.loop-insn.slot c.insn-item.result))
          c.propagate_reached.new.table.items
          (passed-over program c.loop-insn.slot c.slots-slot.result c.insn-item.result
          (with_target (targets_in c.args.insns.now c.loop-insn.slot) (named_by c.loop-insn.slot c.insn-item.result))
          c.propagate_reached.new.table.items
          (passed-fine program c.loop-insn.slot c.args.last c.insn-item.result c.known-before.result
          c.loop-insn.table.items c.propagate_reached.new.table.items c.requires.fine c.if-last-slot.false
          c.loop-insn.invariant.passed at.here in_table c.known-before.ensures c.propagate_reached.ensures.received
          c.propagate_reached.ensures.size)
          c.slots-slot.ensures at.inner);
      below = states-over program c.loop-insn.slot c.slots-slot.result c.put_state.new.states.items
          (states-put program c.loop-insn.slot c.known-before.result c.loop-insn.states.items
          c.put_state.new.states.items c.loop-insn.invariant.below inside
          (known-here program c.loop-insn.slot c.known-before.result (targets_in c.args.insns.now c.loop-insn.slot)
          c.loop-insn.table.items c.loop-insn.invariant.passed in_table c.known-before.ensures) c.put_state.ensures)
          (λ k m h. at.inner k m (omega (arith, h, c.slots-slot.ensures)));
    }

pub returns-clause-ok : goal.returns-clause-ok
returns-clause-ok c =
    let whole : length c.args.insns.now ≤ c.loop-insn.insn-index = omega (arith, c.loop-insn-test.false) in
    let program : Program = record { sizes = c.args.sizes.now; insns = c.args.insns.now } in
    let passed : c.loop-insn.slot ≡ c.args.count =
    c.loop-insn.invariant.low ∙ ap slot_count (take-whole c.args.insns.now c.loop-insn.insn-index whole)
    ∙ c.requires.slots in
    states-all program c.args.last c.args.count c.loop-insn.states.items
    (subst (λ (n : ℕ). StatesBelow program n c.loop-insn.states.items) passed c.loop-insn.invariant.below)
    c.requires.slots (c.loop-insn.invariant.room ∙ sym c.requires.slots)
