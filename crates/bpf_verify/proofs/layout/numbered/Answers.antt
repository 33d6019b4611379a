use Rattle.std.proofs.Common.{◌≡◌, ℕ, false, length, get_or, ap, sym, ◌∙◌, arith, add-one, length-append, suc, ◌∷◌, []}
use Rattle.std.specs.{Prelude.{filter}, List.{range_with_len}}
use Rattle.bpf_insn_types.specs.Program.{slot_count}
use Rattle.bpf_verify.proofs.StartLaws.{starts_at, starts-few, starts-more, places-more, places-all}
use Rattle.bpf_verify.proofs.layout.numbered.Goals as goal

pub overflow_cast-len : goal.overflow_cast-len
overflow_cast-len c =
    let starts : c.add_start.new.starts.items ≡ filter (starts_at c.args.insns.now)
    (range_with_len 0 (suc c.loop-slot.slot)) =
    starts-more c.args.insns.now c.loop-slot.starts.items c.add_start.new.starts.items c.loop-slot.slot
    c.start_at.result
    (get_or c.args.named.now c.loop-slot.slot false) (get_or c.args.begins.now c.loop-slot.slot false)
    c.loop-slot.invariant.starts
    c.in_ok-add_start.ensures.ok c.start_at.ensures (c.requires.named.at c.loop-slot.slot
    (omega (arith, c.loop-slot-test.true, c.requires.begins.count))) (c.requires.begins.at c.loop-slot.slot) in
    omega (
      arith,
      ap length starts,
      starts-few c.args.insns.now (suc c.loop-slot.slot),
      c.len.ensures,
      c.requires.begins.count,
      c.requires.few,
      c.loop-slot-test.true,
    )

pub loop-slot-preserved : goal.loop-slot-preserved
loop-slot-preserved c =
    let starts : c.add_start.new.starts.items ≡ filter (starts_at c.args.insns.now)
    (range_with_len 0 (suc c.loop-slot.slot)) =
    starts-more c.args.insns.now c.loop-slot.starts.items c.add_start.new.starts.items c.loop-slot.slot
    c.start_at.result
    (get_or c.args.named.now c.loop-slot.slot false) (get_or c.args.begins.now c.loop-slot.slot false)
    c.loop-slot.invariant.starts
    c.in_ok-add_start.ensures.ok c.start_at.ensures (c.requires.named.at c.loop-slot.slot
    (omega (arith, c.loop-slot-test.true, c.requires.begins.count))) (c.requires.begins.at c.loop-slot.slot) in
    record {
      starts = starts ∙ sym (ap (λ (n : ℕ). filter (starts_at c.args.insns.now) (range_with_len 0 n))
          (add-one c.loop-slot.slot));
      size = omega (
        arith,
        ap length c.in_ok-add_place.ensures.ok,
        length-append c.loop-slot.places.items
            (c.place_at.result ∷ []),
        c.loop-slot.invariant.size,
      );
      places = places-more c.args.insns.now c.loop-slot.places.items c.add_place.new.places.items
          c.add_start.new.starts.items c.loop-slot.slot c.len.result c.place_at.result
          (get_or c.args.begins.now c.loop-slot.slot false) c.loop-slot.invariant.size c.loop-slot.invariant.places
          c.in_ok-add_place.ensures.ok starts (omega (arith, c.len.ensures)) c.place_at.ensures
          (c.requires.begins.at c.loop-slot.slot) (omega (arith, c.loop-slot-test.true, c.requires.begins.count));
    }

pub returns-clause-ok : goal.returns-clause-ok
returns-clause-ok c =
    let whole : c.loop-slot.slot ≡ slot_count c.args.insns.now =
    omega (arith, c.loop-slot-test.false, c.loop-slot.auto.slot-end, c.requires.begins.count) in
    record {
      places = places-all c.args.insns.now c.loop-slot.places.items c.loop-slot.slot c.loop-slot.invariant.size
          (omega (arith, whole)) c.loop-slot.invariant.places;
      starts = c.loop-slot.invariant.starts ∙ ap (λ (n : ℕ). filter (starts_at c.args.insns.now) (range_with_len 0 n))
          whole;
    }
