use Rattle.std.proofs.{Common.{◌+◌, ◌++◌, sym, ap, ◌∙◌}, lemmas.Result.{err_from_is_err_and}}
use Rattle.bpf_text_lex.{specs.Refusals.{at_line}, proofs.RefusalLaws.{bind_fails}}
use Rattle.bpf_text_operands.specs.LabelTable.{label_named}
use Rattle.bpf_insn_types.{specs.Program.{slot_count}, proofs.ProgramLaws.{slot_count-append}}
use Rattle.bpf_text.specs.AssemblerText.{line_at, insns_behind}
use Rattle.bpf_text.proofs.program.read_insns.Goals as goal

pub returns-in_err-slot : goal.returns-in_err-slot
unfolding insns_behind
returns-in_err-slot c =
    let p = err_from_is_err_and c.from_residual.result c.from_residual.ensures.1 in
    let labels = label_named c.args.labels.now in
    let before = c.loop-line.insns.items in
    let line = c.in-Some.line in
    let all = sym c.loop-line.invariant.so_far ∙ ap (insns_behind labels before) c.in-Some.ensures.some in
    rw (p.1, p.2, all) (bind_fails c.in_err-slot.field-0.0 (at_line line.number (line_at labels (slot_count before)
    line.number line.content.now)) (λ insns. insns_behind labels (before ++ insns) c.next.new.self)
    (rw c.loop-line.invariant.slot at c.in_err-slot.ensures.adds))

pub loop-line-preserved : goal.loop-line-preserved
unfolding insns_behind
loop-line-preserved c =
    let before = c.loop-line.insns.items in
    let adds = c.in_ok-slot.ensures.adds in
    let so_far = ap (insns_behind (label_named c.args.labels.now) before) (sym c.in-Some.ensures.some)
    ∙ c.loop-line.invariant.so_far in
    record {
      so_far = rw adds.2 (rw (rw c.loop-line.invariant.slot at adds.1) at so_far);
      slot = rw (adds.2, slot_count-append before adds.0) (adds.3
          ∙ ap (λ n. n + slot_count adds.0) c.loop-line.invariant.slot);
      room = c.in_ok-slot.ensures.bound;
    }

pub returns : goal.returns
unfolding insns_behind
returns c = sym c.loop-line.invariant.so_far ∙ ap (insns_behind (label_named c.args.labels.now) c.loop-line.insns.items)
    c.in_default.ensures.none
