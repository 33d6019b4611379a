use Rattle.std.proofs.lemmas.Result.{err_from_is_err_and}
use Rattle.bpf_insn.proofs.Encoded.{goes_on, ends}
use Rattle.bpf_insn.proofs.encoding.encode.Goals as goal

pub returns-in_err-put : goal.returns-in_err-put
returns-in_err-put c =
    let p = err_from_is_err_and c.from_residual.result c.from_residual.ensures.1 in
    rw (p.1, p.2) (ends c.args.insns.now c.loop-insn.insn-index c.insn-item.result c.loop-insn.bytes.items
    c.put.new.bytes.items c.in_err-put.field-0.0 c.loop-insn-test.true c.insn-item.is c.loop-insn.invariant
    c.in_err-put.ensures)

pub loop-insn-preserved : goal.loop-insn-preserved
loop-insn-preserved c =
    let h = c.in_ok-put.ensures in
    goes_on c.args.insns.now c.loop-insn.insn-index c.insn-item.result c.loop-insn.bytes.items c.put.new.bytes.items h.0
    c.loop-insn-test.true c.insn-item.is c.loop-insn.invariant h.1 h.2
