use Rattle.std.proofs.Common.{◌<◌, length, rules, arith}
use Rattle.bpf_insn.proofs.Decoded.{begins, goes_on, fails, is_done, behind}
use Rattle.bpf_insn.proofs.decoding.all.Goals as goal

pub loop-rest-init : goal.loop-rest-init
loop-rest-init c = rw c.new-insns.ensures.items (begins c.args.bytes.now (λ i. omega (arith, c.type_inv.bytes i)))

pub returns-in-Err : goal.returns-in-Err
returns-in-Err c =
    let some : 0 < length c.loop-rest.rest.now = search (rules, c.is_empty.ensures, c.loop-rest-test.true) in
    fails c.args.bytes.now c.loop-rest.rest.now c.loop-rest.insns.items c.in-Err.error some c.loop-rest.invariant
    c.in-Err.ensures.value

pub loop-rest-preserved : goal.loop-rest-preserved
loop-rest-preserved c =
    let found = c.in-Ok.ensures.value in
    rw c.in_ok-add.ensures.ok (goes_on c.args.bytes.now c.loop-rest.rest.now _ c.loop-rest.insns.items c.in-Ok.found.0
    c.loop-rest.invariant found.0 (behind c.in-Ok.found.1 _ _ c.loop-rest.rest.now found.1 (omega arith)))

pub returns : goal.returns
returns c = is_done c.args.bytes.now c.loop-rest.rest.now c.loop-rest.insns.items (search (
  rules,
  c.is_empty.ensures,
  c.loop-rest-test.false,
)) c.loop-rest.invariant
