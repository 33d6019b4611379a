use Rattle.std.proofs.Common.{sym, arith}
use Rattle.bpf_insn_types.{specs.declared.insn.AluOp.{AluOp}, proofs.WordLaws.{alu-words}}
use Rattle.array_maps.specs.Accesses.{combined}
use Rattle.array_maps.proofs.changes.combine.Goals as goal

pub returns-in-Add : goal.returns-in-Add
unfolding combined
returns-in-Add c = rw c.in-Add.is (sym (alu-words AluOp.Add c.args.word c.args.operand (omega arith) (omega arith)))

pub returns-in-Or : goal.returns-in-Or
unfolding combined
returns-in-Or c = rw c.in-Or.is (sym (alu-words AluOp.Or c.args.word c.args.operand (omega arith) (omega arith)))

pub returns-in-And : goal.returns-in-And
unfolding combined
returns-in-And c = rw c.in-And.is (sym (alu-words AluOp.And c.args.word c.args.operand (omega arith) (omega arith)))

pub returns-in-Xor : goal.returns-in-Xor
unfolding combined
returns-in-Xor c = rw c.in-Xor.is (sym (alu-words AluOp.Xor c.args.word c.args.operand (omega arith) (omega arith)))

pub returns-in-AddH : goal.returns-in-AddH
unfolding combined
returns-in-AddH c = rw c.in-AddH.is c.add_halves.ensures
