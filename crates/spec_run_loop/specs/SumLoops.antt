-- Loops that add up: their iterations do nothing to the maps but reduce elements by one operator.
use Rattle.std.specs.Prelude.{◌≡◌, ℕ, ◌<◌, List, slice_index_or}
use Rattle.array_maps.specs.declared.access.Op.{Op}
use Rattle.bpf_insn_types.specs.declared.insn.SimpleOp.{SimpleOp}
use Rattle.bpf_insn_types.specs.Program.{Program, slot_count, callback_starts, function_of}
use Rattle.bpf_step_model.specs.{State.{LoopCall}, Step.{map_operator}, Run.{Ended}, Iteration.{Iterated, iteration}}
use Rattle.bpf_verify_sound.specs.Soundness.{AreMapWords, OverApproximatesCall}
use Rattle.bpf_step_ir.specs.{declared.ir_op.IrOp.{IrOp}, Translation.{AreOps}}
use Rattle.spec_run_loop.specs.{SumOps.{AddUp}, SumLaw.{AllReduce}}
use Rattle.loop_core_model.specs.declared.{loop_test.Test.{Test}, verdict.Verdict.TheVariants.{Parallel}}
use Rattle.loop_core_model.specs.Report.{verdict}

-- a program, a loop call, and an operator
pub record SumLoopOf : Type 0 where
  pub program : Program
  pub call : LoopCall
  pub op : Op

-- each iteration that ends, on any words of the maps, makes reduces by the operator and no other access
abbrev pub OnlyReduces : SumLoopOf → Type 0
OnlyReduces l = (index : ℕ) → index < l.call.n → (words : List ℕ) → AreMapWords l.program words → (it : Iterated)
    → iteration l.program 4096 l.call index words ≡ Ended it → AllReduce l.op it.accesses

-- main of the program made the call, and its iterations are so
pub record IsSumLoop (l : SumLoopOf) : Type 0 where
  pub known : OverApproximatesCall l.program l.call
  pub reduces : OnlyReduces l

-- it passes by either test, on any words of the maps
abbrev pub AlwaysPasses : SumLoopOf → Type 0
AlwaysPasses l = (test : Test) (words : List ℕ) → AreMapWords l.program words → verdict test l.program 4096 l.call words
    ≡ Ended Parallel

-- where the function in which a slot lies ends: with the next callback's start, or with the program's slots; the start
-- of callback 1 is at index 0
abbrev pub function_end : Program → ℕ → ℕ
function_end program slot =
    slice_index_or (callback_starts program.insns) (function_of program.insns slot) (slot_count program.insns)

-- the operations of a call's callback, from its first slot up to its function's end, add up by an operator
pub record AddsUp (program : Program) (call : LoopCall) : Type 0 where
  pub op : SimpleOp
  pub ops : List IrOp
  pub are : AreOps program ops
  pub sums : AddUp (map_operator op) ops call.callback (function_end program call.callback)

-- they add up by no operator
pub record AddsUpByNone (program : Program) (call : LoopCall) : Type 0 where
  pub ops : List IrOp
  pub are : AreOps program ops
  pub refused : (op : SimpleOp) → ¬ (AddUp (map_operator op) ops call.callback (function_end program call.callback))
