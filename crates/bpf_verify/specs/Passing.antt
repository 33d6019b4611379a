-- How far a pass over a program's slots has come.
use Rattle.std.specs.Prelude.{◌≡◌, ℕ, ◌<◌, ◌≤◌, true, List, length, slice_index_or, Option, Some, None, is_some}
use Rattle.bpf_insn_types.specs.{declared.insn.Insn.{Insn}, Program.{Program, insn_at}}
use Rattle.bpf_verify_model.specs.{declared.{state.State.{State}, outflow.Outflow.{Outflow}}, Rules.{targets_in}}
use Rattle.bpf_verify_model.specs.{Flow.{flow}, Inflow.{incoming, no_edges, entry}, Accepted.{BrokenRule, fault_within}}
use Rattle.bpf_step_ir.specs.{declared.ir_op.IrOp.{IrOp, TheVariants.{Stop}}, Translation.{op_at}}
use Rattle.bpf_verify.specs.{declared.error.VerifyError.{VerifyError, TheVariants.{Refused, Memory}}, Layout.{IsLayout}}
use Rattle.bpf_verify.specs.declared.{layout.Layout.{Layout}, passing.Code.{Code}}

-- the program of some code
abbrev pub program_of : Code → Program
program_of code = record { sizes = code.sizes.now; insns = code.insns.now }

-- an instruction starts at a slot of a program with this layout
pub record InsnStartsAt (insns : List Insn) (layout : Layout) (slot : ℕ) : Type 0 where
  pub layout_is : IsLayout insns layout
  pub here : is_some (insn_at insns slot) ≡ true
  pub low : slot < 4096

-- what flows from an instruction that breaks no rule
abbrev pub out_of : List ℕ → ℕ → Insn → Option State → Outflow
out_of sizes slot insn None = no_edges
out_of sizes slot insn (Some state) = flow sizes slot state insn

-- the first n slots break no rule; what flowed from them is in the table, and their targets are listed
pub record Passed (program : Program) (count : ℕ) (targets : List ℕ) (table : List (Option State)) : Type 0 where
  pub fine : fault_within program count ≡ None
  pub listed : targets ≡ targets_in program.insns count
  pub known : (slot : ℕ) → slot < length table → slice_index_or table slot None ≡ incoming program count slot

-- the first n slots have their operations, and the others none
pub record Translated (program : Program) (count : ℕ) (ops : List IrOp) : Type 0 where
  pub done : (slot : ℕ) → slot < count → slice_index_or ops slot Stop ≡ op_at program slot
  pub rest : (slot : ℕ) → count ≤ slot → slice_index_or ops slot Stop ≡ Stop

-- the abstract state before each slot where nothing flowed yet
pub record IsEntryTable (count : ℕ) (table : List (Option State)) : Type 0 where
  pub size : length table ≡ count
  pub known : (slot : ℕ) → slot < count → slice_index_or table slot None ≡ entry slot

-- an error is this fault, unless memory ran out
abbrev pub IsFault : Option BrokenRule → VerifyError → Type 0
IsFault fault Memory = Unit {0}
IsFault fault (Refused rule slot) = fault ≡ Some (record { rule = rule; slot = slot })
