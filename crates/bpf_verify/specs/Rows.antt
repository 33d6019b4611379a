-- Callbacks as lists of row operations.
use Rattle.std.specs.Prelude.{◌≡◌, ℕ, List, IfSome}
use Rattle.bpf_insn_types.specs.Program.{Program}
use Rattle.bpf_step_ir.specs.{declared.ir_op.IrOp.{IrOp}, Translation.{AreOps}}
use Rattle.row_list.specs.{declared.translating.RowList.{RowList}, Agreement.{AgreesWithValues}, Lanes.{AgreesWithRuns}}
use Rattle.row_list.specs.Joined.{LeavesWithValues}
use Rattle.row_facts.specs.{declared.listing.ListSites.{ListSites}, Lists.{AreListSites}}
use Rattle.bpf_verify.specs.declared.callback_rows.CallbackRows.{CallbackRows}

-- a list leaves what the operations from a slot on leave, and its sites are listed
pub record LeavesRows (ops : List IrOp) (start : ℕ) (list : RowList) (sites : ListSites) : Type 0 where
  pub leaves : LeavesWithValues ops start list.list.items list.result
  pub listed : AreListSites list.list.items sites

-- the list agrees with the operations from the callback's start on, by itself and in a batch, and leaves what they
-- leave; so does the one with reductions
pub record AreRows (ops : List IrOp) (rows : CallbackRows) : Type 0 where
  pub agrees : AgreesWithValues ops rows.start rows.list.list.items rows.list.result
  pub runs : AgreesWithRuns ops rows.start rows.list.list.items rows.list.result
  pub leaves : LeavesRows ops rows.start rows.list rows.sites
  pub joined : IfSome rows.joined (λ joined. LeavesRows ops rows.start joined.list joined.sites)

-- so it does with the operations of a program's instructions, from this slot on
pub record AreRowsAt (program : Program) (start : ℕ) (rows : CallbackRows) : Type 0 where
  pub ops : List IrOp
  pub translated : AreOps program ops
  pub are : AreRows ops rows
  pub here : rows.start ≡ start

-- a list leaves what those operations leave
pub record LeavesRowsAt (program : Program) (start : ℕ) (list : RowList) (sites : ListSites) : Type 0 where
  pub ops : List IrOp
  pub translated : AreOps program ops
  pub are : LeavesRows ops start list sites
