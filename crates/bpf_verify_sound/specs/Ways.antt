-- Where a machine goes by the edges out of a slot.
use Rattle.std.specs.{Prelude.{◌≡◌, ℕ, ◌<◌, ◌^◌, ◌⊎◌, true, Option, Some, None, is_some}, List.{sum}}
use Rattle.bpf_insn_types.specs.Program.{Program, insn_at, leads_to}
use Rattle.bpf_verify_model.specs.declared.{abstract_value.AbstractValue.{AbstractValue}, outflow.Edge.{Edge}}
use Rattle.bpf_verify_model.specs.declared.outflow.Outflow.{Outflow}
use Rattle.bpf_step_model.specs.{State.{Value, Machine, callback_entry}, Run.{after_request}, ProgramInOrder.{resumed}}
use Rattle.bpf_step_model.specs.Step.{StepOutcome, NoStep, Next, Asks, Loops, Refuses, Exits}
use Rattle.bpf_verify_sound.specs.Containment.{ContainsValue, Contained}

-- where something is known of a result, there is one, and it is true of it
abbrev pub FollowsValue : Option AbstractValue → Option Value → Type 0
FollowsValue None value = Unit {0}
FollowsValue (Some x) None = ⊥
FollowsValue (Some x) (Some value) = ContainsValue x value

-- an edge leads to the machine's slot, and the abstract state on it contains the machine
abbrev pub EdgeLeadsTo : Option Edge → Machine → Type 0
EdgeLeadsTo None m = ⊥
EdgeLeadsTo (Some edge) m = (edge.target ≡ m.slot) × Contained edge.state m

-- one of the edges out does
abbrev pub FlowsTo : Outflow → Machine → Type 0
FlowsTo out m = EdgeLeadsTo out.ahead m ⊎ EdgeLeadsTo out.aside m

-- the machine is at a later slot of the same function, to which one of the edges out leads
pub record GoesBy (program : Program) (slot : ℕ) (out : Outflow) (m : Machine) : Type 0 where
  pub same : leads_to program.insns slot m.slot ≡ true
  pub later : slot < m.slot
  pub flows : FlowsTo out m

-- a callback starts at a later slot, to which one of the edges out leads
pub record EntersBy (program : Program) (slot : ℕ) (out : Outflow) (m : Machine) : Type 0 where
  pub stands : is_some (insn_at program.insns m.slot) ≡ true
  pub later : slot < m.slot
  pub flows : FlowsTo out m

-- there is a step, and the edges out lead to each machine that it leads to, whatever word is at the element
abbrev pub StepFlows : Program → ℕ → Outflow → StepOutcome → Type 0
StepFlows program slot out NoStep = ⊥
StepFlows program slot out (Next next) = GoesBy program slot out next
StepFlows program slot out (Asks element request next) =
    (element < sum program.sizes)
    × ((word : ℕ) → word < 2 ^ 64 → GoesBy program slot out (after_request request word next))
StepFlows program slot out (Loops call next) =
    ((index : ℕ) → index < call.n → EntersBy program slot out (callback_entry call index))
    × ((answer : ℕ) → answer < 2 ^ 64 → GoesBy program slot out (resumed next answer))
StepFlows program slot out (Refuses call next) = GoesBy program slot out next
StepFlows program slot out (Exits ret) = Unit {0}
