-- What a step asks of an element is what was seen of its operation.
use Rattle.std.proofs.Common.{◌≡◌, ℕ, ◌%◌, Bool, true, false, Option, Some, None, refl}
use Rattle.std.{specs.Prelude.{◌==◌, not, if◌then◌else◌}, proofs.Common.{rules}}
use Rattle.bpf_insn_types.specs.declared.insn.{Width.{Width, TheVariants.{W32, W64}}, AtomicOp.{AtomicOp}}
use Rattle.bpf_insn_types.specs.declared.insn.AtomicOp.TheVariants.{Simple}
use Rattle.array_maps.specs.declared.access.{Half.{Half, TheVariants.{Low, High}}, Part.{Part}}
use Rattle.array_maps.specs.{declared.access.Part.TheVariants.{Half as Of}, Accesses.{Action}}
use Rattle.bpf_step_model.specs.{LoopCalls.{Validity, RefusedAs, Valid, call_validity}, Run.{action_of}}
use Rattle.bpf_step_model.specs.Step.{Request, store_of, half_operator, update_of, request_of}
use Rattle.bpf_step_model.specs.AreaWords.{byte_named, part_named}
use Rattle.bpf_step_ir.specs.declared.ir_op.IrOp.{IrOp, TheVariants.{JumpIf, LoadFrame, StoreFrame, ChangeFrame}}
use Rattle.bpf_step_ir.specs.declared.ir_op.IrOp.TheVariants.{LoadElement, StoreElement, ChangeElement, Lookup}
use Rattle.bpf_step_ir.specs.declared.ir_op.IrOp.TheVariants.{CallLoop}
use Rattle.bpf_step_ir.specs.Plain.{Plain, word, PlainStepOutcome, Wants, plain_loop_call_step, plain_step}
use Rattle.loop_core_model.specs.Actions.{is_write, is_plain_write}
use Rattle.loop_core_trace.specs.{declared.touch.Touch.{Touch}, Operators.{operator_of}}
use Rattle.loop_core_trace.specs.Touches.{is_half, operator_of_change, touched_by}

-- an action at an element, as it is seen
abbrev pub seen_as : ℕ → Action → Touch
seen_as element action = record {
  element = element;
  looks = not (is_plain_write action);
  writes = is_write action;
  reduces = operator_of action;
}

-- what a request does, whichever word is there
abbrev IsSeenAs : ℕ → Request → Touch → Type 0
IsSeenAs element request touch = (word : ℕ) → seen_as element (action_of request word) ≡ touch

-- a step asks for the access that was seen, or for none
abbrev pub AsTouched : PlainStepOutcome → Option Touch → Type 0
AsTouched (Wants element request next) (Some touch) = IsSeenAs element request touch
AsTouched (Wants element request next) None = ⊥
AsTouched move (Some touch) = ⊥
AsTouched move None = Unit {0}

either_way : (b : Bool) (move other : PlainStepOutcome) → AsTouched move None → AsTouched other None
    → AsTouched (if b then move else other) None
either_way true move other h k = h
either_way false move other h k = k

called : (p : Plain) (callback : ℕ) (ctx : Option ℕ) (v : Validity) → AsTouched (plain_loop_call_step p callback ctx v)
    None
called p callback ctx (RefusedAs call) = tt
called p callback ctx (Valid n) = tt

-- what is so of each half, is so of the one that a byte is in
either_half : (P : Part → Type 0) (low : Bool) → ((half : Half) → P (Of half)) → P (if low then Of Low else Of High)
either_half P true each = each Low
either_half P false each = each High

-- a store of a half reads the other
stored : (width : Width) (element byte n : ℕ) → IsSeenAs element (store_of (part_named width byte) n)
    (record { element = element; looks = is_half width; writes = true; reduces = None })
stored W64 element byte n = λ word. refl
stored W32 element byte n = either_half (λ (part : Part). IsSeenAs element (store_of part n)
    (record { element = element; looks = true; writes = true; reduces = None })) (byte % 8 == 0) (λ half word. refl)

-- a change looks and writes, and where it loads nothing, it is a reduce
changed : (width : Width) (element byte : ℕ) (op : AtomicOp) (src operand compare : ℕ)
    → IsSeenAs element (request_of (part_named width byte) op src operand compare)
    (record { element = element; looks = true; writes = true; reduces = operator_of_change width op })
changed W64 element byte (Simple op) src operand compare = λ word. refl
changed W32 element byte (Simple op) src operand compare =
    either_half (λ (part : Part). IsSeenAs element (update_of part op operand)
    (record { element = element; looks = true; writes = true; reduces = Some (half_operator op) })) (byte % 8 == 0)
    (λ half word. refl)
changed width element byte op src operand compare = λ word. refl

pub as_touched : (op : IrOp) (p : Plain) → AsTouched (plain_step op p) (touched_by op p.registers)
unfolding plain_step
as_touched (JumpIf width compare dst operand target) p = search (rules, either_way)
as_touched (LoadFrame frame size extension dst position) p = search (rules, either_way)
as_touched (StoreFrame size position value) p = search (rules, either_way)
as_touched (ChangeFrame width op position src) p = search (rules, either_way)
as_touched (Lookup first count frame position) p = search (rules, either_way)
as_touched (CallLoop callback ctx) p = called p callback ctx (call_validity (word p 1) (word p 4))
as_touched (LoadElement width extension dst base offset) p = λ n. refl
as_touched (StoreElement width base offset value) p = stored width _ (byte_named (word p base) offset) _
as_touched (ChangeElement width op base offset src) p = changed width _ (byte_named (word p base) offset) op src _ _
as_touched op p = tt
