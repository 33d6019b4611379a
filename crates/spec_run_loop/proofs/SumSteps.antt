-- Where an operation that adds up leads, and what it asks for.
use Rattle.std.proofs.Common.{◌≡◌, ℕ, ◌+◌, ◌≤◌, ◌<◌, Bool, true, false, Option, Some, None, refl, arith}
use Rattle.std.{specs.Prelude.{nat_le, nat_lt, if◌then◌else◌}, proofs.lemmas.Bool.{leb-true, ltb-true}}
use Rattle.bpf_insn_types.specs.{declared.insn.Width.TheVariants.{W32, W64}, Sizes.{bytes_of, atomic_bytes}}
use Rattle.bpf_insn_types.specs.{declared.insn.AtomicOp.TheVariants.{Simple, Fetch, Xchg, Cmpxchg}, Words.{holds}}
use Rattle.array_maps.specs.declared.access.Op.{Op}
use Rattle.loop_core_model.{specs.Actions.{reduces_by}, proofs.OneElement.{and_true_left, and_true_right}}
use Rattle.bpf_step_model.specs.{AtomicRegisters.{told_register}, LoopCalls.{Validity, RefusedAs, Valid, call_validity}}
use Rattle.bpf_step_model.specs.{Run.{action_of}}
use Rattle.bpf_step_ir.specs.declared.ir_op.IrOp.{IrOp, TheVariants.{LoadElement, StoreElement, ChangeElement, Lookup}}
use Rattle.bpf_step_ir.specs.declared.ir_op.IrOp.TheVariants.{CallLoop, Stop, SetWide, Jump}
use Rattle.bpf_step_ir.specs.declared.ir_op.IrOp.TheVariants.{JumpIf, Exit, LoadFrame, StoreFrame, ChangeFrame}
use Rattle.bpf_step_ir.specs.Plain.{Plain, word, plain_operand, further, landed}
use Rattle.bpf_step_ir.specs.Plain.{PlainStepOutcome, Halts, Goes, Wants, CallsLoop, RefusesLoop, Ends}
use Rattle.bpf_step_ir.specs.Plain.{plain_puts, plain_loop_call_step}
use Rattle.bpf_step_ir.specs.Plain.{plain_step, plain_after_request}
use Rattle.spec_run_loop.specs.SumOps.{is_between, keeps_to, stays_within}

-- a machine is at one of the slots from one up to, and without, another
pub record IsAt (from past : ℕ) (p : Plain) : Type 0 where
  pub low : from ≤ p.slot
  pub high : p.slot < past

module _ (op : Op) (from past : ℕ) where
  -- an operation leads to these slots alone, and asks for a reduce by this operator, if for anything, whatever word is
  -- at the element
  abbrev pub LeadsReducing : PlainStepOutcome → Type 0
  LeadsReducing Halts = Unit {0}
  LeadsReducing (Goes next) = IsAt from past next
  LeadsReducing (Wants element request next) = (word : ℕ) → (reduces_by op (action_of request word) ≡ true)
      × IsAt from past (plain_after_request request word next)
  LeadsReducing (CallsLoop callback n ctx next) = Unit {0}
  LeadsReducing (RefusesLoop call next) = Unit {0}
  LeadsReducing (Ends ret) = Unit {0}

  -- behind a slot, and at a target
  behind : (slot step : ℕ) (next : Plain) → from ≤ slot → next.slot ≡ slot + step → nat_lt (slot + step) past ≡ true
      → IsAt from past next
  behind slot step next low is stays =
      let high = ltb-true (slot + step) past stays in
      record { low = omega (arith, low, is); high = omega (arith, high, is) }

  at_target : (target : ℕ) (next : Plain) → next.slot ≡ target → is_between from past target ≡ true
      → IsAt from past next
  at_target target next is between =
      let low = leb-true from target (and_true_left (nat_le from target) (nat_lt target past) between) in
      let high = ltb-true target past (and_true_right (nat_le from target) (nat_lt target past) between) in
      record { low = omega (arith, low, is); high = omega (arith, high, is) }

  -- where a test holds, or else not
  if_goes : (test : Bool) (next : Plain) → IsAt from past next → LeadsReducing (if test then Goes next else Halts)
  if_goes true next at = at
  if_goes false next at = tt

  either_goes : (test : Bool) (next other : Plain) → IsAt from past next → IsAt from past other
      → LeadsReducing (if test then Goes next else Goes other)
  either_goes true next other at at_other = at
  either_goes false next other at at_other = at_other

  -- a word that is told changes no slot
  puts_at : (told : Option ℕ) (word : ℕ) (next : Plain) → IsAt from past next → IsAt from past
      (plain_puts told word next)
  puts_at None word next at = at
  puts_at (Some r) word next at = record { low = at.low; high = at.high }

  calls : (p : Plain) (callback : ℕ) (ctx : Option ℕ) (validity : Validity)
      → LeadsReducing (plain_loop_call_step p callback ctx validity)
  calls p callback ctx (RefusedAs call) = tt
  calls p callback ctx (Valid n) = tt

  pub op_leads : (at : IrOp) (p : Plain) → from ≤ p.slot → keeps_to op at ≡ true
      → stays_within from past p.slot at ≡ true → LeadsReducing (plain_step at p)
  unfolding plain_step
  op_leads Stop p low keeps stays = tt
  op_leads (SetWide dst number) p low keeps stays = behind p.slot 2 _ low refl stays
  op_leads (Jump target) p low keeps stays = at_target target _ refl stays
  op_leads (JumpIf width compare dst operand target) p low keeps stays =
      either_goes (holds width compare (word p dst) (plain_operand p operand)) (landed target p) (further 1 p)
      (at_target target (landed target p) refl (and_true_left (is_between from past target) (nat_lt (p.slot + 1) past)
      stays))
      (behind p.slot 1 (further 1 p) low refl (and_true_right (is_between from past target) (nat_lt (p.slot + 1) past)
      stays))
  op_leads Exit p low keeps stays = tt
  op_leads (LoadFrame frame size extension dst position) p low keeps stays =
      if_goes (nat_le (position + bytes_of size) 512) _ (behind p.slot 1 _ low refl stays)
  op_leads (StoreFrame size position value) p low keeps stays =
      if_goes (nat_le (position + bytes_of size) 512) _ (behind p.slot 1 _ low refl stays)
  op_leads (ChangeFrame width atomic position src) p low keeps stays =
      if_goes (nat_le (position + atomic_bytes width) 512) _
      (puts_at (told_register atomic src) _ _ (behind p.slot 1 _ low refl stays))
  op_leads (LoadElement width extension dst base offset) p low keeps stays = absurd (cc)
  op_leads (StoreElement width base offset value) p low keeps stays = absurd (cc)
  op_leads (ChangeElement W32 atomic base offset src) p low keeps stays = absurd (cc)
  op_leads (ChangeElement W64 (Simple simple) base offset src) p low keeps stays =
      λ word. (keeps, behind p.slot 1 _ low refl stays)
  op_leads (ChangeElement W64 (Fetch simple) base offset src) p low keeps stays = absurd (cc)
  op_leads (ChangeElement W64 Xchg base offset src) p low keeps stays = absurd (cc)
  op_leads (ChangeElement W64 Cmpxchg base offset src) p low keeps stays = absurd (cc)
  op_leads (Lookup first count frame position) p low keeps stays =
      if_goes (nat_le (position + 4) 512) _ (behind p.slot 1 _ low refl stays)
  op_leads (CallLoop callback ctx) p low keeps stays = calls p callback ctx (call_validity (word p 1) (word p 4))
  op_leads at p low keeps stays = behind p.slot 1 _ low refl stays
