-- Loops that run index by index.
use Rattle.std.proofs.Common.{◌≡◌, ℕ, suc, ◌+◌, ◌-◌, ◌<◌, ◌≤◌, ◌==◌, if◌then◌else◌, Option, Some, None, refl, sym}
use Rattle.std.proofs.Common.{◌∙◌, arith}
use Rattle.array_maps.specs.MapList.{MapList}
use Rattle.bpf_insn_types.specs.Program.{Program}
use Rattle.bpf_step_model.specs.{State.{LoopCall}, Run.{Ended}, Iteration.{Iterated, iteration}}
use Rattle.bpf_step.specs.Iterations.{RanCallback}
use Rattle.loop_core_sequential.specs.{Loops.{RanLoopInOrder}, Rests.{rest_to, RanOn, BrokeOff, RanTo, answer_of}}
use Rattle.loop_core_sequential.proofs.MapEffects.{map_effect, sizes_kept}

-- nothing was done
pub stayed : (program : Program) (call : LoopCall) (index : ℕ) (maps : MapList) → index ≤ call.n
    → RanOn program call index index maps maps
stayed program call index maps within = record {
  on = omega arith;
  within = within;
  rest = λ past over. refl;
  sizes = refl;
}

-- one after another
pub went_both : (program : Program) (call : LoopCall) (from mid to : ℕ) (old now new : MapList)
    → RanOn program call from mid old now → RanOn program call mid to now new → RanOn program call from to old new
went_both program call from mid to old now new first second = record {
  on = omega arith;
  within = second.within;
  rest = λ past over. first.rest past (omega arith) ∙ second.rest past over;
  sizes = second.sizes ∙ first.sizes;
}

pub ran_both : (program : Program) (call : LoopCall) (from mid to : ℕ) (old now new : MapList) (answer : Option ℕ)
    → RanOn program call from mid old now → RanTo program call mid to now new answer
    → RanTo program call from to old new answer
ran_both program call from mid to old now new (Some answer) first second = record {
  on = omega arith;
  rest = λ past over. first.rest past (omega arith) ∙ second.rest past over;
  sizes = second.sizes ∙ first.sizes;
}
ran_both program call from mid to old now new None first second = went_both program call from mid to old now new first
    second

-- what broke off before an index broke off before any later one
pub broke_before : (program : Program) (call : LoopCall) (from next to : ℕ) (old new : MapList) (answer : ℕ)
    → next ≤ to → BrokeOff program call from next old new answer → BrokeOff program call from to old new answer
broke_before program call from next to old new answer later broke = record {
  on = omega arith;
  rest = λ past over. broke.rest past (omega arith);
  sizes = broke.sizes;
}

-- an iteration on these maps ended with a number, and left others of the same sizes
pub record RanOne (program : Program) (call : LoopCall) (index : ℕ) (old : MapList) (ret : ℕ) (new : MapList) : Type 0
  where
    pub it : Iterated
    pub told : iteration program 4096 call index old.words ≡ Ended it
    pub returned : it.ret ≡ ret
    pub words : it.words ≡ new.words
    pub sizes : new.sizes ≡ old.sizes

pub of_callback : {program : Program} {call : LoopCall} {index ret steps : ℕ} {old new : MapList}
    → RanCallback (λ (maps : MapList). maps.words) map_effect program call index old ret steps new
    → RanOne program call index old ret new
of_callback {program} {call} {index} {ret} {steps} {old} {new} ran = record {
  it = ran.iterated;
  told = ran.told;
  returned = sym ran.ret_is;
  words = sym ran.words_are;
  sizes = sizes_kept old new ran.iterated.accesses ran.effects;
}

module _ {program : Program} {call : LoopCall} {from index ret : ℕ} {first now new : MapList}
    (went : RanOn program call from index first now) (one : RanOne program call index now ret new) where
  goes_on : (past : ℕ) → index < past → rest_to program call past from first.words
      ≡ (if ret == 1 then Ended (record { answer = index + 1; words = new.words })
      else rest_to program call past (index + 1) new.words)
  goes_on past over =
      let left : past - index ≡ suc (past - (index + 1)) = omega arith in
      went.rest past (omega arith) ∙ rw (left, one.told, one.returned, one.words) refl

  -- after an iteration that returns 0
  pub next : ret ≡ 0 → index < call.n → RanOn program call from (index + 1) first new
  next nought below = record {
    on = omega arith;
    within = omega arith;
    rest = λ past over. goes_on past (omega arith) ∙ rw nought refl;
    sizes = one.sizes ∙ went.sizes;
  }

  -- after one that breaks
  pub breaks : (to : ℕ) → index < to → ret ≡ 1 → BrokeOff program call from to first new (index + 1)
  breaks to before is = record {
    on = omega arith;
    rest = λ past over. goes_on past (omega arith) ∙ rw is refl;
    sizes = one.sizes ∙ went.sizes;
  }

-- all of it
pub ran_all : (program : Program) (call : LoopCall) (n : ℕ) (old new : MapList) (answer : Option ℕ) (given : ℕ)
    → n ≡ call.n → RanTo program call 0 n old new answer → given ≡ answer_of answer n
    → RanLoopInOrder program call old new given
ran_all program call n old new (Some answer) given all broke is =
    let whole : call.n - 0 ≡ call.n = omega arith in
    rw is (record { told = rw whole at (broke.rest call.n (omega arith)); kept = broke.sizes })
ran_all program call n old new None given all went is =
    let whole : call.n - 0 ≡ call.n = omega arith in
    let none_left : call.n - n ≡ 0 = omega arith in
    rw is (record { told = rw (whole, none_left) at (went.rest call.n (omega arith)); kept = went.sizes })
