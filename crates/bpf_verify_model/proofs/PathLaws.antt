-- Paths: the longest has as many slots as `longest` says.
use Rattle.std.proofs.Common.{◌≡◌, ℕ, zero, suc, ◌+◌, ◌-◌, ◌<◌, ◌≤◌, max, Bool, true, false, ◌||◌, List, [], ◌∷◌, ◌++◌}
use Rattle.std.proofs.Common.{length, refl, ap, sym, ◌∙◌, subst, arith, Option, Some, None, is_some}
use Rattle.std.specs.{Prelude.{nat_eq, nat_le, option_to_list, if◌then◌else◌}, List.{list_any}}
use Rattle.std.proofs.lemmas.{Bool.Decides.{nat_tests}, List.{length-append}}
use Rattle.bpf_insn_types.specs.{declared.insn.Insn.{Insn, TheVariants.{Ja, Ja32, Jump, Exit}}, Slots.{slots_of}}
use Rattle.bpf_insn_types.specs.Program.{Program, slot_count, insn_at, moved}
use Rattle.bpf_verify_model.specs.Count.{behind_jump, through, longest, function_start, count_of, JumpsForward}
use Rattle.bpf_verify_model.{specs.declared.rule.Rule.TheVariants.{NoSlot, OverLimits}, proofs.JumpLaws.{jumps_forward}}
use Rattle.bpf_verify_model.specs.Accepted.{Accepted, first_fault, fault_within, is_too_large}
use Rattle.bpf_verify_model.specs.LongestPath.{successors, IsPath, successors_of_path, CountIsLongestPath}
use Rattle.bpf_verify_model.proofs.LongestLaws.{longest-step}

-- a path from one of some slots, and of how many
record PathFrom (insns : List Insn) (starts : List ℕ) (count : ℕ) : Type 0 where
  path : List ℕ
  is_path : IsPath insns starts path
  long : length path ≡ count

no_path : (insns : List Insn) (starts : List ℕ) → PathFrom insns starts 0
no_path insns starts = record { path = []; is_path = tt; long = refl }

-- from a slot that is among others
from_one : (insns : List Insn) (slot count : ℕ) (starts : List ℕ) → list_any (nat_eq slot) starts ≡ true →
    PathFrom insns (slot ∷ []) count → PathFrom insns starts count
from_one insns slot count starts among p = by_path insns slot count starts among p.path p.is_path p.long
  where
    by_path : (insns : List Insn) (slot count : ℕ) (starts : List ℕ) → list_any (nat_eq slot) starts ≡ true →
        (path : List ℕ) → IsPath insns (slot ∷ []) path → length path ≡ count → PathFrom insns starts count
    by_path insns slot count starts among [] is long = record { path = []; is_path = tt; long = long }
    by_path insns slot count starts among (s ∷ path) is long =
        let same : s ≡ slot = the_one (nat_eq s slot) refl is.0 in
        record {
          path = s ∷ path;
          is_path = (ap (λ (k : ℕ). list_any (nat_eq k) starts) same ∙ among, is.1, is.2);
          long = long;
        }
      where
        the_one : (b : Bool) → nat_eq s slot ≡ b → (b || false) ≡ true → s ≡ slot
        the_one true e h = grind (arith, nat_tests)
        the_one false e h = cc

same_slot : (slot : ℕ) → nat_eq slot slot ≡ true
same_slot slot = grind (arith, nat_tests)

first_among : (slot : ℕ) (slots : List ℕ) → list_any (nat_eq slot) (slot ∷ slots) ≡ true
first_among slot slots = ap (λ (b : Bool). b || list_any (nat_eq slot) slots) (same_slot slot)

second_among : (first slot : ℕ) → list_any (nat_eq slot) (first ∷ slot ∷ []) ≡ true
second_among first slot = ap (λ (b : Bool). nat_eq slot first || (b || false)) (same_slot slot)
    ∙ or_true (nat_eq slot first)
  where
    or_true : (b : Bool) → (b || true) ≡ true
    or_true true = refl
    or_true false = refl

-- one slot before a path
before_path : (insns : List Insn) (slot count : ℕ) (insn : Insn) → insn_at insns slot ≡ Some insn →
    PathFrom insns (successors slot (Some insn)) count → PathFrom insns (slot ∷ []) (1 + count)
before_path insns slot count insn here p = record {
  path = slot ∷ p.path;
  is_path = (
    first_among slot [],
    ap is_some here,
    subst (λ (i : Option Insn). IsPath insns (successors slot i) p.path)
        (sym here) p.is_path,
  );
  long = ap suc p.long ∙ (let e : suc count ≡ 1 + count = omega arith in e);
}

-- through an instruction, by the paths from later slots
from_target : (insns : List Insn) (f : ℕ → ℕ) (target : Option ℕ) → ((s : ℕ) → PathFrom insns (s ∷ []) (f s)) →
    PathFrom insns (option_to_list target) (behind_jump f target)
from_target insns f None paths = no_path insns []
from_target insns f (Some target) paths = paths target

from_either : (insns : List Insn) (f : ℕ → ℕ) (slot : ℕ) (target : Option ℕ) → ((s : ℕ) → PathFrom insns (s ∷ []) (f s))
    →
    PathFrom insns (slot ∷ option_to_list target) (max (f slot) (behind_jump f target))
from_either insns f slot None paths =
    let e : f slot ≡ max (f slot) 0 = omega arith in
    subst (PathFrom insns (slot ∷ [])) e (paths slot)
from_either insns f slot (Some target) paths = greater insns f slot target paths (nat_le (f slot) (f target)) refl
  where
    greater : (insns : List Insn) (f : ℕ → ℕ) (slot target : ℕ) → ((s : ℕ) → PathFrom insns (s ∷ []) (f s)) → (b : Bool)
        → nat_le (f slot) (f target) ≡ b →
        PathFrom insns (slot ∷ target ∷ []) (max (f slot) (f target))
    greater insns f slot target paths true e =
        let le : f slot ≤ f target = grind (arith, nat_tests) in
        let is : f target ≡ max (f slot) (f target) = omega (arith, le) in
        subst (PathFrom insns (slot ∷ target ∷ [])) is (from_one insns target (f target) (slot ∷ target ∷ [])
        (second_among slot target) (paths target))
    greater insns f slot target paths false e =
        let lt : f target < f slot = grind (arith, nat_tests) in
        let is : f slot ≡ max (f slot) (f target) = omega (arith, lt) in
        subst (PathFrom insns (slot ∷ target ∷ [])) is (from_one insns slot (f slot) (slot ∷ target ∷ [])
        (first_among slot (target ∷ [])) (paths slot))

from_ways : (insns : List Insn) (f : ℕ → ℕ) (slot : ℕ) (i : Option Insn) → insn_at insns slot ≡ i
    → ((s : ℕ) → PathFrom insns (s ∷ []) (f s)) →
    PathFrom insns (slot ∷ []) (through f slot i)
from_ways insns f slot None here paths = no_path insns (slot ∷ [])
from_ways insns f slot (Some (Ja offset)) here paths =
    before_path insns slot (behind_jump f (moved (slot + 1) offset)) (Ja offset) here
    (from_target insns f (moved (slot + 1) offset) paths)
from_ways insns f slot (Some (Ja32 imm)) here paths =
    before_path insns slot (behind_jump f (moved (slot + 1) imm)) (Ja32 imm) here
    (from_target insns f (moved (slot + 1) imm) paths)
from_ways insns f slot (Some (Jump width compare dst operand offset)) here paths =
    before_path insns slot (max (f (slot + 1)) (behind_jump f (moved (slot + 1) offset)))
    (Jump width compare dst operand offset) here
    (from_either insns f (slot + 1) (moved (slot + 1) offset) paths)
from_ways insns f slot (Some Exit) here paths = before_path insns slot 0 Exit here (no_path insns [])
from_ways insns f slot (Some insn) here paths = before_path insns slot (f (slot + slots_of insn)) insn here
    (paths (slot + slots_of insn))

-- some path is as long
path_of : (insns : List Insn) (left slot : ℕ) → PathFrom insns (slot ∷ []) (longest insns left slot)
path_of insns zero slot = no_path insns (slot ∷ [])
path_of insns (suc left) slot = from_ways insns (longest insns left) slot (insn_at insns slot) refl (path_of insns left)

-- an edge out isn't longer than what is through the instruction, less one
one_below : (f : ℕ → ℕ) (s t k : ℕ) (b : Bool) → nat_eq s t ≡ b → (b || false) ≡ true → f t ≤ k → f s ≤ k
one_below f s t k true e among h =
    let same : s ≡ t = grind (arith, nat_tests) in
    subst (λ (j : ℕ). f j ≤ k) (sym same) h
one_below f s t k false e among h = cc

target_below : (f : ℕ → ℕ) (s k : ℕ) (t : Option ℕ) → list_any (nat_eq s) (option_to_list t) ≡ true
    → behind_jump f t ≤ k → f s ≤ k
target_below f s k None among h = cc
target_below f s k (Some t) among h = one_below f s t k (nat_eq s t) refl among h

either_below : (f : ℕ → ℕ) (s a k : ℕ) (t : Option ℕ) (b : Bool) → nat_eq s a ≡ b
    → (b || list_any (nat_eq s) (option_to_list t)) ≡ true →
    f a ≤ k → behind_jump f t ≤ k → f s ≤ k
either_below f s a k t true e among h g = one_below f s a k true e refl h
either_below f s a k t false e among h g = target_below f s k t among g

way-below : (f : ℕ → ℕ) (slot s k : ℕ) (insn : Insn) → list_any (nat_eq s) (successors slot (Some insn)) ≡ true
    → through f slot (Some insn) ≤ 1 + k → f s ≤ k
way-below f slot s k (Ja offset) among is = target_below f s k (moved (slot + 1) offset) among (omega (arith, is))
way-below f slot s k (Ja32 imm) among is = target_below f s k (moved (slot + 1) imm) among (omega (arith, is))
way-below f slot s k (Jump width compare dst operand offset) among is =
    either_below f s (slot + 1) k (moved (slot + 1) offset) (nat_eq s (slot + 1)) refl among (omega (arith, is))
    (omega (arith, is))
way-below f slot s k Exit among is = cc
way-below f slot s k insn among is = one_below f s (slot + slots_of insn) k (nat_eq s (slot + slots_of insn)) refl among
    (omega (arith, is))

-- a path through an instruction is at least one instruction long
pub through-some : (f : ℕ → ℕ) (slot : ℕ) (insn : Insn) → 1 ≤ through f slot (Some insn)
through-some f slot (Ja offset) = omega arith
through-some f slot (Ja32 imm) = omega arith
through-some f slot (Jump width compare dst operand offset) = omega arith
through-some f slot Exit = omega arith
through-some f slot insn = omega arith

-- no path is longer
none_longer : (insns : List Insn) (n : ℕ) → JumpsForward insns → slot_count insns ≡ n → 0 < n
    → (path starts : List ℕ) (m : ℕ) → IsPath insns starts path →
    ((s : ℕ) → list_any (nat_eq s) starts ≡ true → longest insns n s ≤ m) → length path ≤ m
none_longer insns n forward counted some [] starts m is below = omega arith
none_longer insns n forward counted some (slot ∷ path) starts m is below =
    by_insn insns n slot path m forward counted some (below slot is.0) (insn_at insns slot) refl is.1 is.2
    (none_longer insns n forward counted some path)
  where
    by_insn : (insns : List Insn) (n slot : ℕ) (path : List ℕ) (m : ℕ) → JumpsForward insns → slot_count insns ≡ n
        → 0 < n → longest insns n slot ≤ m →
        (i : Option Insn) → insn_at insns slot ≡ i → is_some (insn_at insns slot) ≡ true
        → IsPath insns (successors slot (insn_at insns slot)) path →
        ((starts : List ℕ) (k : ℕ) → IsPath insns starts path → ((s : ℕ) → list_any (nat_eq s) starts ≡ true
        → longest insns n s ≤ k) → length path ≤ k) →
        suc (length path) ≤ m
    by_insn insns n slot path m forward counted some below None here starts_here behind go = absurd cc
    by_insn insns n slot path m forward counted some below (Some insn) here starts_here behind go =
        let step : longest insns n slot ≡ through (longest insns n) slot (Some insn) =
        longest-step insns n slot (Some insn) forward counted some here in
        let low : 1 ≤ through (longest insns n) slot (Some insn) = through-some (longest insns n) slot insn in
        let most : through (longest insns n) slot (Some insn) ≤ 1 + (through (longest insns n) slot (Some insn) - 1) =
        omega (arith, low) in
        let rest : length path ≤ through (longest insns n) slot (Some insn) - 1 =
        go (successors slot (Some insn)) (through (longest insns n) slot (Some insn) - 1)
        (subst (λ (i : Option Insn). IsPath insns (successors slot i) path) here behind)
        (λ s among. way-below (longest insns n) slot s (through (longest insns n) slot (Some insn) - 1) insn among most)
        in
        omega (arith, step, low, rest, below)

-- what an accepted program is
record Runs (program : Program) : Type 0 where
  some : 0 < slot_count program.insns
  forward : JumpsForward program.insns

accepted-runs : (program : Program) → Accepted program → Runs program
unfolding first_fault
accepted-runs program accepted = by_tests (nat_eq (slot_count program.insns) 0) refl (is_too_large program) accepted
  where
    by_tests : (a : Bool) → nat_eq (slot_count program.insns) 0 ≡ a → (b : Bool) →
        (if a then Some (record { rule = NoSlot; slot = 0 }) else if b
        then Some (record { rule = OverLimits; slot = 0 }) else fault_within program (slot_count program.insns))
        ≡ None →
        Runs program
    by_tests true e b fine = absurd cc
    by_tests false e true fine = absurd cc
    by_tests false e false fine = record {
      some = grind (arith, nat_tests);
      forward = jumps_forward program (slot_count program.insns) refl fine;
    }

le_refl : (n : ℕ) → n ≤ n
le_refl n = omega arith

-- a slot that passes a test, among others
record Among (test : ℕ → Bool) (slots : List ℕ) : Type 0 where
  slot : ℕ
  passes : test slot ≡ true
  among : list_any (nat_eq slot) slots ≡ true

or_any : {c : Bool} (b : Bool) → c ≡ true → (b || c) ≡ true
or_any true h = refl
or_any false h = h

some_among : (test : ℕ → Bool) (slots : List ℕ) → list_any test slots ≡ true → Among test slots
some_among test [] some = absurd cc
some_among test (slot ∷ slots) some = by_test (test slot) refl (λ rest. some_among test slots rest) some
  where
    by_test : (b : Bool) → test slot ≡ b → (list_any test slots ≡ true → Among test slots) → (b || list_any test slots)
        ≡ true → Among test (slot ∷ slots)
    by_test true passes go some = record { slot = slot; passes = passes; among = first_among slot slots }
    by_test false fails go some = let other : Among test slots =
        go some in record {
          slot = other.slot;
          passes = other.passes;
          among = or_any (nat_eq other.slot slot)
              other.among;
        }

-- a path and one slot more
longer : (insns : List Insn) (starts path : List ℕ) (slot : ℕ) → IsPath insns starts path
    → list_any (nat_eq slot) (successors_of_path insns starts path) ≡ true →
    is_some (insn_at insns slot) ≡ true → IsPath insns starts (path ++ slot ∷ [])
longer insns starts [] slot is among here = (among, here, tt)
longer insns starts (first ∷ path) slot is among here =
    (is.0, is.1, longer insns (successors first (insn_at insns first)) path slot is.2 among here)

-- the longest path ends
longest-ends : (insns : List Insn) (starts path : List ℕ) → IsPath insns starts path
    → ((other : List ℕ) → IsPath insns starts other → length other ≤ length path) →
    list_any (λ next. is_some (insn_at insns next)) (successors_of_path insns starts path) ≡ false
longest-ends insns starts path is most =
    by_test (list_any (λ next. is_some (insn_at insns next)) (successors_of_path insns starts path)) refl
  where
    by_test : (b : Bool) → list_any (λ next. is_some (insn_at insns next)) (successors_of_path insns starts path) ≡ b
        → b ≡ false
    by_test false e = refl
    by_test true e =
        let next : Among (λ slot. is_some (insn_at insns slot)) (successors_of_path insns starts path) =
        some_among (λ slot. is_some (insn_at insns slot)) (successors_of_path insns starts path) e in
        let more : length (path ++ next.slot ∷ []) ≤ length path =
        most (path ++ next.slot ∷ []) (longer insns starts path next.slot is next.among next.passes) in
        absurd (omega (arith, more, length-append path (next.slot ∷ [])))

-- of an accepted program no path of a function is longer than its count
none_above : (program : Program) → Accepted program → (function : ℕ) (path : List ℕ)
    → IsPath program.insns (function_start program.insns function ∷ []) path →
    length path ≤ longest program.insns (slot_count program.insns) (function_start program.insns function)
none_above program accepted function path is =
    let runs : Runs program = accepted-runs program accepted in
    none_longer program.insns (slot_count program.insns) runs.forward refl runs.some path
    (function_start program.insns function ∷ [])
    (longest program.insns (slot_count program.insns) (function_start program.insns function)) is
    (λ s among. one_below (longest program.insns (slot_count program.insns)) s (function_start program.insns function)
    (longest program.insns (slot_count program.insns) (function_start program.insns function))
    (nat_eq s (function_start program.insns function)) refl among
    (le_refl (longest program.insns (slot_count program.insns) (function_start program.insns function))))

pub count_is_longest_path : CountIsLongestPath
unfolding count_of
count_is_longest_path = record {
  some_path = λ program accepted function.
      let p : PathFrom program.insns (function_start program.insns function ∷ [])
      (longest program.insns (slot_count program.insns) (function_start program.insns function)) =
      path_of program.insns (slot_count program.insns) (function_start program.insns function) in
      record {
        path = p.path;
        is_path = p.is_path;
        long = p.long;
        ends = longest-ends program.insns (function_start program.insns function ∷ []) p.path p.is_path
            (λ other is. subst (λ (m : ℕ). length other ≤ m) (sym p.long) (none_above program accepted function other
            is));
      };
  none_longer = none_above;
}
