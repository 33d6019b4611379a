-- Longest paths: past the end there is none, what is known of later slots alone matters, and one isn't longer than
-- there are slots.
use Rattle.std.proofs.Common.{◌≡◌, ℕ, zero, suc, ◌+◌, ◌<◌, ◌≤◌, max, List, refl, ap, sym, ◌∙◌, arith, Option, Some}
use Rattle.std.proofs.Common.{None}
use Rattle.bpf_insn_types.specs.{declared.insn.Insn.{Insn, TheVariants.{Ja, Ja32, Jump, Exit}}, Slots.{slots_of}}
use Rattle.bpf_insn_types.{specs.Program.{slot_count, insn_at, moved}, proofs.ProgramLaws.{slots_some, insn_at-end}}
use Rattle.bpf_verify_model.specs.Rules.{jump_distance, jump_target}
use Rattle.bpf_verify_model.specs.Count.{behind_jump, through, longest, JumpsForward}

behind-congr : (f g : ℕ → ℕ) (slot : ℕ) (t : Option ℕ) → ((k : ℕ) → slot + 1 ≤ k → f k ≡ g k)
    → ((target : ℕ) → t ≡ Some target → slot < target) →
    behind_jump f t ≡ behind_jump g t
behind-congr f g slot None same forward = refl
behind-congr f g slot (Some target) same forward =
    let later : slot < target = forward target refl in
    same target (omega (arith, later))

-- what is known of later slots alone matters
pub through-congr : (f g : ℕ → ℕ) (slot : ℕ) (insn : Insn) → ((k : ℕ) → slot + slots_of insn ≤ k → f k ≡ g k) →
    ((target : ℕ) → jump_target slot (jump_distance insn) ≡ Some target → slot < target) → through f slot (Some insn)
    ≡ through g slot (Some insn)
through-congr f g slot (Ja offset) same forward =
    ap (λ (n : ℕ). 1 + n) (behind-congr f g slot (moved (slot + 1) offset) same forward)
through-congr f g slot (Ja32 imm) same forward =
    ap (λ (n : ℕ). 1 + n) (behind-congr f g slot (moved (slot + 1) imm) same forward)
through-congr f g slot (Jump width compare dst operand offset) same forward =
    ap (λ (n : ℕ). 1 + max n (behind_jump f (moved (slot + 1) offset))) (same (slot + 1) (omega arith))
    ∙ ap (λ (n : ℕ). 1 + max (g (slot + 1)) n) (behind-congr f g slot (moved (slot + 1) offset) same forward)
through-congr f g slot Exit same forward = refl
through-congr f g slot insn same forward = ap (λ (n : ℕ). 1 + n) (same (slot + slots_of insn) (omega arith))

through-congr-any : (insns : List Insn) (f g : ℕ → ℕ) (slot : ℕ) (i : Option Insn) → i ≡ insn_at insns slot
    → JumpsForward insns →
    ((k : ℕ) → slot < k → f k ≡ g k) → through f slot i ≡ through g slot i
through-congr-any insns f g slot None here forward same = refl
through-congr-any insns f g slot (Some insn) here forward same =
    through-congr f g slot insn (λ k h. same k (omega (arith, slots_some insn, h))) (λ target jump_outflow.
    forward.later slot insn target (sym here) jump_outflow)

-- past the end there is none
pub longest-end : (insns : List Insn) (left slot : ℕ) → slot_count insns ≤ slot → longest insns left slot ≡ 0
longest-end insns zero slot h = refl
longest-end insns (suc left) slot h = ap (through (longest insns left) slot) (insn_at-end insns slot h)

-- more slots than are left give nothing more
longest-stable : (insns : List Insn) (left slot : ℕ) → JumpsForward insns → slot_count insns ≤ left + slot
    → longest insns left slot ≡ longest insns (suc left) slot
longest-stable insns zero slot forward h = sym (longest-end insns 1 slot (omega arith))
longest-stable insns (suc left) slot forward h =
    through-congr-any insns (longest insns left) (longest insns (suc left)) slot (insn_at insns slot) refl forward
    (λ k m. longest-stable insns left k forward (omega (arith, h, m)))

-- one step from a slot on
pub longest-step : (insns : List Insn) (n slot : ℕ) (i : Option Insn) → JumpsForward insns → slot_count insns ≡ n
    → 0 < n → insn_at insns slot ≡ i →
    longest insns n slot ≡ through (longest insns n) slot i
longest-step insns zero slot i forward counted some here = absurd (omega arith)
longest-step insns (suc m) slot i forward counted some here =
    through-congr-any insns (longest insns m) (longest insns (suc m)) slot (insn_at insns slot) refl forward
    (λ k h. longest-stable insns m k forward (omega (arith, h, counted)))
    ∙ ap (through (longest insns (suc m)) slot) here

-- it isn't more than the slots
behind-small : (f : ℕ → ℕ) (m : ℕ) (t : Option ℕ) → ((k : ℕ) → f k ≤ m) → behind_jump f t ≤ m
behind-small f m None small = omega arith
behind-small f m (Some target) small = small target

through-small : (f : ℕ → ℕ) (m slot : ℕ) (i : Option Insn) → ((k : ℕ) → f k ≤ m) → through f slot i ≤ suc m
through-small f m slot None small = omega arith
through-small f m slot (Some (Ja offset)) small = omega (arith, behind-small f m (moved (slot + 1) offset) small)
through-small f m slot (Some (Ja32 imm)) small = omega (arith, behind-small f m (moved (slot + 1) imm) small)
through-small f m slot (Some (Jump width compare dst operand offset)) small =
    omega (arith, small (slot + 1), behind-small f m (moved (slot + 1) offset) small)
through-small f m slot (Some Exit) small = omega arith
through-small f m slot (Some insn) small = omega (arith, small (slot + slots_of insn))

pub longest-small : (insns : List Insn) (left slot : ℕ) → longest insns left slot ≤ left
longest-small insns zero slot = omega arith
longest-small insns (suc left) slot = through-small (longest insns left) left slot (insn_at insns slot)
    (longest-small insns left)
