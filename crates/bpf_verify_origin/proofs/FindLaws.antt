-- The instructions by the slots at which they start.
use Rattle.std.proofs.Common.{◌≡◌, ℕ, zero, suc, ◌+◌, ◌-◌, ◌<◌, ◌≤◌, List, [], ◌∷◌, ◌++◌, drop, length, get_or, refl}
use Rattle.std.proofs.Common.{ap, sym, ◌∙◌, arith, append_assoc, append-nil, take, Option, Some, None}
use Rattle.std.proofs.lemmas.List.{drop_more, drop_all}
use Rattle.bpf_insn_types.specs.{declared.insn.Insn.{Insn, TheVariants.{LoadImm}}, Program.{insn_at}, Slots.{slots_of}}
use Rattle.bpf_insn_types.proofs.ProgramLaws.{insn_at-past_first}

-- the slots of an instruction: it starts at the first, and none does at a second
abbrev pub insn_slots : Insn → List (Option Insn)
insn_slots insn = take (slots_of insn) (Some insn ∷ None ∷ [])

-- for each slot of instructions the one that starts there
unfoldable pub by_slot : List Insn → List (Option Insn)
by_slot [] = []
by_slot (insn ∷ insns) = insn_slots insn ++ by_slot insns

-- one instruction more
pub by_slot-more : (table : List (Option Insn)) (xs : List Insn) (i : ℕ) (x : Insn) → i < length xs → x ≡ get_or xs i x
    → (table ++ insn_slots x) ++ by_slot (drop (i + 1) xs) ≡ table ++ by_slot (drop i xs)
unfolding by_slot
by_slot-more table xs i x h e =
    rw (drop_more xs i x h, ← e, append_assoc table (insn_slots x) (by_slot (drop (i + 1) xs))) refl

pub by_slot-next : (table next more : List (Option Insn)) (xs : List Insn) (i n : ℕ) (x : Insn) → i < length xs
    → x ≡ get_or xs i x → next ≡ table ++ more → more ≡ take n (Some x ∷ None ∷ []) → n ≡ slots_of x
    → table ++ by_slot (drop i xs) ≡ by_slot xs → next ++ by_slot (drop (i + 1) xs) ≡ by_slot xs
by_slot-next table next more xs i n x h e put is long so_far = rw (put, is, long, by_slot-more table xs i x h e) so_far

-- none is left
pub by_slot-all : (table : List (Option Insn)) (xs : List Insn) (i : ℕ) → length xs ≤ i → table ++ by_slot (drop i xs)
    ≡ table
unfolding by_slot
by_slot-all table xs i h = rw (drop_all i xs h, append-nil table) refl

-- what is at a slot
pub by_slot-at : (insns : List Insn) (slot : ℕ) → get_or (by_slot insns) slot None ≡ insn_at insns slot
unfolding by_slot
by_slot-at [] zero = refl
by_slot-at [] (suc slot) = refl
by_slot-at (LoadImm kind dst imm next_imm ∷ insns) zero = refl
by_slot-at (LoadImm kind dst imm next_imm ∷ insns) (suc zero) = refl
by_slot-at (LoadImm kind dst imm next_imm ∷ insns) (suc (suc slot)) =
    let e : slot ≡ suc (suc slot) - 2 = omega arith in
    by_slot-at insns slot ∙ ap (insn_at insns) e
    ∙ sym (insn_at-past_first (LoadImm kind dst imm next_imm) insns (suc (suc slot)) (omega arith))
by_slot-at (insn ∷ insns) zero = refl
by_slot-at (insn ∷ insns) (suc slot) =
    let e : slot ≡ suc slot - 1 = omega arith in
    by_slot-at insns slot ∙ ap (insn_at insns) e ∙ sym (insn_at-past_first insn insns (suc slot) (omega arith))
