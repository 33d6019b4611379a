-- The law of counts: a function's worst-case instruction count is its longest path.
use Rattle.std.specs.Prelude.{◌≡◌, ℕ, ◌+◌, ◌≤◌, true, false, nat_eq, List, [], ◌∷◌, length, Option, Some, None, is_some}
use Rattle.std.specs.{Prelude.{option_to_list}, List.{list_any}}
use Rattle.bpf_insn_types.specs.{declared.insn.Insn.{Insn, TheVariants.{Ja, Ja32, Jump, Exit}}, Slots.{slots_of}}
use Rattle.bpf_insn_types.specs.Program.{Program, insn_at, moved}
use Rattle.bpf_verify_model.specs.{Accepted.{Accepted}, Count.{function_start, count_of}}

-- the slots that an instruction at a slot may lead to, whether the edge can be taken or not
abbrev pub successors : ℕ → Option Insn → List ℕ
successors slot None = []
successors slot (Some (Ja offset)) = option_to_list (moved (slot + 1) offset)
successors slot (Some (Ja32 imm)) = option_to_list (moved (slot + 1) imm)
successors slot (Some (Jump width compare dst operand offset)) = (slot + 1) ∷ option_to_list (moved (slot + 1) offset)
successors slot (Some Exit) = []
successors slot (Some insn) = (slot + slots_of insn) ∷ []

-- a path from one of some slots: an instruction starts at each of its slots, and each is an edge out of the one before
abbrev pub IsPath : List Insn → (starts path : List ℕ) → Type 0
IsPath insns starts [] = Unit {0}
IsPath insns starts (slot ∷ path) =
    (list_any (nat_eq slot) starts ≡ true) × (is_some (insn_at insns slot) ≡ true)
    × IsPath insns (successors slot (insn_at insns slot)) path

-- the slots after a path from one of some slots: the edges out of its last slot, of which an exit has none
abbrev pub successors_of_path : List Insn → (starts path : List ℕ) → List ℕ
successors_of_path insns starts [] = starts
successors_of_path insns starts (slot ∷ path) = successors_of_path insns (successors slot (insn_at insns slot)) path

-- a path from a slot that has n slots, and ends at an exit or where none goes on: no instruction starts after it
pub record PathOf (insns : List Insn) (slot count : ℕ) : Type 0 where
  pub path : List ℕ
  pub is_path : IsPath insns (slot ∷ []) path
  pub long : length path ≡ count
  pub ends : list_any (λ next. is_some (insn_at insns next)) (successors_of_path insns (slot ∷ []) path) ≡ false

-- of each function of an accepted program some path from its start to an end has its worst-case instruction count, and
-- none has more
pub record CountIsLongestPath : Type 0 where
  pub some_path : (program : Program) → Accepted program → (function : ℕ) →
      PathOf program.insns (function_start program.insns function) (count_of program.insns function)
  pub none_longer : (program : Program) → Accepted program → (function : ℕ) (path : List ℕ) →
      IsPath program.insns (function_start program.insns function ∷ []) path → length path ≤ count_of program.insns
      function
