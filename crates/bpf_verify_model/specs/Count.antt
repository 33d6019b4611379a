-- How many instructions a function takes at most.
use Rattle.std.specs.Prelude.{◌≡◌, ℕ, ◌<◌, zero, suc, ◌+◌, max, List, slice_index_or, Option, Some, None}
use Rattle.bpf_insn_types.specs.{declared.insn.Insn.{Insn, TheVariants.{Ja, Ja32, Jump, Exit}}, Slots.{slots_of}}
use Rattle.bpf_insn_types.specs.Program.{insn_at, moved, slot_count, callback_starts}
use Rattle.bpf_verify_model.specs.Rules.{jump_distance, jump_target}

-- the most instructions after a jump, by those after each slot
abbrev pub behind_jump : (ℕ → ℕ) → Option ℕ → ℕ
behind_jump behind None = 0
behind_jump behind (Some target) = behind target

-- the most instructions from a slot on to an exit, over all jumps, by those from later slots on
abbrev pub through : (ℕ → ℕ) → ℕ → Option Insn → ℕ
through later slot None = 0
through later slot (Some (Ja offset)) = 1 + behind_jump later (moved (slot + 1) offset)
through later slot (Some (Ja32 imm)) = 1 + behind_jump later (moved (slot + 1) imm)
through later slot (Some (Jump width compare dst operand offset)) =
    1 + max (later (slot + 1)) (behind_jump later (moved (slot + 1) offset))
through later slot (Some Exit) = 1
through later slot (Some insn) = 1 + later (slot + slots_of insn)

-- the most instructions on any path from a slot on, up to this many
abbrev pub longest : List Insn → (left slot : ℕ) → ℕ
longest insns zero slot = 0
longest insns (suc left) slot = through (longest insns left) slot (insn_at insns slot)

-- where a function starts: main at slot 0, which is function 0
abbrev pub function_start : List Insn → ℕ → ℕ
function_start insns zero = 0
function_start insns (suc callback) = slice_index_or (callback_starts insns) callback 0

-- the worst-case instruction count of a function: its longest path from its start to an exit, over all jumps whether
-- they can be taken or not
unfoldable pub count_of : List Insn → ℕ → ℕ
count_of insns function = longest insns (slot_count insns) (function_start insns function)

-- each jump leads to a later slot
pub record JumpsForward (insns : List Insn) : Type 0 where
  pub later : (slot : ℕ) (insn : Insn) (target : ℕ) → insn_at insns slot ≡ Some insn →
      jump_target slot (jump_distance insn) ≡ Some target → slot < target
