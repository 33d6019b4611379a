-- Lines of hex digits, a slot at a time.
use Rattle.std.proofs.Common.{◌≡◌, ℕ, ◌<◌, ◌≤◌, List, [], ◌∷◌, ◌++◌, length, take, drop, codes, refl, arith}
use Rattle.hex.specs.Hex.{encode_lower}
use Rattle.bpf_text.specs.PrintedUnits.{slot_lines}

-- the first slot, and those after it
pub slot_lines-slot : (bytes : List ℕ) → 8 ≤ length bytes → slot_lines bytes ≡ encode_lower (take 8 bytes) ++ codes "\n"
    ++ slot_lines (drop 8 bytes)
unfolding slot_lines
slot_lines-slot (a ∷ b ∷ c ∷ d ∷ e ∷ f ∷ g ∷ h ∷ rest) le = refl
slot_lines-slot _ le = absurd (omega arith)

-- no whole slot is left
pub slot_lines-end : (bytes : List ℕ) → length bytes < 8 → slot_lines bytes ≡ []
unfolding slot_lines
slot_lines-end (a ∷ b ∷ c ∷ d ∷ e ∷ f ∷ g ∷ h ∷ rest) lt = absurd (omega arith)
slot_lines-end _ lt = refl
