-- Looking for a word in a table, as a loop does.
use Rattle.std.proofs.Common.{◌≡◌, ℕ, ◌+◌, ◌<◌, true, false, if◌then◌else◌, List, [], ◌∷◌, length, drop, drop-cons}
use Rattle.std.{proofs.Common.{get_or, Option, Some, None, add-one}, specs.Str.{bytes_eq}}
use denote.Ref.{Bor}
use Rattle.bpf_text_operands.specs.declared.stem.Stem.{Stem}

-- the stem of the first entry whose word this is
abbrev pub first_entry : List ℕ → List (Bor (List ℕ) × Stem) → Option Stem
first_entry word [] = None
first_entry word (e ∷ es) = if bytes_eq word e.0.now then Some e.1 else first_entry word es

-- the word at an index isn't the one that is looked for
pub entry_moves : (word : List ℕ) (es : List (Bor (List ℕ) × Stem)) (i : ℕ) (d : Bor (List ℕ) × Stem)
    (found : Option Stem) → i < length es → bytes_eq word (get_or es i d).0.now ≡ false
    → first_entry word (drop i es) ≡ found → first_entry word (drop (i + 1) es) ≡ found
entry_moves word es i d found lt miss same = rw add-one (rw (drop-cons es i d lt, miss) at same)

-- the word at an index is the one that is looked for
pub entry_found : (word : List ℕ) (es : List (Bor (List ℕ) × Stem)) (i : ℕ) (d : Bor (List ℕ) × Stem)
    (found : Option Stem) → i < length es → bytes_eq word (get_or es i d).0.now ≡ true
    → first_entry word (drop i es) ≡ found → Some (get_or es i d).1 ≡ found
entry_found word es i d found lt hit same = rw (drop-cons es i d lt, hit) at same
