-- The names of labels. 95 is the underscore.
use Rattle.std.specs.Prelude.{ℕ, ◌==◌, ◌&&◌, ◌||◌, nat_lt, nat_le, Bool, List, length, drop, slice_index}
use Rattle.std.specs.{Char.{is_ascii_alphabetic, is_ascii_alphanumeric}, List.{list_all}}

-- a letter or an underscore
abbrev pub begins_name : ℕ → Bool
begins_name b = is_ascii_alphabetic b || (b == 95)

-- a letter, a digit or an underscore
abbrev pub continues_name : ℕ → Bool
continues_name b = is_ascii_alphanumeric b || (b == 95)

-- a letter or an underscore, then letters, digits and underscores, at most 32 bytes
abbrev pub is_name : List ℕ → Bool
is_name word = nat_lt 0 (length word) && (nat_le (length word) 32 && (begins_name (slice_index word 0)
    && list_all continues_name (drop 1 word)))
