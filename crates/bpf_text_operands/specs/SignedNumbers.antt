-- Registers, numbers with a sign, and distances. 43 is a plus sign, 114 an `r`.
use Rattle.std.specs.Prelude.{ℕ, ℤ, pos, neg_ℤ, ◌+◌, ◌-◌, ◌==◌, ◌&&◌, ◌||◌, nat_lt, nat_le, Bool, if◌then◌else◌, List}
use Rattle.std.specs.{Prelude.{length, drop, slice_index, Option, Some, None, Result, Ok, Err}, Char.{is_ascii_digit}}
use Rattle.std.specs.List.{list_all}
use Rattle.bpf_text_lex.specs.Names.{is_name}
use Rattle.bpf_text_lex.specs.{Numbers.{is_numeral, is_negative, number_in}, declared.text_error.TextFault.{TextFault}}
use Rattle.bpf_text_lex.specs.declared.text_error.TextFault.TheVariants as faults

-- what is made of a value, where there is no fault
abbrev pub made : {A B : Type 0} → (A → B) → Result A TextFault → Result B TextFault
made f (Ok x) = Ok (f x)
made f (Err fault) = Err fault

-- an `r` and digits
abbrev pub is_register : List ℕ → Bool
is_register word = (slice_index word 0 == 114) && (nat_lt 1 (length word) && list_all is_ascii_digit (drop 1 word))

-- a number as a register's
abbrev pub as_register : Result ℕ TextFault → Result ℕ TextFault
as_register (Ok n) = Ok n
as_register (Err fault) = Err faults.Register

-- the register that a word names
abbrev pub register_at : List ℕ → Result ℕ TextFault
register_at word = if is_register word then as_register (number_in 10 (drop 1 word)) else Err faults.Form

-- a number with a plus sign or without a sign, and one with a minus sign
abbrev pub ahead : Result ℕ TextFault → Result ℤ TextFault
ahead r = made pos r

abbrev pub back : Result ℕ TextFault → Result ℤ TextFault
back r = made (λ n. neg_ℤ (pos n)) r

-- the number of a word, in a field of -bound to bound - 1
abbrev pub signed_at : ℕ → List ℕ → Result ℤ TextFault
signed_at bound word = if is_negative word then back (number_in bound (drop 1 word))
    else ahead (number_in (bound - 1) word)

-- a plus sign and a number of any size
abbrev pub is_ahead : List ℕ → Bool
is_ahead word = (slice_index word 0 == 43) && is_numeral (drop 1 word)

-- a number of any size, which has a sign
abbrev pub is_offset : List ℕ → Bool
is_offset word = is_negative word || is_ahead word

-- the number of a word, which has a sign, in a field of -bound to bound - 1
abbrev pub offset_at : ℕ → List ℕ → Result ℤ TextFault
offset_at bound word =
    if is_negative word then back (number_in bound (drop 1 word))
    else if is_ahead word then ahead (number_in (bound - 1) (drop 1 word))
    else Err faults.Form

-- the distance from the slot after one slot to another, in a field of -bound to bound - 1
abbrev pub distance_to : (bound slot target : ℕ) → Result ℤ TextFault
distance_to bound slot target =
    if nat_lt slot target then (if nat_lt (target - slot - 1) bound then Ok (pos (target - slot - 1))
    else Err faults.Field)
    else (if nat_le (slot + 1 - target) bound then Ok (neg_ℤ (pos (slot + 1 - target))) else Err faults.Field)

-- the distance to a label's slot, if there is one
abbrev pub to_label : (bound slot : ℕ) → Option ℕ → Result ℤ TextFault
to_label bound slot None = Err faults.UnknownLabel
to_label bound slot (Some target) = distance_to bound slot target

-- the distance of a word: a label, or a number with its sign
abbrev pub distance_at : (List ℕ → Option ℕ) → (bound slot : ℕ) → List ℕ → Result ℤ TextFault
distance_at find bound slot word = if is_name word then to_label bound slot (find word) else offset_at bound word
