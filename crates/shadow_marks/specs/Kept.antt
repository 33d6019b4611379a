-- What is kept of one element while an iteration runs.
use Rattle.std.specs.{Prelude.{ℕ, Bool, true, not, ◌||◌, ◌==◌, List}, Int.{bit_at}, List.{list_any}}
use Rattle.array_maps.specs.declared.access.Op.{Op, TheVariants.{Add, Or, And, Xor, AddH}}
use Rattle.loop_core_model.specs.{Actions.{is_same}, Flags.{Flags}}
use Rattle.shadow_marks.specs.declared.element_flags.Flag.{Flag, TheVariants.{Wrote, Looked, Plain, By}}
use Rattle.shadow_marks.specs.declared.element_flags.ElementFlags.{ElementFlags}

-- the bit of an operator
abbrev pub place_by : Op → ℕ
place_by Add = 3
place_by Or = 4
place_by And = 5
place_by Xor = 6
place_by AddH = 7

-- the bit of a flag
abbrev pub bit_place : Flag → ℕ
bit_place Wrote = 0
bit_place Looked = 1
bit_place Plain = 2
bit_place (By op) = place_by op

-- whether a flag is kept
abbrev pub has_flag : ElementFlags → Flag → Bool
has_flag kept flag = bit_at kept.bits (bit_place flag) == 1

-- the flags that are kept
abbrev pub flags_in : ElementFlags → Flags
flags_in kept = record {
  wrote = has_flag kept Wrote;
  looked = has_flag kept Looked;
  plain = has_flag kept Plain;
  by = λ op. has_flag kept (By op);
}

-- nothing is kept of an element that wasn't touched
abbrev pub nothing_kept : ElementFlags
nothing_kept = record { bits = 0 }

-- flags with one more
abbrev pub with_flag : Flag → Flags → Flags
with_flag Wrote flags = record { wrote = true; looked = flags.looked; plain = flags.plain; by = flags.by }
with_flag Looked flags = record { wrote = flags.wrote; looked = true; plain = flags.plain; by = flags.by }
with_flag Plain flags = record { wrote = flags.wrote; looked = flags.looked; plain = true; by = flags.by }
with_flag (By op) flags = record {
  wrote = flags.wrote;
  looked = flags.looked;
  plain = flags.plain;
  by = λ other. flags.by other || is_same other op;
}

-- flags after a look, which is exposed where the iteration hasn't written
abbrev pub with_read : Flags → Flags
with_read flags = record {
  wrote = flags.wrote;
  looked = flags.looked || not flags.wrote;
  plain = flags.plain;
  by = flags.by;
}

-- whether an element is in a list
abbrev pub has_element : List ℕ → ℕ → Bool
has_element touched e = list_any (λ other. other == e) touched
