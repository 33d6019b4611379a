-- The iteration under way, element by element.
use Rattle.std.specs.Prelude.{◌≡◌, ◌≢◌, ℕ, ◌+◌, ◌<◌, List, length, slice_index_or}
use Rattle.array_maps.specs.Accesses.{Action}
use Rattle.loop_core_model.specs.Flags.{Flags, flags_of, no_flags}
use Rattle.shadow_marks.specs.declared.{element_flags.ElementFlags.{ElementFlags}, iter_flags.IterFlags.{IterFlags}}
use Rattle.shadow_marks.specs.Kept.{flags_in, nothing_kept}

-- how many elements there are
abbrev pub element_count : IterFlags → ℕ
element_count flags = length flags.cells.items

-- how many of them were touched
abbrev pub touched_count : IterFlags → ℕ
touched_count flags = length flags.touched.items

-- the flags at an element
abbrev pub flags_at : IterFlags → ℕ → Flags
flags_at flags e = flags_in (slice_index_or flags.cells.items e nothing_kept)

-- the flags are those of an iteration that did these actions at each element
abbrev pub AreFlagsOf : (ℕ → List Action) → IterFlags → Type 0
AreFlagsOf actions flags = (e : ℕ) → e < element_count flags → flags_at flags e ≡ flags_of (actions e)

-- no element was touched
pub record IsEmptied (flags : IterFlags) : Type 0 where
  pub count : touched_count flags ≡ 0
  pub each : (e : ℕ) → flags_at flags e ≡ no_flags

-- one element's flags are taken out and emptied
pub record TakesFlags (old new : IterFlags) (e : ℕ) (kept : ElementFlags) : Type 0 where
  pub within : e < element_count old
  pub elements : element_count new ≡ element_count old
  pub count : touched_count new + 1 ≡ touched_count old
  pub taken : flags_in kept ≡ flags_at old e
  pub emptied : flags_at new e ≡ no_flags
  pub others : (other : ℕ) → other ≢ e → flags_at new other ≡ flags_at old other

-- there was none to take
pub record TakesNone (old new : IterFlags) : Type 0 where
  pub was : IsEmptied old
  pub still : IsEmptied new
  pub elements : element_count new ≡ element_count old
