-- The elements of a machine's maps.
use Rattle.std.specs.Prelude.{◌==◌, ℕ, ◌+◌, nat_lt, Bool, false, if◌then◌else◌, Option, Some, None, List, length}
use Rattle.std.specs.Prelude.{slice_get, slice_set, slice_index, slice_range}
use Rattle.array_maps.specs.{MapList.{MapList, base_of}, Accesses.{Write, words_after_run}}
use Rattle.bpfspec_machine.specs.Machines.{MachineState}

-- an index is below a map's size, where there is the map
abbrev pub is_below : Option ℕ → (index : ℕ) → Bool
is_below None index = false
is_below (Some size) index = nat_lt index size

-- there is this element
abbrev pub has_element : List ℕ → (map index : ℕ) → Bool
has_element sizes map index = is_below (slice_get sizes map) index

-- its value, where there is one
abbrev pub element_of : MapList → (map index : ℕ) → Option ℕ
element_of maps map index =
    if has_element maps.sizes map index then Some (slice_index maps.words (base_of maps.sizes map + index)) else None

-- a machine with these words in its maps
abbrev pub with_words : MachineState → List ℕ → MachineState
with_words machine words = record {
  program = machine.program;
  maps = record { sizes = machine.maps.sizes; words = words };
  loops = machine.loops;
}

-- a machine with another value of an element, where there is the element
abbrev pub with_element_if : Bool → MachineState → (map index value : ℕ) → MachineState
with_element_if there machine map index value =
    if there then with_words machine (slice_set machine.maps.words (base_of machine.maps.sizes map + index) value)
    else machine

-- a map is of this size, where there is the map
abbrev pub is_size : Option ℕ → (count : ℕ) → Bool
is_size None count = false
is_size (Some size) count = size == count

-- there is this map, with this many elements
abbrev pub has_words : List ℕ → (map count : ℕ) → Bool
has_words sizes map count = is_size (slice_get sizes map) count

-- the values of its elements
abbrev pub words_of : MapList → (map : ℕ) → List ℕ
words_of maps map =
    slice_range maps.words (base_of maps.sizes map) (base_of maps.sizes map + slice_index maps.sizes map)

-- a machine with other values of a map's elements, where there is the map
abbrev pub with_words_if : Bool → MachineState → (map : ℕ) → List ℕ → MachineState
with_words_if there machine map values =
    if there then with_words machine
    (words_after_run (base_of machine.maps.sizes map) (λ k. Write (slice_index values k)) (length values)
    machine.maps.words)
    else machine
