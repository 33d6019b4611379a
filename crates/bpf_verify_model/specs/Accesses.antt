-- Accesses of memory, and where they may go.
use Rattle.std.specs.Prelude.{ℕ, ℤ, pos, ◌+ℤ◌, ◌*◌, ◌^◌, ◌+◌, ◌==◌, Bool, true, false, not, ◌&&◌, ◌||◌, nat_lt, nat_le}
use Rattle.std.specs.{Prelude.{int_lt, int_rem, List, slice_get, Option, Some, None}, Ordering.{int_eq}}
use Rattle.bpf_insn_types.specs.declared.insn.Insn.{Insn, TheVariants.{Load, LoadSx, StoreImm, Store, Atomic}}
use Rattle.bpf_insn_types.specs.Sizes.{bytes_of, atomic_bytes}
use Rattle.value_range.specs.Spans.{Span}
use Rattle.bpf_verify_model.specs.declared.abstract_value.AbstractValue.{AbstractValue, TheVariants.{Frame, Ctx, Area}}
use Rattle.bpf_verify_model.specs.declared.{state.State.{State}, memory_access.MemoryAccess.{MemoryAccess}}
use Rattle.bpf_verify_model.specs.declared.memory_access.AccessKind.{AccessKind, TheVariants.{Reads, Writes, Changes}}
use Rattle.bpf_verify_model.specs.Written.{all_written}

-- the access of memory that an instruction makes, if it makes one (RFC 9669, section 5)
abbrev pub memory_access_of : Insn → Option MemoryAccess
memory_access_of (Load size dst src offset) =
    Some (record { kind = Reads; base = src; offset = offset; size = bytes_of size })
memory_access_of (LoadSx size dst src offset) =
    Some (record { kind = Reads; base = src; offset = offset; size = bytes_of size })
memory_access_of (StoreImm size dst offset imm) =
    Some (record { kind = Writes; base = dst; offset = offset; size = bytes_of size })
memory_access_of (Store size dst src offset) =
    Some (record { kind = Writes; base = dst; offset = offset; size = bytes_of size })
memory_access_of (Atomic width op dst src offset) =
    Some (record { kind = Changes; base = dst; offset = offset; size = atomic_bytes width })
memory_access_of _ = None

-- whether it is the address of memory, as V16 asks of the base of an access
abbrev pub is_memory : AbstractValue → Bool
is_memory (Frame position) = true
is_memory (Ctx position) = true
is_memory (Area map offset) = true
is_memory _ = false

-- V17: an access of n bytes is of a map's values, and neither of a value nor of a half
abbrev pub is_part_of_half : ℕ → AbstractValue → Bool
is_part_of_half size (Area map offset) = not (size == 8 || size == 4)
is_part_of_half size _ = false

-- whether a place isn't a multiple of a size
abbrev pub is_misaligned : ℕ → ℤ → Bool
is_misaligned size place = not (int_eq (int_rem place (pos size)) (pos 0))

-- whether a range has more than one offset, and not all of them are multiples of a size
abbrev pub is_spread : ℕ → Span → Bool
is_spread size offset = nat_lt offset.lo offset.hi && nat_lt (2 ^ offset.zeros) size

-- V18: an access of n bytes at an offset from this base isn't aligned
abbrev pub misses_alignment : ℕ → ℤ → AbstractValue → Bool
misses_alignment size offset (Frame position) = is_misaligned size (pos position +ℤ offset)
misses_alignment size offset (Ctx position) = is_misaligned size (pos position +ℤ offset)
misses_alignment size offset (Area map range) = is_misaligned size (pos range.lo +ℤ offset) || is_spread size range
misses_alignment size offset _ = false

-- whether n bytes, from a least place to a greatest, aren't all among the first of them
abbrev pub is_outside_bytes : (bytes size : ℕ) → (least greatest : ℤ) → Bool
is_outside_bytes bytes size least greatest = int_lt least (pos 0) || int_lt (pos bytes) (greatest +ℤ pos size)

-- whether n bytes from a place on aren't all of a frame's 512
abbrev pub is_outside_frame : ℕ → ℤ → Bool
is_outside_frame size place = is_outside_bytes 512 size place place

-- whether n bytes at an offset from places of a range aren't all of a map's values, if there is such a map
abbrev pub is_outside_map : Option ℕ → ℕ → ℤ → Span → Bool
is_outside_map None size offset range = true
is_outside_map (Some count) size offset range = is_outside_bytes (8 * count) size (pos range.lo +ℤ offset)
    (pos range.hi +ℤ offset)

-- V19: an access isn't within its frame, or within its map's values
abbrev pub is_outside : List ℕ → ℕ → ℤ → AbstractValue → Bool
is_outside sizes size offset (Frame position) = is_outside_frame size (pos position +ℤ offset)
is_outside sizes size offset (Ctx position) = is_outside_frame size (pos position +ℤ offset)
is_outside sizes size offset (Area map range) = is_outside_map (slice_get sizes map) size offset range
is_outside sizes size offset _ = false

-- whether one of the bytes from a place in a frame on isn't written
abbrev pub lacks_bytes : List Bool → ℕ → ℤ → Bool
lacks_bytes written size (pos position) = nat_le (position + size) 512 && not (all_written written position size)
lacks_bytes written size _ = false

-- of main's frame
abbrev pub caller_lacks : Option (List Bool) → ℕ → ℤ → Bool
caller_lacks None size place = true
caller_lacks (Some written) size place = lacks_bytes written size place

-- whether n bytes at an offset from this base lie within a frame, and one of them isn't written
abbrev pub has_unwritten_byte : State → ℕ → ℤ → AbstractValue → Bool
has_unwritten_byte state size offset (Frame position) = lacks_bytes state.own size (pos position +ℤ offset)
has_unwritten_byte state size offset (Ctx position) = caller_lacks state.caller size (pos position +ℤ offset)
has_unwritten_byte state size offset _ = false

-- whether an access reads
abbrev pub kind_reads : AccessKind → Bool
kind_reads Reads = true
kind_reads Writes = false
kind_reads Changes = true

-- whether an access writes
abbrev pub kind_writes : AccessKind → Bool
kind_writes Reads = false
kind_writes Writes = true
kind_writes Changes = true

-- whether it is of main's frame
abbrev pub is_ctx : AbstractValue → Bool
is_ctx (Ctx position) = true
is_ctx _ = false
