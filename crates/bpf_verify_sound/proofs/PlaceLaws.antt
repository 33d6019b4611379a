-- Where an access goes that breaks no rule.
use Rattle.array_maps.specs.{MapList.{base_of}, declared.access.{Half.TheVariants.{Low, High}, Part.{Part}}}
use Rattle.array_maps.specs.declared.access.Part.TheVariants.{Whole, Half as Of}
use Rattle.bpf_insn_types.specs.{Limits.{sizes_fit}, Program.{Program, moved}}
use Rattle.bpf_step_model.specs.Memory.{part_at, in_map, place, Place, InFrame, InCaller, InMap, frame_position}
use Rattle.bpf_step_model.specs.{Run.{part_bytes}, State.{Value, Frame, Ctx, Area}}
use Rattle.bpf_verify_model.specs.Accesses.{is_outside_frame, is_outside_map, is_outside, is_memory, is_part_of_half}
use Rattle.bpf_verify_model.specs.{Accesses.{is_misaligned, is_spread, misses_alignment}, Rules.{place_fault}}
use Rattle.bpf_verify_model.specs.declared.abstract_value.AbstractValue.{AbstractValue}
use Rattle.bpf_verify_model.specs.declared.memory_access.MemoryAccess.{MemoryAccess}
use Rattle.bpf_verify_sound.{proofs.Tests.{not-not-true, or-left, or-right}, specs.Containment.{ContainsValue}}
use Rattle.bpf_verify_sound.specs.KnownStates.{HasSpan}
use Rattle.std.proofs.Common.{◌≡◌, ℕ, ◌+◌, ◌-◌, ◌*◌, ◌/◌, ◌%◌, ◌^◌, ◌<◌, ◌≤◌, zero, suc, Bool, true, false, ◌&&◌, ◌||◌}
use Rattle.std.proofs.Common.{inl, inr, ◌⊎◌, Option, Some, None, refl, sym, arith, List, [], ◌∷◌, take}
use Rattle.std.proofs.{Math.Pow.{pow-lt}, lemmas.{Bool.Decides.{nat_tests}, Int.{ints}, List.Sums.{sum_by-cons}}}
use Rattle.std.specs.{List.{sum}, Prelude.{ℤ, pos, negsuc, ◌+ℤ◌, int_lt, nat_lt, ◌==◌, slice_get}}
use Rattle.value_range.{proofs.Multiples.{coarser}, specs.Spans.{Span, IsSpan, Contains}}
use Rattle.bpf_verify_model.specs.declared.abstract_value.AbstractValue.TheVariants as known

-- a place that isn't negative
pub not-negative : (z : ℤ) → int_lt z (pos 0) ≡ false → (p : ℕ) × (z ≡ pos p)
not-negative (pos p) e = (p, refl)
not-negative (negsuc n) e = absurd cc

-- is where a number is moved to
pub moved-at : (n : ℕ) (z : ℤ) (p : ℕ) → pos n +ℤ z ≡ pos p → moved n z ≡ Some p
moved-at n z p e = grind (arith, nat_tests, ints)

-- an aligned place
aligned : (p size : ℕ) → is_misaligned size (pos p) ≡ false → p % size ≡ 0
aligned p size e = grind (arith, nat_tests, ints)

-- a place of a frame
pub record InsideFrame (position : ℕ) (offset : ℤ) (size : ℕ) : Type 0 where
  pub at : ℕ
  pub is : pos position +ℤ offset ≡ pos at
  pub goes : frame_position (moved position offset) size ≡ Some at
  pub inside : at + size ≤ 512

pub frame-goes : (p size : ℕ) → p % size ≡ 0 → p + size ≤ 512 → frame_position (Some p) size ≡ Some p
frame-goes p size a h = grind (arith, nat_tests)

pub frame-inside : (position : ℕ) (offset : ℤ) (size : ℕ) → is_misaligned size (pos position +ℤ offset) ≡ false →
    is_outside_frame size (pos position +ℤ offset) ≡ false → InsideFrame position offset size
frame-inside position offset size misaligned outside =
    by_place (pos position +ℤ offset) refl misaligned outside
  where
    by_place : (z : ℤ) → pos position +ℤ offset ≡ z → is_misaligned size z ≡ false → is_outside_frame size z ≡ false
        → InsideFrame position offset size
    by_place (negsuc n) is misaligned outside = absurd cc
    by_place (pos at) is misaligned outside =
        let high : nat_lt 512 (at + size) ≡ false = or-right (int_lt (pos at) (pos 0)) (int_lt (pos 512) (pos at
        +ℤ pos size)) outside in
        let inside : at + size ≤ 512 = grind (arith, nat_tests) in
        record {
          at = at;
          is = is;
          goes = rw (moved-at position offset at is) (frame-goes at size (aligned at size misaligned) inside);
          inside = inside;
        }

-- a map's elements are among all
pub base-below : (sizes : List ℕ) (map count : ℕ) → slice_get sizes map ≡ Some count → base_of sizes map + count
    ≤ sum sizes
base-below [] map count e = absurd cc
base-below (size ∷ sizes) zero count e =
    let is : size ≡ count = cc in
    omega (arith, sum_by-cons (λ (x : ℕ). x) size sizes)
base-below (size ∷ sizes) (suc map) count e =
    let rest : base_of sizes map + count ≤ sum sizes = base-below sizes map count e in
    omega (arith, sum_by-cons (λ (x : ℕ). x) size sizes, sum_by-cons (λ (x : ℕ). x) size (take map sizes))

-- the sizes of maps are at most 65,536
sizes-few : (sizes : List ℕ) → sizes_fit sizes ≡ true → sum sizes ≤ 65536
sizes-few sizes e = grind (arith, nat_tests)

pub count-few : (sizes : List ℕ) (map count : ℕ) → sizes_fit sizes ≡ true → slice_get sizes map ≡ Some count
    → count ≤ 65536
count-few sizes map count fit there = omega (arith, base-below sizes map count there, sizes-few sizes fit)

-- a part of an element of a map
pub record InsideArea (sizes : List ℕ) (map byte : ℕ) (offset : ℤ) (size : ℕ) : Type 0 where
  pub element : ℕ
  pub part : Part
  pub goes : in_map sizes map (slice_get sizes map) (moved byte offset) size ≡ Some (InMap element part)
  pub inside : element < sum sizes
  pub bytes : part_bytes part ≡ size

-- an element by the offset of a byte
element-goes : (sizes : List ℕ) (map count byte size : ℕ) (part : Part) → byte / 8 < count
    → part_at (byte % 8) size ≡ Some part →
    in_map sizes map (Some count) (Some byte) size ≡ Some (InMap (base_of sizes map + byte / 8) part)
element-goes sizes map count byte size part below is = grind (arith, nat_tests)

-- a size of 8 bytes or of 4
abbrev pub IsPartSize : ℕ → Type 0
IsPartSize size = (size ≡ 8) ⊎ (size ≡ 4)

part-size : (size : ℕ) → ((size == 8) || (size == 4)) ≡ true → IsPartSize size
part-size size some = by_test (size == 8) refl some
  where
    by_test : (test : Bool) → (size == 8) ≡ test → (test || (size == 4)) ≡ true → IsPartSize size
    by_test true e some = inl (grind (arith, nat_tests))
    by_test false e some = inr (grind (arith, nat_tests))

-- a multiple of a power that isn't less than 4, or than 8
zeros-least : (k z : ℕ) → 2 ^ k ≤ 2 ^ z → k ≤ z
zeros-least k z h = grind (arith, nat_tests, pow-lt {i = z} {j = k})

multiple-of : (z size x : ℕ) → IsPartSize size → size ≤ 2 ^ z → x % 2 ^ z ≡ 0 → x % size ≡ 0
multiple-of z size x (inl e) h f = rw e (coarser 3 z x (zeros-least 3 z (omega arith)) f)
multiple-of z size x (inr e) h f = rw e (coarser 2 z x (zeros-least 2 z (omega arith)) f)

-- the difference of two multiples
multiple-moved : (a b lo byte size : ℕ) → IsPartSize size → lo ≤ byte → b ≡ a + (byte - lo) → a % size ≡ 0
    → lo % size ≡ 0 → byte % size ≡ 0 → b % size ≡ 0
multiple-moved a b lo byte size (inl e) h is x y z = grind (arith, nat_tests)
multiple-moved a b lo byte size (inr e) h is x y z = grind (arith, nat_tests)

-- a byte of a range is as aligned as its least
spread-aligned : (range : Span) (a b byte size : ℕ) → IsSpan range → Contains range byte → IsPartSize size
    → a % size ≡ 0 → b ≡ a + (byte - range.lo) →
    (more few : Bool) → nat_lt range.lo range.hi ≡ more → nat_lt (2 ^ range.zeros) size ≡ few → (more && few) ≡ false
    → b % size ≡ 0
spread-aligned range a b byte size span c some x is false few m f e =
    let one : range.hi ≤ range.lo = grind (arith, nat_tests) in
    let same : b ≡ a = omega (arith, c.above, c.below) in
    rw same x
spread-aligned range a b byte size span c some x is true true m f e = absurd cc
spread-aligned range a b byte size span c some x is true false m f e =
    let fine : size ≤ 2 ^ range.zeros = grind (arith, nat_tests) in
    multiple-moved a b range.lo byte size some c.above is x (multiple-of range.zeros size range.lo some fine
    span.lo_multiple) (multiple-of range.zeros size byte some fine c.multiple)

module _ (sizes : List ℕ) (map byte : ℕ) (offset : ℤ) (size : ℕ) where
  -- the part at an aligned byte
  area-part : (count at : ℕ) (part : Part) → slice_get sizes map ≡ Some count → pos byte +ℤ offset ≡ pos at
      → at / 8 < count → part_at (at % 8) size ≡ Some part → part_bytes part ≡ size
      → InsideArea sizes map byte offset size
  area-part count at part there is below part_is bytes = record {
    element = base_of sizes map + at / 8;
    part = part;
    goes = rw (there, moved-at byte offset at is) (element-goes sizes map count at size part below part_is);
    inside = omega (arith, base-below sizes map count there);
    bytes = bytes;
  }

  area-at : (count at : ℕ) → slice_get sizes map ≡ Some count → pos byte +ℤ offset ≡ pos at → at % size ≡ 0
      → at + size ≤ 8 * count → IsPartSize size → InsideArea sizes map byte offset size
  area-at count at there is a h (inl e) =
      let a' : at % 8 ≡ 0 = rw e at a in
      area-part count at Whole there is (omega arith) (grind arith) (sym e)
  area-at count at there is a h (inr e) = by_half (at % 8 == 4) refl
    where
      by_half : (upper : Bool) → (at % 8 == 4) ≡ upper → InsideArea sizes map byte offset size
      by_half true u =
          let high : at % 8 ≡ 4 = grind (arith, nat_tests) in
          area-part count at (Of High) there is (omega arith) (grind arith) (sym e)
      by_half false u =
          let a' : at % 4 ≡ 0 = rw e at a in
          let other : (at % 8 ≡ 4 → ⊥) = λ e. absurd (grind (arith, nat_tests)) in
          let low : at % 8 ≡ 0 = omega arith in
          area-part count at (Of Low) there is (omega arith) (grind arith) (sym e)

  module _ (range : Span) (span : IsSpan range) (c : Contains range byte) where
    area-in : (count : ℕ) → slice_get sizes map ≡ Some count → IsPartSize size
        → is_misaligned size (pos range.lo +ℤ offset) ≡ false → is_spread size range ≡ false
        → int_lt (pos range.lo +ℤ offset) (pos 0) ≡ false
        → int_lt (pos (8 * count)) ((pos range.hi +ℤ offset) +ℤ pos size) ≡ false
        → InsideArea sizes map byte offset size
    area-in count there some misaligned spread low high =
        let least = not-negative (pos range.lo +ℤ offset) low in
        let a : ℕ = least.0 in
        let is : pos range.lo +ℤ offset ≡ pos a = least.1 in
        let b : ℕ = a + (byte - range.lo) in
        let top : ℕ = a + (range.hi - range.lo) in
        let above : range.lo ≤ byte = c.above in
        let below : byte ≤ range.hi = c.below in
        let b_is : pos byte +ℤ offset ≡ pos b = omega (arith, ints) in
        let top_is : pos range.hi +ℤ offset ≡ pos top = omega (arith, ints) in
        let x : a % size ≡ 0 = aligned a size (rw is at misaligned) in
        let y : b % size ≡ 0 = spread-aligned range a b byte size span c some x refl (nat_lt range.lo range.hi)
        (nat_lt (2 ^ range.zeros) size) refl refl spread in
        let within : nat_lt (8 * count) (top + size) ≡ false = rw top_is at high in
        let most : top + size ≤ 8 * count = grind (arith, nat_tests) in
        area-at count b there b_is y (omega arith) some

    area-inside : is_part_of_half size (known.Area map range) ≡ false
        → misses_alignment size offset (known.Area map range) ≡ false →
        is_outside_map (slice_get sizes map) size offset range ≡ false → InsideArea sizes map byte offset size
    area-inside half misses outside = by_count (slice_get sizes map) refl outside
      where
        by_count : (o : Option ℕ) → slice_get sizes map ≡ o → is_outside_map o size offset range ≡ false
            → InsideArea sizes map byte offset size
        by_count None e outside = absurd cc
        by_count (Some count) e outside =
            let low = int_lt (pos range.lo +ℤ offset) (pos 0) in
            let misaligned = is_misaligned size (pos range.lo +ℤ offset) in
            area-in count e (part-size size (not-not-true _ half)) (or-left misaligned _ misses)
            (or-right misaligned _ misses) (or-left low _ outside) (or-right low _ outside)

-- where an access goes, by the abstract value of its base
abbrev pub PlaceIs : List ℕ → ℕ → ℤ → AbstractValue → Option Place → Type 0
PlaceIs sizes size offset (known.Frame q) (Some (InFrame p)) = (pos q +ℤ offset ≡ pos p) × (p + size ≤ 512)
PlaceIs sizes size offset (known.Ctx q) (Some (InCaller p)) = (pos q +ℤ offset ≡ pos p) × (p + size ≤ 512)
PlaceIs sizes size offset (known.Area map range) (Some (InMap element part)) = (element < sum sizes)
    × (part_bytes part ≡ size)
PlaceIs sizes size offset x at = ⊥

-- V16 to V19
pub record KeepsPlaceRules (sizes : List ℕ) (size : ℕ) (offset : ℤ) (x : AbstractValue) : Type 0 where
  pub memory : is_memory x ≡ true
  pub half : is_part_of_half size x ≡ false
  pub alignment : misses_alignment size offset x ≡ false
  pub bounds : is_outside sizes size offset x ≡ false

pub place-rules : (sizes : List ℕ) (access : MemoryAccess) (x : AbstractValue) → place_fault sizes access x ≡ None
    → KeepsPlaceRules sizes access.size access.offset x
place-rules sizes access x e = record {
  memory = grind (arith, nat_tests);
  half = grind (arith, nat_tests);
  alignment = grind (arith, nat_tests);
  bounds = grind (arith, nat_tests);
}

pub place-is : (program : Program) (x : AbstractValue) (v : Value) (offset : ℤ) (size : ℕ) → HasSpan x
    → ContainsValue x v → KeepsPlaceRules program.sizes size offset x →
    PlaceIs program.sizes size offset x (place program v offset size)
place-is program (known.Frame q) (Frame p) offset size i c keeps =
    let inside = frame-inside q offset size keeps.alignment keeps.bounds in
    rw (← c, inside.goes) (inside.is, inside.inside)
place-is program (known.Ctx q) (Ctx p) offset size i c keeps =
    let inside = frame-inside q offset size keeps.alignment keeps.bounds in
    rw (← c, inside.goes) (inside.is, inside.inside)
place-is program (known.Area map range) (Area n byte) offset size i c keeps =
    let inside = area-inside program.sizes map byte offset size range i c.1 keeps.half keeps.alignment keeps.bounds in
    rw (← c.0, inside.goes) (inside.inside, inside.bytes)
place-is program (known.Frame q) v offset size i c keeps = absurd c
place-is program (known.Ctx q) v offset size i c keeps = absurd c
place-is program (known.Area map range) v offset size i c keeps = absurd c
place-is program x v offset size i c keeps = absurd (let e = keeps.memory in cc)
