-- What iterations add up to.
use Rattle.std.specs.Prelude.{◌≡◌, ℕ, ◌+◌, ◌<◌, ◌≤◌, List, map, length, replicate, slice_index, slice_index_or}
use Rattle.std.specs.List.{range_with_len, sum}
use Rattle.array_maps.specs.{declared.access.Op.{Op, TheVariants.{And}}, Accesses.{combined}}
use Rattle.array_maps.specs.MapList.{MapList}
use Rattle.bpf_verify_sound.specs.Soundness.{AreMapWords}
use Rattle.loop_core_sequential.specs.Rests.{RanTo}
use Rattle.spec_run_loop.specs.{declared.partial_reduction.PartialReduction.{PartialReduction}, SumLoops.{SumLoopOf}}

-- the operand with which an operator leaves each word below 2 ^ 64 as it was
unfoldable pub identity_of : Op → ℕ
identity_of And = 18446744073709551615
identity_of _ = 0

-- maps of these sizes, all of whose words are such operands
abbrev pub identity_maps : Op → List ℕ → MapList
identity_maps op sizes = record { sizes = sizes; words = replicate (sum sizes) (identity_of op) }

-- words combined with others, element by element
abbrev pub combined_words : Op → (words operands : List ℕ) → List ℕ
combined_words op words operands = map (λ e. combined op (slice_index words e) (slice_index operands e))
    (range_with_len 0 (length words))

-- it is for ranges of the loop's iterations: of the program's sizes
abbrev pub IsSumFor : SumLoopOf → PartialReduction → Type 0
IsSumFor l s = s.maps.sizes ≡ l.program.sizes

-- the iterations from one index up to another add up to this: on any maps of the program they break off with this
-- answer, or continue, and leave the words that were there combined with these
pub record IsSumOf (l : SumLoopOf) (from to : ℕ) (s : PartialReduction) : Type 0 where
  pub fits : IsSumFor l s
  pub adds : (maps : MapList) → AreMapWords l.program maps.words → RanTo l.program l.call from to maps
      (record { sizes = maps.sizes; words = combined_words l.op maps.words s.maps.words }) s.broke

-- they are of ranges of the loop's iterations that follow one another, from one index up to another: the first range
-- begins at start 0, and each ends where the next one begins
pub record AreSumsOf (l : SumLoopOf) (from to : ℕ) (sums : List PartialReduction) : Type 0 where
  pub start : ℕ → ℕ
  pub first : start 0 ≡ from
  pub last : start (length sums) ≡ to
  pub before : (share : ℕ) → share ≤ length sums → start share ≤ to
  pub within : to ≤ l.call.n
  pub each : (share : ℕ) (s : PartialReduction) → share < length sums
      → IsSumOf l (start share) (start (share + 1)) (slice_index_or sums share s)
