-- The places of the blocks that count, found one block after another.
use Rattle.std.proofs.Common.{◌≡◌, ℕ, ◌+◌, ◌<◌, ◌≤◌, true, false, List, [], ◌∷◌, ◌++◌, length, drop, Some, None}
use Rattle.std.proofs.Common.{Option, refl, sym, ap, arith, append_assoc, length-append}
use Rattle.std.specs.{Prelude.{slice_index, if◌then◌else◌}, Option.{option_map}}
use Rattle.std.proofs.{Math.ListN.{drop_of_length-le}, lemmas.{List.{append-nil, drop_more}}}
use Rattle.loop_core_model.specs.Gather.{starts_late}
use Rattle.loop_core_block.specs.Blocks.{BlockOf}
use Rattle.loop_core_gather.specs.Counting.{place_of, with_place, order_from, order_of}

module _ (least : Option ℕ) (blocks : List BlockOf) (bounds : List ℕ) where
  -- the order from a block on
  abbrev pub order_at : ℕ → Option (List ℕ)
  order_at number = order_from least blocks number (slice_index bounds number) (drop (number + 1) bounds)

  -- the places so far, and those from a block on, are the order
  pub record OrderSoFar (places : List ℕ) (number : ℕ) : Type 0 where
    pub within : length places ≤ number
    pub order : order_of least blocks bounds ≡ option_map (λ later. places ++ later) (order_at number)

  at_next : (number : ℕ) → number + 1 < length bounds → order_at number
      ≡ (if starts_late least (slice_index bounds number) then order_at (number + 1)
      else with_place (place_of blocks number) (order_at (number + 1)))
  at_next number below = rw (drop_more bounds (number + 1) 0 below) refl

  pub so_far_late : (places new : List ℕ) (number : ℕ) → number + 1 < length bounds
      → starts_late least (slice_index bounds number) ≡ true → new ≡ places → OrderSoFar places number
      → OrderSoFar new (number + 1)
  so_far_late places new number below late same so_far = rw same (record {
    within = let within = so_far.within in omega arith;
    order = rw (so_far.order, at_next number below, late) refl;
  })

  one_in_front : (places : List ℕ) (place : ℕ) (o : Option (List ℕ))
      → option_map (λ later. places ++ later) (with_place (Some place) o)
      ≡ option_map (λ later. (places ++ place ∷ []) ++ later) o
  one_in_front places place None = refl
  one_in_front places place (Some later) = ap Some (sym (append_assoc places (place ∷ []) later))

  pub so_far_more : (places new : List ℕ) (number place : ℕ) → number + 1 < length bounds
      → starts_late least (slice_index bounds number) ≡ false
      → place_of blocks number ≡ Some place → new ≡ places ++ place ∷ []
      → OrderSoFar places number → OrderSoFar new (number + 1)
  so_far_more places new number place below on_time is made so_far = rw made (record {
    within = let within = so_far.within in simp length-append (omega arith);
    order = rw (so_far.order, at_next number below, on_time, is) (one_in_front places place (order_at (number + 1)));
  })

  pub so_far_missing : (places : List ℕ) (number : ℕ) → number + 1 < length bounds
      → starts_late least (slice_index bounds number) ≡ false
      → place_of blocks number ≡ None → OrderSoFar places number
      → order_of least blocks bounds ≡ None
  so_far_missing places number below on_time is so_far = rw (so_far.order, at_next number below, on_time, is) refl

  pub so_far_all : (places : List ℕ) (number : ℕ) → length bounds ≤ number + 1 → OrderSoFar places number
      → order_of least blocks bounds ≡ Some places
  so_far_all places number all so_far =
      rw (so_far.order, drop_of_length-le bounds all) (ap Some (append-nil places))

pub so_far_none : (least : Option ℕ) (blocks : List BlockOf) (bounds places : List ℕ) → places ≡ []
    → 0 < length bounds → OrderSoFar least blocks bounds places 0
so_far_none least blocks [] places none some = absurd (omega arith)
so_far_none least blocks (first ∷ bounds) places none some = rw none (record {
  within = omega arith;
  order = none_in_front (order_from least blocks 0 first bounds);
})
  where
    none_in_front : (o : Option (List ℕ)) → o ≡ option_map (λ later. [] ++ later) o
    none_in_front None = refl
    none_in_front (Some places) = refl
