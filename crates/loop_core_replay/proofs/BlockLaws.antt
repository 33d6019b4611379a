-- Blocks that are under way, and blocks that were run.
use Rattle.std.proofs.Common.{◌≡◌, ℕ, ◌+◌, ◌++◌, ◌<◌, ◌⊎◌, inl, inr, List, [], ◌∷◌, length, Option, Some}
use Rattle.std.{proofs.Common.{None, refl, sym, ◌∙◌, ap, subst, arith}, specs.List.{insert}}
use Rattle.std.{specs.Prelude.{Bool, replicate, slice_get, slice_index_or, slice_set}, proofs.lemmas.Bool.{cases_eq}}
use Rattle.std.proofs.lemmas.List.{length-set, get_or-set_same, get_or-set_other, replicate_more}
use Rattle.std.proofs.lemmas.Option.{slice_get_read, get_or_from_slice_get}
use Rattle.loop_core_model.specs.{Gather.{is_bound}, Intervals.{blocks_of}}
use Rattle.loop_core_block.specs.{declared.block.Block.{Block}, Blocks.{BlockOf}, Shown.{shown}, Loops.{LoopOf}}
use Rattle.loop_core_block.specs.LoopBlocks.{IsBlockOf}
use Rattle.loop_core_replay.specs.Replays.{BlocksOf, IfBlockOf, AreBlocks, BreaksAt, BlockHasRun}

-- one place of a table changed
changed : (s : LoopOf) (us : List (Option Block)) (number : ℕ) (new : Option Block) → number < length us
    → IfBlockOf s number new →
    ((k : ℕ) → IfBlockOf s k (slice_index_or us k None)) → (k : ℕ)
    → IfBlockOf s k (slice_index_or (slice_set us number new) k None)
changed s us number new within fits each k = go (cases_eq k number)
  where
    go : (k ≡ number) ⊎ (k ≡ number → ⊥) → IfBlockOf s k (slice_index_or (slice_set us number new) k None)
    go (inl same) = rw (same, get_or-set_same us number new None within) fits
    go (inr other) = rw (get_or-set_other us number k new None other) (each k)

-- where a block breaks
pub breaks : (s : LoopOf) (number index : ℕ) (b : BlockOf) (result : Bool) → IsBlockOf s number b
    → result ≡ is_bound b.broke index → BreaksAt s number index result
breaks s number index b result is at = record {
  ran = is.ran.ran;
  ended = rw (is.first_is, is.past_is) at is.ran.ended;
  breaks_is = at ∙ ap (λ (o : Option ℕ). is_bound o index) (rw is.first_is at is.ran.broke);
}

-- one place more without a block
pub none_more : (us more : List (Option Block)) (n : ℕ) → us ≡ replicate n None → more ≡ us ++ None ∷ []
    → more ≡ replicate (n + 1) None
none_more us more n are added = added ∙ (ap (λ (xs : List (Option Block)). xs ++ None ∷ []) are ∙ replicate_more n None)

-- blocks that are seen as their fields
module _ (us : List (Option Block)) (ran : List Block) (old : BlocksOf) (number : ℕ) (seen_as : record {
  under_way = us;
  ran = ran;
} ≡ old) (s : LoopOf) (are : AreBlocks s old) where
  seen : AreBlocks s (record { under_way = us; ran = ran })
  seen = subst (AreBlocks s) (sym seen_as) are

  -- one of them changed
  pub changed_in : (new : Option Block) → number < blocks_of s.bounds → IfBlockOf s number new
      → AreBlocks s (record { under_way = slice_set us number new; ran = ran })
  changed_in new within fits = let count = seen.count in
      record {
        count = length-set us number new ∙ count;
        under_way = changed s us number new (omega (arith, count, within)) fits seen.under_way;
        ran = seen.ran;
      }

  -- one that is there
  pub there_in : (was : Option Block) (b : Block) → number < blocks_of s.bounds → was ≡ slice_index_or us number was
      → was ≡ Some b → IsBlockOf s number (shown b)
  there_in was b within there is =
      let count = seen.count in
      let read : slice_get us number ≡ Some was =
      slice_get_read us (length us) number was refl (omega (arith, count, within)) there in
      subst (IfBlockOf s number) (get_or_from_slice_get us number was None read ∙ is) (seen.under_way number)

  -- one was run more
  pub run_in : (b : Block) (longer : List Block) (first : BlocksOf) → IsBlockOf s number (shown b)
      → longer ≡ insert ran 0 b → old.ran ≡ first.ran
      → BlockHasRun s number first (record { under_way = us; ran = longer })
  run_in b longer first is pushed kept =
      let was : ran ≡ first.ran = ap (λ (o : BlocksOf). o.ran) seen_as ∙ kept in
      let own : IsBlockOf s (shown b).number (shown b) =
      subst (λ (n : ℕ). IsBlockOf s n (shown b)) (sym is.number_is) is in
      rw pushed (record {
        blocks = record { count = seen.count; under_way = seen.under_way; ran = (own, seen.ran) };
        numbers = rw (is.number_is, was) refl;
      })
