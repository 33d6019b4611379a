-- Sums, combined range after range.
use Rattle.std.proofs.Common.{◌≡◌, ℕ, ◌+◌, ◌<◌, List, length, Some, None, sym, ap, ◌∙◌, subst, arith}
use Rattle.std.specs.{Prelude.{slice_index_or}, List.{sum}}
use Rattle.array_maps.specs.{declared.access.Op.{Op}, MapList.{MapList, AreWords}}
use Rattle.loop_core_sequential.{specs.Rests.{RanOn, RanTo}, proofs.InOrder.{stayed, ran_both, broke_before}}
use Rattle.spec_run_loop.specs.{declared.partial_reduction.PartialReduction.{PartialReduction}, SumLoops.{SumLoopOf}}
use Rattle.spec_run_loop.{specs.Sums.{combined_words, IsSumFor, IsSumOf, AreSumsOf}, proofs.Combining.{after_run, run_is_combined}}

module _ (l : SumLoopOf) (from to : ℕ) (sums : List PartialReduction) (are : AreSumsOf l from to sums) (old : MapList) where
  -- so many ranges were added up
  abbrev pub Added : (share : ℕ) → MapList → Type 0
  Added share now = RanOn l.program l.call from (are.start share) old now

  pub none_added : Added 0 old
  none_added =
      let low = are.before 0 (omega arith) in
      let first = are.first in
      let high = are.within in
      subst (λ (index : ℕ). RanOn l.program l.call from index old old) (sym first)
      (stayed l.program l.call from old (omega (arith, low, first, high)))

  -- one more: the maps are of the program's sizes on the way
  module _ (share : ℕ) (s : PartialReduction) (now new : MapList) (below : share < length sums)
      (here : s ≡ slice_index_or sums share s) (added : Added share now) (sizes : old.sizes ≡ l.program.sizes)
      (count : length now.words ≡ sum now.sizes) (fit : AreWords now.words)
      (others : length s.maps.words ≡ sum s.maps.sizes) (op : Op) (by : op ≡ l.op) (operands : List ℕ)
      (read : operands ≡ s.maps.words)
      (is : new ≡ record { sizes = now.sizes; words = after_run op operands now.words (length operands) }) where
    one_ran : RanTo l.program l.call from (are.start (share + 1)) old new s.broke
    one_ran =
        let its : IsSumOf l (are.start share) (are.start (share + 1)) s =
        subst (IsSumOf l (are.start share) (are.start (share + 1))) (sym here) (are.each share s below) in
        let sized = added.sizes ∙ sizes in
        let long : length s.maps.words ≡ length now.words = others ∙ ap sum (its.fits ∙ sym sized) ∙ sym count in
        let combines : new ≡ record { sizes = now.sizes; words = combined_words l.op now.words s.maps.words } = is
        ∙ ap (λ (words : List ℕ). (let maps : MapList = record { sizes = now.sizes; words = words } in maps))
        (rw (by, read) (run_is_combined l.op s.maps.words now.words long)) in
        ran_both l.program l.call from (are.start share) (are.start (share + 1)) old now new s.broke added
        (rw combines (its.adds now (record { count = count ∙ ap sum sized; fit = fit })))

    pub one_added : s.broke ≡ None → Added (share + 1) new
    one_added none = subst (RanTo l.program l.call from (are.start (share + 1)) old new) none one_ran

    pub broke_off : (answer : ℕ) → s.broke ≡ Some answer → RanTo l.program l.call from to old new (Some answer)
    broke_off answer broke =
        broke_before l.program l.call from (are.start (share + 1)) to old new answer
        (are.before (share + 1) (omega (arith, below)))
        (subst (RanTo l.program l.call from (are.start (share + 1)) old new) broke one_ran)

  pub all_added : (share : ℕ) (now : MapList) → share ≡ length sums → Added share now
      → RanTo l.program l.call from to old now None
  all_added share now all added =
      subst (λ (index : ℕ). RanOn l.program l.call from index old now) (ap are.start all ∙ are.last) added

-- a sum has a word for each of the maps'
pub as_long : (l : SumLoopOf) (sums : List PartialReduction) → ((share : ℕ) (s : PartialReduction) → share < length sums
    → IsSumFor l (slice_index_or sums share s)) → (share : ℕ) (s : PartialReduction) (old now : MapList)
    → share < length sums → s ≡ slice_index_or sums share s → now.sizes ≡ old.sizes → old.sizes ≡ l.program.sizes
    → length now.words ≡ sum now.sizes → length s.maps.words ≡ sum s.maps.sizes
    → length s.maps.words ≡ length now.words
as_long l sums fit share s old now below here kept sizes count others =
    let its : IsSumFor l s = subst (IsSumFor l) (sym here) (fit share s below) in
    others ∙ ap sum (its ∙ sym (kept ∙ sizes)) ∙ sym count
