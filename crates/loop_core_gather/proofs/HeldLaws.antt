-- What gathered blocks hold, element by element.
use Rattle.std.proofs.Common.{◌≡◌, ℕ, ◌+◌, ◌/◌, ◌<◌, Bool, List, length, map, refl, sym, ◌∙◌, arith}
use Rattle.std.specs.{Prelude.{slice_index}, List.{All, range_with_len}}
use Rattle.std.proofs.lemmas.{Nat.Bits.{bit_at-zero}, List.{ext_get_or}}
use Rattle.loop_core_model.specs.Kept.{committed_of_kept}
use Rattle.shadow_marks.specs.declared.planes.Planes.{Planes}
use Rattle.private_copy.proofs.AccessLaws.{shown_at, shown_length}
use Rattle.loop_core_block.specs.{declared.block.Block.{Block as Held}, Blocks.{BlockOf}, Shown.{shown}}
use Rattle.loop_core_gather.specs.Held.{chosen, is_reduction, kept_at, left_at, left_words, IsUntouchedElement}
use Rattle.loop_core_gather.specs.{Held.{MarksTouched, AreHeld}, Pages.{HaveAllTouched, ChangesWithin}}
use Rattle.loop_core_gather.proofs.{ChoiceLaws.{all_made, all_chosen, left_alone}, SharingLaws.{none_there}}

-- words that are the same one by one
pub same_words : (f g : ℕ → ℕ) (n : ℕ) → ((e : ℕ) → e < n → f e ≡ g e) → map f (range_with_len 0 n) ≡ map g
    (range_with_len 0 n)
same_words f g n same = ext_get_or 0 (map f (range_with_len 0 n)) (map g (range_with_len 0 n))
    (shown_length f n ∙ sym (shown_length g n))
    (λ e inside. (let below : e < n = rw shown_length at inside in
    rw (shown_at f n e below, shown_at g n e below) (same e below)))

-- each block has the element
pub starts_at : (blocks : List Held) (elements e : ℕ) → All (λ b. length b.copy.start ≡ elements) (map shown blocks)
    → e < elements → All (λ b. e < length (shown b).copy.start) blocks
starts_at blocks elements e all inside k d within =
    let long = all_made shown (λ (b : BlockOf). length b.copy.start ≡ elements) blocks all k d within in
    omega (arith, long)

-- what is left at an element, where it is known whether it is reduction-only
pub element_is : (planes : Planes) (blocks : List BlockOf) (start : List ℕ) (e : ℕ) (reduced : Bool)
    → is_reduction planes e ≡ reduced → e < length start → slice_index (left_words planes blocks start) e
    ≡ committed_of_kept reduced (map (kept_at e) blocks) (slice_index start e)
element_is planes blocks start e reduced by inside =
    shown_at (left_at planes blocks start) (length start) e inside ∙ rw by refl

-- and where no bit is set the start word is left
pub start_is_left : (planes : Planes) (blocks : List BlockOf) (places start : List ℕ) (e word : ℕ) → e < length start
    → word ≡ 0 → MarksTouched word e blocks places
    → slice_index (left_words planes (chosen places blocks) start) e ≡ slice_index start e
start_is_left planes blocks places start e word inside none tells =
    element_is planes (chosen places blocks) start e _ refl inside
    ∙ left_alone (is_reduction planes e) (slice_index start e) e (chosen places blocks)
    (all_chosen (IsUntouchedElement e) blocks places
    (λ i b below found. tells i b below found (rw (none, bit_at-zero i) refl)))

-- it is left at the pages whose numbers aren't among those that were touched
pub changes_within : (planes : Planes) (blocks : List BlockOf) (places start touched numbers : List ℕ)
    → AreHeld (length start) blocks places planes touched → HaveAllTouched touched numbers
    → ChangesWithin numbers start (left_words planes (chosen places blocks) start)
changes_within planes blocks places start touched numbers held all = record {
  count = shown_length (left_at planes (chosen places blocks) start) (length start);
  others = λ e below out.
      let pages : length touched ≡ (length start + 63) / 64 = held.pages in
      let inside : e / 64 < length touched = omega (arith, pages, below) in
      start_is_left planes blocks places start e (slice_index touched (e / 64)) below
      (none_there touched numbers (e / 64) all inside out) (held.untouched e below);
}
