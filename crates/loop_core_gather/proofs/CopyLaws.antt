-- Blocks of which only the planes are others.
use Rattle.std.proofs.Common.{◌≡◌, ℕ, ◌<◌, ◌≤◌, ◌/◌, List, [], ◌∷◌, length, map, get_or, set, Option, Some, None}
use Rattle.std.{proofs.Common.{refl, sym, ap, subst, arith}, specs.Option.{option_map}}
use Rattle.std.specs.{Prelude.{slice_get, slice_index}, List.{cons_option}}
use Rattle.std.proofs.Math.{ListN.{drop_of_length-le, get_or-map}, Seq.{map-set_same}}
use Rattle.std.proofs.lemmas.{Option.{slice_get-map}, List.{length-map, map-set, append-nil, Elements.{All-map}}}
use Rattle.loop_core_model.specs.{declared.loop_test.Test.{Test}, Marks.{Visit}}
use Rattle.shadow_marks.specs.{declared.planes.Planes.{Planes}, Standing.{StandFor}}
use Rattle.private_copy.specs.Copies.{PrivateCopy}
use Rattle.loop_core_block.specs.{declared.block.Block.{Block as Held}, Blocks.{BlockOf}, Shown.{shown}}
use Rattle.loop_core_gather.specs.Held.{chosen, visits_at, kept_at, left_words, IsUntouchedElement, MarksTouched}
use Rattle.loop_core_gather.specs.Held.{AreHeld, AreInOne, HavePlanes, HaveCopiesOf, left_at}
use Rattle.loop_core_gather.proofs.{ChoiceLaws.{chosen_next, all_made, all_at}, HeldLaws.{same_words}}

abbrev copy_in : BlockOf → PrivateCopy
copy_in b = b.copy

module _ (old new : List BlockOf) (same : HaveCopiesOf old new) where
  copies_at : (place : ℕ) → option_map copy_in (slice_get new place) ≡ option_map copy_in (slice_get old place)
  copies_at place = rw (← slice_get-map copy_in new place, ← slice_get-map copy_in old place, same) refl

  kept_same : (e : ℕ) (places : List ℕ) → map (kept_at e) (chosen places new) ≡ map (kept_at e) (chosen places old)
  kept_same e [] = refl
  kept_same e (place ∷ places) =
      front (slice_get new place) (slice_get old place) (copies_at place) (kept_same e places)
    where
      front : (o p : Option BlockOf) → option_map copy_in o ≡ option_map copy_in p
          → map (kept_at e) (chosen places new) ≡ map (kept_at e) (chosen places old)
          → map (kept_at e) (cons_option o (chosen places new)) ≡ map (kept_at e) (cons_option p (chosen places old))
      front None None copies rest = rest
      front (Some a) (Some b) copies rest = let its : a.copy ≡ b.copy = cc in rw (its, rest) refl
      front o p copies rest = absurd (cc)

  -- they leave the same words
  pub words_same : (planes : Planes) (places start : List ℕ) → left_words planes (chosen places new) start
      ≡ left_words planes (chosen places old) start
  words_same planes places start = same_words (left_at planes (chosen places new) start)
      (left_at planes (chosen places old) start) (length start) (λ e inside. rw (kept_same e places) refl)

  marks_same : (word e : ℕ) (places : List ℕ) → MarksTouched word e old places → MarksTouched word e new places
  marks_same word e places tells i b below found unset =
      by (slice_get old (slice_index places i)) refl (rw found at (copies_at (slice_index places i)))
    where
      by : (o : Option BlockOf) → slice_get old (slice_index places i) ≡ o → Some b.copy ≡ option_map copy_in o
          → IsUntouchedElement e b
      by None is copies = absurd (cc)
      by (Some a) is copies =
          let its : b.copy ≡ a.copy = cc in
          let none = tells i a below is unset in
          record { last_value = rw its none.last_value; partial = rw its none.partial }

  -- and are held as well
  pub held_same : (elements : ℕ) (places : List ℕ) (planes : Planes) (touched : List ℕ)
      → AreHeld elements old places planes touched → AreHeld elements new places planes touched
  held_same elements places planes touched held =
      let many : length new ≡ length old = simp length-map at (ap length same) in
      record {
        few = held.few;
        within = rw many held.within;
        starts = all_made copy_in (λ (c : PrivateCopy). length c.start ≡ elements) new
            (rw same (All-map (λ (c : PrivateCopy). length c.start ≡ elements) copy_in old held.starts));
        whole = held.whole;
        stand = held.stand;
        count = held.count;
        pages = held.pages;
        untouched = λ e inside. marks_same (slice_index touched (e / 64)) e places (held.untouched e inside);
      }

-- the copies after one block more has other planes
pub copies_set : (blocks : List Held) (place : ℕ) (b : Held) → (shown b).copy ≡ (shown (get_or blocks place b)).copy
    → HaveCopiesOf (map shown blocks) (map shown (set blocks place b))
copies_set blocks place b same =
    rw map-set (map-set_same copy_in (map shown blocks) place (shown b) (shown b)
    (rw (get_or-map shown blocks place b) same))

-- the planes of one block alone stand for its visits
pub one_in_one : (elements : ℕ) (test : Test) (blocks : List Held) (places : List ℕ) (b : Held) → length places ≡ 1
    → get_or places 0 0 < length blocks → b ≡ get_or blocks (get_or places 0 0) b → HavePlanes elements test (shown b)
    → AreInOne elements test (map shown blocks) places (shown b).planes
one_in_one elements test blocks places b one within at have =
    let inside : 0 < length places = omega arith in
    let past : length places ≤ 1 = omega arith in
    let visits_are : (each : BlockOf → ℕ → List Visit) (e : ℕ)
    → visits_at each (chosen places (map shown blocks)) e ≡ each (shown b) e =
    λ each e. rw (chosen_next blocks places 0 b inside within at, drop_of_length-le places past, append-nil) refl in
    record {
      stand = have.stand;
      count = have.count;
      test_is = have.test_is;
      visits = λ each all. subst (StandFor (shown b).planes) (λ j e. sym (visits_are each e) j)
          (all_at (λ other. StandFor other.planes (each other)) blocks (get_or places 0 0) b within at all);
    }
