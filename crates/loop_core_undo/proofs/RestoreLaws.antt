-- Words that are put back, page after page.
use Rattle.std.proofs.Common.{◌≡◌, ℕ, ◌+◌, ◌/◌, ◌<◌, ◌≤◌, true, false, List, length, get_or, inl, inr, refl, sym, ◌∙◌, ap}
use Rattle.std.proofs.{Common.{arith}, lemmas.{Bool.{cases_eq}, Grind.{same_number_lists}}}
use Rattle.std.proofs.lemmas.List.FromFn.{get_or-map-range_with_len, length-map-range_with_len}
use Rattle.array_maps.specs.MapList.{MapList}
use Rattle.loop_core_undo.specs.{declared.undo_log.UndoLog.{UndoLog}, Undo.{log_elements, word_before, words_before}}
use Rattle.loop_core_undo.{specs.Pages.{PageIsBack}, proofs.UndoLaws.{from_saved, from_now}}

-- the words of the pages below one are back where they were saved
pub record AreBack (log : UndoLog) (start now : MapList) (page : ℕ) : Type 0 where
  pub sizes : now.sizes ≡ start.sizes
  pub count : length now.words ≡ length start.words
  pub done : (e : ℕ) → e < length start.words → e / 64 < page
      → get_or now.words e 0 ≡ word_before log start.words e
  pub rest : (e : ℕ) → page ≤ e / 64 → get_or now.words e 0 ≡ get_or start.words e 0

pub none_back : (log : UndoLog) (start : MapList) → AreBack log start start 0
none_back log start = record {
  sizes = refl;
  count = refl;
  done = λ e inside low. absurd (omega (arith, low));
  rest = λ e high. refl;
}

pub page_stored : (log : UndoLog) (start now later : MapList) (page : ℕ) → AreBack log start now page
    → get_or log.saved.items page false ≡ true → PageIsBack page log.before.items now later
    → AreBack log start later (page + 1)
page_stored log start now later page so_far saved back = record {
  sizes = back.sizes ∙ so_far.sizes;
  count = back.count ∙ so_far.count;
  done = λ e inside low. elim (cases_eq (e / 64) page) [
    | inl here ↦
        let count = so_far.count in
        back.here e (omega (arith, inside, count)) here
        ∙ sym (from_saved log start.words e (ap (λ (p : ℕ). get_or log.saved.items p false) here ∙ saved))
    | inr other ↦ back.others e other ∙ so_far.done e inside (omega (arith, low, other))
  ];
  rest = λ e high.
      back.others e (λ here. omega (arith, high, here)) ∙ so_far.rest e (omega (arith, high));
}

pub page_passed : (log : UndoLog) (start now : MapList) (page : ℕ) → AreBack log start now page
    → get_or log.saved.items page false ≡ false → AreBack log start now (page + 1)
page_passed log start now page so_far unsaved = record {
  sizes = so_far.sizes;
  count = so_far.count;
  done = λ e inside low. elim (cases_eq (e / 64) page) [
    | inl here ↦
        so_far.rest e (omega (arith, here))
        ∙ sym (from_now log start.words e (ap (λ (p : ℕ). get_or log.saved.items p false) here ∙ unsaved))
    | inr other ↦ so_far.done e inside (omega (arith, low, other))
  ];
  rest = λ e high. so_far.rest e (omega (arith, high));
}

-- maps of these sizes and words
maps_like : (now : MapList) (sizes words : List ℕ) → now.sizes ≡ sizes → now.words ≡ words
    → now ≡ record { sizes = sizes; words = words }
maps_like now sizes words same_sizes same_words =
    let make : List ℕ → List ℕ → MapList = λ s w. record { sizes = s; words = w } in
    ap (λ (s : List ℕ). make s now.words) same_sizes ∙ ap (λ (w : List ℕ). make sizes w) same_words

pub all_back : (log : UndoLog) (start now : MapList) (page : ℕ) → AreBack log start now page
    → length start.words ≡ log_elements log → length log.saved.items ≤ page
    → now ≡ record { sizes = start.sizes; words = words_before log start.words }
all_back log start now page so_far count all =
    let paged = log.paged in
    let long = length-map-range_with_len (word_before log start.words) 0 (length start.words) in
    maps_like now start.sizes (words_before log start.words) so_far.sizes
    (same_number_lists now.words (words_before log start.words) (so_far.count ∙ sym long) (λ e inside.
    let same = so_far.count in
    let within : e < length start.words = omega (arith, inside, same) in
    so_far.done e within (omega (arith, within, count, all, paged))
    ∙ sym (get_or-map-range_with_len (word_before log start.words) 0 (length start.words) e e 0 within (omega arith))))
