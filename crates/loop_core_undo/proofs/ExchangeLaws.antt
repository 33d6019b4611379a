-- Words that are exchanged with those that were saved, page after page.
use Rattle.std.proofs.Common.{◌≡◌, ℕ, ◌+◌, ◌/◌, ◌<◌, ◌≤◌, true, false, length, get_or, inl, inr, refl, sym, ◌∙◌, ap}
use Rattle.std.proofs.{Common.{arith}, lemmas.{Bool.{cases_eq, cases_Bool, both_ways}, Grind.{same_number_lists}}}
use Rattle.std.proofs.lemmas.List.FromFn.{get_or-map-range_with_len, length-map-range_with_len}
use Rattle.array_maps.specs.MapList.{MapList}
use Rattle.loop_core_undo.specs.{declared.undo_log.UndoLog.{UndoLog}, Pages.{PageIsBack, PageIsExchanged}}
use Rattle.loop_core_undo.specs.Undo.{log_elements, is_saved, word_before, words_before}
use Rattle.loop_core_undo.proofs.RestoreLaws.{AreBack, none_back, page_stored, page_passed}
use Rattle.loop_core_undo.proofs.UndoLaws.{from_saved, from_now}

-- the words of the pages below one are exchanged where they were saved
pub record AreExchanged (log now : UndoLog) (start later : MapList) (page : ℕ) : Type 0 where
  pub back : AreBack log start later page
  pub written : now.written.items ≡ log.written.items
  pub saved : now.saved.items ≡ log.saved.items
  pub done : (e : ℕ) → e < length start.words → e / 64 < page → is_saved log e ≡ true
      → get_or now.before.items e 0 ≡ get_or start.words e 0
  pub rest : (e : ℕ) → page ≤ e / 64 → get_or now.before.items e 0 ≡ get_or log.before.items e 0

pub none_exchanged : (log : UndoLog) (start : MapList) → AreExchanged log log start start 0
none_exchanged log start = record {
  back = none_back log start;
  written = refl;
  saved = refl;
  done = λ e inside low told. absurd (omega (arith, low));
  rest = λ e high. refl;
}

-- a page's words are those that were saved first
page_first : (log now : UndoLog) (start later new : MapList) (page : ℕ) → AreExchanged log now start later page
    → PageIsBack page now.before.items later new → PageIsBack page log.before.items later new
page_first log now start later new page so_far back = record {
  sizes = back.sizes;
  count = back.count;
  here = λ e inside at. back.here e inside at ∙ so_far.rest e (omega (arith, at));
  others = back.others;
}

pub page_exchanged : (log now next : UndoLog) (start later new : MapList) (page : ℕ)
    → AreExchanged log now start later page → get_or now.saved.items page false ≡ true
    → PageIsExchanged page now next later new → AreExchanged log next start new (page + 1)
page_exchanged log now next start later new page so_far saved one = record {
  back = page_stored log start later new page so_far.back
      (ap (λ items. get_or items page false) (sym so_far.saved) ∙ saved)
      (page_first log now start later new page so_far one.back);
  written = one.written ∙ so_far.written;
  saved = one.saved ∙ so_far.saved;
  done = λ e inside low told. elim (cases_eq (e / 64) page) [
    | inl here ↦
        let count = so_far.back.count in
        one.here e (omega (arith, inside, count)) here ∙ so_far.back.rest e (omega (arith, here))
    | inr other ↦ one.others e other ∙ so_far.done e inside (omega (arith, low, other)) told
  ];
  rest = λ e high.
      one.others e (λ here. omega (arith, high, here)) ∙ so_far.rest e (omega (arith, high));
}

pub page_left : (log now : UndoLog) (start later : MapList) (page : ℕ) → AreExchanged log now start later page
    → get_or now.saved.items page false ≡ false → AreExchanged log now start later (page + 1)
page_left log now start later page so_far unsaved =
    let not_saved : get_or log.saved.items page false ≡ false =
    ap (λ items. get_or items page false) (sym so_far.saved) ∙ unsaved in
    record {
      back = page_passed log start later page so_far.back not_saved;
      written = so_far.written;
      saved = so_far.saved;
      done = λ e inside low told. elim (cases_eq (e / 64) page) [
        | inl here ↦
            absurd (both_ways (get_or log.saved.items page false) not_saved
            (ap (λ (p : ℕ). get_or log.saved.items p false) (sym here) ∙ told))
        | inr other ↦ so_far.done e inside (omega (arith, low, other)) told
      ];
      rest = λ e high. so_far.rest e (omega (arith, high));
    }

-- all words that were there are those from before, by the log that has them
pub all_exchanged : (log now : UndoLog) (start later : MapList) (page : ℕ) → AreExchanged log now start later page
    → length start.words ≡ log_elements log → length log.saved.items ≤ page
    → words_before now later.words ≡ start.words
all_exchanged log now start later page so_far count all =
    let paged = log.paged in
    let many = so_far.back.count in
    let long = length-map-range_with_len (word_before now later.words) 0 (length later.words) in
    same_number_lists (words_before now later.words) start.words (long ∙ many) (λ e inside.
    let within : e < length start.words = omega (arith, inside, long, many) in
    let under : e / 64 < page = omega (arith, within, count, all, paged) in
    let same : is_saved now e ≡ is_saved log e = ap (λ items. get_or items (e / 64) false) so_far.saved in
    get_or-map-range_with_len (word_before now later.words) 0 (length later.words) e e 0
    (omega (arith, within, many)) (omega arith)
    ∙ elim (cases_Bool (is_saved log e)) [
      | inl told ↦ from_saved now later.words e (same ∙ told) ∙ so_far.done e within under told
      | inr untold ↦
          from_now now later.words e (same ∙ untold) ∙ so_far.back.done e within under
          ∙ from_now log start.words e untold
    ])
