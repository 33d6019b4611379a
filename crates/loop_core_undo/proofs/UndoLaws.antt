-- What an undo log keeps.
use Rattle.std.proofs.Common.{◌≡◌, ℕ, ◌+◌, ◌*◌, ◌/◌, ◌<◌, ◌≤◌, not, Bool, true, false, List, length, get_or, inl, inr}
use Rattle.std.proofs.{Common.{refl, sym, subst, ◌∙◌, ap, arith}, lemmas.Bool.{not-true, not_from_false}}
use Rattle.std.proofs.lemmas.Bool.{cases_Bool, cases_lt, both_ways, false_from_ne_true, or_parts, cond-true, cond-false}
use Rattle.std.proofs.{lemmas.{List.{get_or_past}, Grind.{same_number_lists}}, Math.Nat.{mul-div_cancel}}
use Rattle.std.proofs.lemmas.List.FromFn.{get_or-map-range_with_len, length-map-range_with_len}
use Rattle.loop_core_undo.specs.{declared.undo_log.UndoLog.{UndoLog}, Pages.{KeepsBefore}}
use Rattle.loop_core_undo.specs.Undo.{log_elements, is_written, is_saved, word_before, words_before, MarksMore}

-- an element whose page isn't saved isn't told written
pub unwritten : (log : UndoLog) (e : ℕ) → is_saved log e ≡ false → is_written log e ≡ false
unwritten log e unsaved =
    false_from_ne_true (is_written log e) (λ told. both_ways (is_saved log e) unsaved (log.kept e told))

pub from_saved : (log : UndoLog) (now : List ℕ) (e : ℕ) → is_saved log e ≡ true
    → word_before log now e ≡ get_or log.before.items e 0
from_saved log now e = cond-true (is_saved log e) (get_or log.before.items e 0) (get_or now e 0)

pub from_now : (log : UndoLog) (now : List ℕ) (e : ℕ) → is_saved log e ≡ false
    → word_before log now e ≡ get_or now e 0
from_now log now e = cond-false (is_saved log e) (get_or log.before.items e 0) (get_or now e 0)

-- an element whose word is the same unless it is told written
pub kept_at : (log : UndoLog) (now later : List ℕ) (e : ℕ)
    → (is_written log e ≡ false → get_or later e 0 ≡ get_or now e 0)
    → word_before log later e ≡ word_before log now e
kept_at log now later e same = elim (cases_Bool (is_saved log e)) [
  | inl told ↦ from_saved log later e told ∙ sym (from_saved log now e told)
  | inr untold ↦
      from_now log later e untold ∙ same (unwritten log e untold) ∙ sym (from_now log now e untold)
]

-- where words change only at elements that are told written, the words from when the log was empty are the same
pub kept_before : (log : UndoLog) (now later : List ℕ)
    → ((e : ℕ) → is_written log e ≡ false → get_or later e 0 ≡ get_or now e 0)
    → (e : ℕ) → word_before log later e ≡ word_before log now e
kept_before log now later same e = kept_at log now later e (same e)

-- pages that are saved
pub keeps_same : (now : List ℕ) (log : UndoLog) → KeepsBefore now log log
keeps_same now log = record { written = refl; saved = λ page told. told; before = λ e inside. refl }

pub keeps_more : (now : List ℕ) (log between later : UndoLog) → KeepsBefore now log between
    → KeepsBefore now between later → KeepsBefore now log later
keeps_more now log between later first then = record {
  written = then.written ∙ first.written;
  saved = λ page told. then.saved page (first.saved page told);
  before = λ e inside.
      let count : length between.written.items ≡ length log.written.items = ap length first.written in
      then.before e (omega (arith, inside, count)) ∙ first.before e inside;
}

-- elements that are about to be written are told so, and their words change then
pub changed_before : (which : ℕ → Bool) (now later : List ℕ) (old new : UndoLog) → MarksMore which now old new
    → ((e : ℕ) → which e ≡ false → get_or later e 0 ≡ get_or now e 0)
    → (e : ℕ) → e < log_elements old → word_before new later e ≡ word_before old now e
changed_before which now later old new marks same e inside =
    kept_at new now later e (λ untold. same e
    (or_parts (is_written old e) (which e) (sym (marks.written e inside) ∙ untold)).1) ∙ marks.before e inside

-- all words from when a log was empty are those from when another was
pub same_words_before : (log other : UndoLog) (now later : List ℕ) → length later ≡ length now
    → ((e : ℕ) → e < length now → word_before other later e ≡ word_before log now e)
    → words_before other later ≡ words_before log now
same_words_before log other now later count same =
    let old = length-map-range_with_len (word_before log now) 0 (length now) in
    let new = length-map-range_with_len (word_before other later) 0 (length later) in
    same_number_lists (words_before other later) (words_before log now) (new ∙ count ∙ sym old) (λ e inside.
    let within : e < length now = omega (arith, inside, new, count) in
    let under : e < length later = omega (arith, within, count) in
    get_or-map-range_with_len (word_before other later) 0 (length later) e e 0 under (omega arith)
    ∙ same e within
    ∙ sym (get_or-map-range_with_len (word_before log now) 0 (length now) e e 0 within (omega arith)))

-- of an empty log they are the words now
pub empty_words_before : (log : UndoLog) (now : List ℕ) → ((e : ℕ) → is_saved log e ≡ false)
    → words_before log now ≡ now
empty_words_before log now unsaved =
    let long = length-map-range_with_len (word_before log now) 0 (length now) in
    same_number_lists (words_before log now) now long (λ e inside.
    let within : e < length now = omega (arith, inside, long) in
    get_or-map-range_with_len (word_before log now) 0 (length now) e e 0 within (omega arith)
    ∙ from_now log now e (unsaved e))

-- whether any of all pages is saved says it of the pages of all elements
pub pages_unset : (saved : List Bool) (count : ℕ) (any : Bool) → count ≡ length saved
    → (any ≡ false → (k : ℕ) → k < count → get_or saved (0 + k) false ≡ false)
    × (((k : ℕ) → k < count → get_or saved (0 + k) false ≡ false) → any ≡ false)
    → (not any ≡ true → (e : ℕ) → get_or saved (e / 64) false ≡ false)
    × (((e : ℕ) → get_or saved (e / 64) false ≡ false) → not any ≡ true)
pages_unset saved count any all is = (
  λ none e. elim (cases_lt (e / 64) count) [
    | inl within ↦ from_zero (e / 64) (is.0 (not-true any none) (e / 64) within)
    | inr past ↦ get_or_past saved (e / 64) false (omega (arith, past, all))
  ],
  λ unset. not_from_false any (is.1 (λ page within.
      subst (λ (n : ℕ). get_or saved n false ≡ false) (at_page page) (unset (page * 64)))),
)
  where
    from_zero : (page : ℕ) → get_or saved (0 + page) false ≡ false → get_or saved page false ≡ false
    from_zero page = subst (λ (n : ℕ). get_or saved n false ≡ false) (omega arith)

    at_page : (page : ℕ) → page * 64 / 64 ≡ 0 + page
    at_page page = let same : page * 64 / 64 ≡ page = mul-div_cancel page (omega arith) in omega (arith, same)
