-- What is noted of batches.
use Rattle.std.proofs.Common.{◌≡◌, ℕ, ◌+◌, ◌-◌, ◌<◌, ◌≤◌, Bool, true, false, ◌&&◌, ◌==◌, ◌⊎◌, inl, inr, All, List}
use Rattle.std.proofs.Common.{length, take, slice_index_or, refl, sym, ◌∙◌, ap, arith}
use Rattle.std.{specs.Prelude.{nat_le, nat_lt}, proofs.lemmas.List.Elements.{All-more, All-take}}
use Rattle.std.proofs.lemmas.Bool.{cases_eq, both_ways, or_cases, or_left, or_right, and_from, and_parts, eq-eqb}
use Rattle.std.proofs.lemmas.{Bool.{eqb-true, le-leb, leb-true, lt-ltb, ltb-true}, List.{get_or_default}}
use Rattle.lane_rows.specs.{declared.{mask.Mask.{Mask}, places.Places.{Places}}, Rows.{is_in}}
use Rattle.lane_stamps.specs.{declared.site.Site.{Site}, Forms.{RunsFrom}}
use Rattle.lane_stamps.specs.Sites.{IsWithin, LaneRows, element_named, is_of_halves, leaves, mask_of, places_of}
use Rattle.loop_core_undo.specs.{declared.undo_log.UndoLog.{UndoLog}, Undo.{log_elements, is_written, MarksMore}}
use Rattle.loop_core_sequential.specs.Watched.{IsNoted, element_at}
use Rattle.loop_core_sequential.specs.Noting.{AreBelow, Grows, IsLeft, LanesNoted}

-- a log grows by what is marked
grows_more : {words : List ℕ} {old between new : UndoLog} → Grows words old between → Grows words between new
    → Grows words old new
grows_more first second = record {
  count = second.count ∙ first.count;
  written = λ e inside was. second.written e (rw first.count inside) (first.written e inside was);
  before = λ e inside. second.before e (rw first.count inside) ∙ first.before e inside;
}

grows_by : {which : ℕ → Bool} {words : List ℕ} {old new : UndoLog} → MarksMore which words old new
    → Grows words old new
grows_by {which} {words} {old} marks = record {
  count = marks.count;
  written = λ e inside was. marks.written e inside ∙ or_left (is_written old e) (which e) was;
  before = marks.before;
}

-- an element is one of a run
abbrev pub in_run : (first count : ℕ) → ℕ → Bool
in_run first count other = nat_le first other && nat_lt other (first + count)

-- lanes along a run are noted, all of which are in a mask
pub run_noted_all : (words : List ℕ) (lanes : ℕ) (halves : Bool) (mask : Mask) (places : Places) (old new : UndoLog)
    → mask.all ≡ true → AreBelow (log_elements old) lanes halves mask places → (first : ℕ)
    → RunsFrom halves first places lanes → MarksMore (in_run (element_named halves first) lanes) words old new
    → LanesNoted words lanes halves mask places old new
run_noted_all words lanes halves mask places old new all within first runs marks = record {
  grows = grows_by marks;
  noted = λ lane below made.
      let at = runs.element lane below in
      marks.written (element_at halves places lane) (within lane below made)
      ∙ or_right _ _ (and_from _ _
      (le-leb (element_named halves first) (element_at halves places lane) (omega arith))
      (lt-ltb (element_at halves places lane) (element_named halves first + lanes) (omega arith)));
  only = λ e inside was. elim (or_cases _ _ (sym (marks.written e inside) ∙ was)) [
    | inl before ↦ inl before
    | inr here ↦
        let parts = and_parts _ _ here in
        let low : element_named halves first ≤ e = leb-true _ _ parts.0 in
        let high : e < element_named halves first + lanes = ltb-true _ _ parts.1 in
        let at = runs.element (e - element_named halves first) (omega arith) in
        inr (record {
          lane = e - element_named halves first;
          below = omega arith;
          made = rw all refl;
          at = omega arith;
        })
  ];
}

-- a lane is in a mask, and an element is the lane's
abbrev pub is_lanes : Bool → Mask → Places → (lane : ℕ) → ℕ → Bool
is_lanes halves mask places lane e = is_in mask lane && (element_at halves places lane == e)

-- one lane more
pub one_noted : (words : List ℕ) (lane : ℕ) (halves : Bool) (mask : Mask) (places : Places) (first log new : UndoLog)
    → ((k : ℕ) → k < lane + 1 → is_in mask k ≡ true → element_at halves places k < log_elements first)
    → MarksMore (is_lanes halves mask places lane) words log new
    → LanesNoted words lane halves mask places first log → LanesNoted words (lane + 1) halves mask places first new
one_noted words lane halves mask places first log new within marks so_far = record {
  grows = grows_more so_far.grows (grows_by marks);
  noted = λ k below made.
      marks.written (element_at halves places k) (rw so_far.grows.count (within k below made))
      ∙ elim (cases_eq k lane) [
        | inl same ↦ or_right _ _
            (and_from _ _ (rw same at made) (eq-eqb _ _ (ap (element_at halves places) (sym same))))
        | inr other ↦ or_left _ _ (so_far.noted k (omega arith) made)
      ];
  only = λ e under was. elim (or_cases _ _ (sym (marks.written e (rw so_far.grows.count under)) ∙ was)) [
    | inl before ↦ elim (so_far.only e under before) [
      | inl at_first ↦ inl at_first
      | inr has ↦ inr (record { lane = has.lane; below = omega arith; made = has.made; at = has.at })
    ]
    | inr here ↦
        let parts = and_parts _ _ here in
        inr (record { lane = lane; below = omega arith; made = parts.0; at = eqb-true _ _ parts.1 })
  ];
}

-- the sites before one are noted, in a log that grew
pub record NotedUpTo (words : List ℕ) (first : UndoLog) (lanes : ℕ) (rows : LaneRows) (sites : List Site) (k : ℕ)
    (log : UndoLog) : Type 0 where
  pub grows : Grows words first log
  pub noted : All (IsNoted (is_written log) lanes rows) (take k sites)
  pub only : (e : ℕ) → e < log_elements first → is_written log e ≡ true
      → (is_written first e ≡ true) ⊎ IsLeft lanes rows sites e

-- one site more
pub noted_site : {words : List ℕ} {first log new : UndoLog} {lanes : ℕ} {rows : LaneRows} {sites : List Site} {k : ℕ}
    (d : Site) → k < length sites → NotedUpTo words first lanes rows sites k log
    → All (IsWithin (log_elements first) lanes rows) sites → leaves (slice_index_or sites k d).kind ≡ true
    → LanesNoted words lanes (is_of_halves (slice_index_or sites k d).kind) (mask_of rows (slice_index_or sites k d))
    (places_of rows (slice_index_or sites k d)) log new
    → NotedUpTo words first lanes rows sites (k + 1) new
noted_site {words} {first} {log} {new} {lanes} {rows} {sites} {k} d inside so_far within left noted = record {
  grows = grows_more so_far.grows noted.grows;
  noted = All-more (IsNoted (is_written new) lanes rows) sites k d inside
      (λ j d' less left' lane below made. noted.grows.written _ (rw so_far.grows.count
      (All-take (IsWithin (log_elements first) lanes rows) k sites within j d' less lane below made))
      (so_far.noted j d' less left' lane below made)) (λ left'. noted.noted);
  only = λ e under was. elim (noted.only e (rw so_far.grows.count under) was) [
    | inl before ↦ so_far.only e under before
    | inr has ↦ inr (record {
      k = k;
      below = inside;
      leaves_it = λ d'. rw (get_or_default sites k d' d inside) left;
      has = λ d'. rw (get_or_default sites k d' d inside) has;
    })
  ];
}

-- which leaves no word
pub noted_none : {words : List ℕ} {first log : UndoLog} {lanes : ℕ} {rows : LaneRows} {sites : List Site} {k : ℕ}
    (d : Site) → k < length sites → NotedUpTo words first lanes rows sites k log
    → leaves (slice_index_or sites k d).kind ≡ false → NotedUpTo words first lanes rows sites (k + 1) log
noted_none {words} {first} {log} {lanes} {rows} {sites} {k} d inside so_far none = record {
  grows = so_far.grows;
  noted = All-more (IsNoted (is_written log) lanes rows) sites k d inside so_far.noted
      (λ left lane below made. absurd (both_ways (leaves (slice_index_or sites k d).kind) none left));
  only = so_far.only;
}
