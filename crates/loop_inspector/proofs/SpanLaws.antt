-- Spans of elements, and planes of those in them.
use Rattle.std.proofs.Common.{◌≡◌, ◌∙◌, ℕ, zero, suc, ◌+◌, ◌/◌, ◌<◌, ◌≤◌, ◌⊎◌, Bool, true}
use Rattle.std.proofs.Common.{List, [], ◌∷◌, ◌++◌, length, refl, sym, ap, subst, inl, inr, arith}
use Rattle.std.{specs.Prelude.{slice_get, Some}, proofs.{lemmas.Bool.{cases_lt, Decides.{nat_tests}}}}
use Rattle.row_facts.specs.{declared.site.Site.{Site}, Meetings.{leaves}, Elements.{reads}}
use Rattle.row_facts.proofs.FactLaws.{get-more}
use Rattle.loop_core_model.specs.Planes.{bit_of}
use Rattle.loop_marks.specs.SiteMarks.{SetsBits, over_lanes, runs_to, set_by_lane}
use Rattle.loop_inspector.specs.{declared.reach.Span.{Span}, Slices.{AvoidsOpen}}
use Rattle.loop_inspector.specs.Reach.{IsIn, IsSpanOf, AreApart, AreSitesApart}
use Rattle.loop_inspector.specs.Open.{AreKept, IsApartAt, IsInSome, IsPlaneOf, OpenAt, OpenUpto, SetsSpan}

-- an element of a list with more
pub get-kept : {X : Type 0} (xs ys : List X) (y : X) (k : ℕ) → slice_get xs k ≡ Some y
    → slice_get (xs ++ ys) k ≡ Some y
get-kept [] ys y k is = absurd (cc)
get-kept (z ∷ xs) ys y zero is = is
get-kept (z ∷ xs) ys y (suc k) is = get-kept xs ys y k is

pub get-last : {X : Type 0} (xs : List X) (x : X) (k : ℕ) → k ≡ length xs → slice_get (xs ++ x ∷ []) k ≡ Some x
get-last [] x k is = ap (slice_get (x ∷ [])) is
get-last (z ∷ xs) x k is = ap (slice_get (z ∷ xs ++ x ∷ [])) is ∙ get-last xs x (length xs) refl

-- what is in one of some spans, or in the next
in-kept : (spans : List Span) (span : Span) (e : ℕ) → IsInSome spans e → IsInSome (spans ++ span ∷ []) e
in-kept spans span e is = record {
  k = is.k;
  span = is.span;
  there = get-kept spans (span ∷ []) is.span is.k is.there;
  within = is.within;
}

in-next : (spans : List Span) (span : Span) (e : ℕ) → IsIn span e → IsInSome (spans ++ span ∷ []) e
in-next spans span e is = record {
  k = length spans;
  span = span;
  there = get-last spans span (length spans) refl;
  within = is;
}

in-more : (spans : List Span) (span : Span) (e : ℕ) → IsInSome (spans ++ span ∷ []) e
    → IsInSome spans e ⊎ IsIn span e
in-more spans span e is = elim (get-more spans span is.span is.k is.there) [
  | inl old ↦ inl (record { k = is.k; span = is.span; there = old; within = is.within })
  | inr new ↦ inr (subst (λ (s : Span). IsIn s e) (sym new.1) is.within)
]

-- sites whose spans are apart are
pub spans-apart : (at by : Site) (n : ℕ) (one other : Span) → IsSpanOf at one → IsSpanOf by other → AreApart one other
    → AreSitesApart at by n
spans-apart at by n one other at_is by_is apart = record {
  never = λ index second x y below under first_is second_is same. apart (y / 8)
      (subst (IsIn one) same (at_is.each x first_is.in_range)) (by_is.each y second_is.in_range);
}

pub avoids-more : (spans : List Span) (span one : Span) (site : Site) → IsSpanOf site one → AreApart one span
    → AvoidsOpen spans site → AvoidsOpen (spans ++ span ∷ []) site
avoids-more spans span one site is apart avoids e inside byte within same = elim (in-more spans span e inside) [
  | inl old ↦ avoids e old byte within same
  | inr new ↦ apart e (subst (IsIn one) same (is.each byte within)) new
]

-- one span more in a plane
pub plane-more : (spans : List Span) (span : Span) (elements : ℕ) (old new : List ℕ) → IsPlaneOf spans elements old
    → SetsSpan span elements old new → IsPlaneOf (spans ++ span ∷ []) elements new
plane-more spans span elements old new is sets = record {
  few = λ small. (let n : length new ≤ 1024 = omega (arith, is.few small, sets.count) in n);
  set = λ e below inside. elim (in-more spans span e inside) [
    | inl before ↦ sets.kept e (is.set e below before)
    | inr now ↦ sets.set e below now
  ];
  only = λ e bit. elim (sets.bits e bit) [
    | inl before ↦ (let one = is.only e before in (in-kept spans span e one.0, one.1))
    | inr now ↦ (in-next spans span e now.0, now.1)
  ];
}

-- bits that run on one after another
run_only : (start e lanes : ℕ) (old : Bool) → over_lanes set_by_lane (runs_to start e) lanes old ≡ true
    → old ≡ true ⊎ ((start ≤ e) × (e < start + lanes))
run_only start e zero old set = inl set
run_only start e (suc lane) old set =
    let before = run_only start e lane old in
    grind (arith, nat_tests, before)

run_kept : (start e lanes : ℕ) (old : Bool) → old ≡ true → over_lanes set_by_lane (runs_to start e) lanes old ≡ true
run_kept start e zero old is = is
run_kept start e (suc lane) old is = let before = run_kept start e lane old is in grind (arith, nat_tests, before)

run_set : (start e lanes : ℕ) (old : Bool) → start ≤ e → e < start + lanes
    → over_lanes set_by_lane (runs_to start e) lanes old ≡ true
run_set start e zero old from below = absurd (omega (arith, from, below))
run_set start e (suc lane) old from below =
    let before = run_set start e lane old from in
    grind (arith, nat_tests, before)

pub span-set : (span : Span) (elements lanes : ℕ) (old new : List ℕ) → span.first + lanes ≤ elements
    → span.first + lanes ≤ span.last + 1 → ((e : ℕ) → e < elements → e ≤ span.last → e < span.first + lanes)
    → SetsBits (runs_to span.first) lanes old new → SetsSpan span elements old new
span-set span elements lanes old new below last all sets = record {
  count = sets.count;
  bits = λ e bit. elim (run_only span.first e lanes (bit_of old e) (sym (sets.bits e) ∙ bit)) [
    | inl before ↦ inl before
    | inr run ↦ inr (record { from = run.0; upto = omega (arith, run.1, last) }, omega (arith, run.1, below))
  ];
  kept = λ e bit. sets.bits e ∙ run_kept span.first e lanes (bit_of old e) bit;
  set = λ e less is. sets.bits e ∙ run_set span.first e lanes (bit_of old e) is.from (all e less is.upto);
}

-- one site more
pub each-more : {X : Type 0} (P : ℕ → X → Type 0) (xs : List X) (n : ℕ) (x : X) → slice_get xs n ≡ Some x → P n x
    → ((k : ℕ) (y : X) → k < n → slice_get xs k ≡ Some y → P k y)
    → (k : ℕ) (y : X) → k < n + 1 → slice_get xs k ≡ Some y → P k y
each-more P xs n x there here before k y below is = elim (cases_lt k n) [
  | inl less ↦ before k y less is
  | inr past ↦
      let same : n ≡ k = omega (arith, below, past) in
      let one : x ≡ y = (let e : slice_get xs n ≡ Some y = ap (slice_get xs) same ∙ is in (cc)) in
      subst (λ (j : ℕ). P j y) same (subst (P n) one here)
]

pub open-kept : (sites : List Site) (at : Site) (n count : ℕ) (old new : List Span) → AreKept old new
    → OpenAt sites at n count old → OpenAt sites at n count new
open-kept sites at n count old new kept open_before = record {
  each = λ e k by below there left. elim (open_before.each e k by below there left) [
    | inl is ↦ inl (kept e is)
    | inr apart ↦ inr apart
  ];
}

pub open-more : (sites : List Site) (at by : Site) (n count : ℕ) (spans : List Span) → slice_get sites count ≡ Some by
    → (leaves by.op ≡ true → (e : ℕ) → IsInSome spans e ⊎ IsApartAt sites at by n e)
    → OpenAt sites at n count spans → OpenAt sites at n (count + 1) spans
open-more sites at by n count spans there here before = record {
  each = λ e. each-more (λ k other. leaves other.op ≡ true → IsInSome spans e ⊎ IsApartAt sites at other n e) sites
      count by there (λ left. here left e) (before.each e);
}

pub upto-more : (sites : List Site) (at : Site) (n count : ℕ) (old new : List Span) → slice_get sites count ≡ Some at
    → AreKept old new → (reads at.op ≡ true → OpenAt sites at n (length sites) new)
    → OpenUpto sites n count old → OpenUpto sites n (count + 1) new
upto-more sites at n count old new there kept here before = record {
  each = each-more (λ j other. reads other.op ≡ true → OpenAt sites other n (length sites) new) sites count at there
      here (λ j other below is read. open-kept sites other n (length sites) old new kept (before.each j other below is
      read));
}

-- an element is in a span, or not
in-or-not : (span : Span) (e : ℕ) → IsIn span e ⊎ (IsIn span e → ⊥)
in-or-not span e = elim (cases_lt e span.first) [
  | inl below ↦ inr (λ is. omega (arith, is.from, below))
  | inr from ↦ elim (cases_lt span.last e) [
    | inl past ↦ inr (λ is. omega (arith, is.upto, past))
    | inr upto ↦ inl (record { from = from; upto = upto })
  ]
]

-- the common elements of the spans of two sites are open, or one has no byte of it
pub open-both : (sites : List Site) (at by : Site) (n : ℕ) (one other both : Span) (spans : List Span) → IsSpanOf at one
    → IsSpanOf by other → ((e : ℕ) → IsIn one e → IsIn other e → IsIn both e)
    → ((e : ℕ) → IsIn both e → IsInSome spans e) → (e : ℕ) → IsInSome spans e ⊎ IsApartAt sites at by n e
open-both sites at by n one other both spans at_is by_is common added e = elim (in-or-not both e) [
  | inl inside ↦ inl (added e inside)
  | inr outside ↦ inr (inl (record {
    never = λ earlier later x y order below first second here there. outside
        (common e (subst (IsIn one) here (at_is.each x first.in_range)) (subst (IsIn other) there
        (by_is.each y second.in_range)));
  }))
]
