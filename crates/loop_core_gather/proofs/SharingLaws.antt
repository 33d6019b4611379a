-- Pages that were touched, and what is left at them.
use Rattle.std.proofs.Common.{◌≡◌, ◌≢◌, ℕ, ◌+◌, ◌<◌, ◌≤◌, true, false, eqb, List, [], ◌∷◌, ◌++◌, take, length, get_or}
use Rattle.std.{proofs.Common.{refl, sym, ◌∙◌, inl, inr, arith, eq-eqb}, specs.Prelude.{slice_index}}
use Rattle.std.{specs.List.{AllByRecursion, AllZip}, proofs.lemmas.{Bool.{cases_eq}, List.{take_more, take_all}}}
use Rattle.std.proofs.{lemmas.List.Folds.{list_any-append}, Math.Bool.{or-true}}
use Rattle.private_copy.specs.Touched.{has_page}
use Rattle.loop_core_gather.specs.declared.storing.LeftPage.{LeftPage}
use Rattle.loop_core_gather.specs.Pages.{IsPageOf, HaveAllTouched, ChangesWithin, IsLeftAt, numbers_of, AreLeft}

-- of the pages below one those that were touched are in a list
abbrev pub HaveTouchedBelow : (touched : List ℕ) (n : ℕ) (pages : List ℕ) → Type 0
HaveTouchedBelow touched n pages = (page : ℕ) → page < n → slice_index touched page ≢ 0 → has_page pages page ≡ true

-- a page more
pub touched_next : (touched pages : List ℕ) (n p : ℕ) → p ≡ n → HaveTouchedBelow touched n pages
    → HaveTouchedBelow touched (n + 1) (pages ++ p ∷ [])
touched_next touched pages n p same so_far page below set =
    rw (list_any-append (λ other. eqb page other) pages (p ∷ [])) (elim (cases_eq page n) [
      | inl here ↦ rw (eq-eqb page p (here ∙ sym same)) (or-true (has_page pages page))
      | inr apart ↦ rw (so_far page (omega arith) set) refl
    ])

-- a page that wasn't touched is passed over
pub untouched_next : (touched pages : List ℕ) (n : ℕ) → slice_index touched n ≡ 0 → HaveTouchedBelow touched n pages
    → HaveTouchedBelow touched (n + 1) pages
untouched_next touched pages n none so_far page below set =
    elim (cases_eq page n) [
      | inl here ↦ absurd (set (rw here none))
      | inr apart ↦ so_far page (omega arith) set
    ]

-- what isn't in the list wasn't touched
pub none_there : (touched pages : List ℕ) (page : ℕ) → HaveAllTouched touched pages → page < length touched
    → has_page pages page ≡ false → slice_index touched page ≡ 0
none_there touched pages page all within out =
    elim (cases_eq (slice_index touched page) 0) [
      | inl none ↦ none
      | inr set ↦ absurd (let there = all page within set in cc)
    ]

-- the pages of these numbers, and of one more
zip_more : (left numbers : List ℕ) (pages : List LeftPage) (number : ℕ) (page : LeftPage)
    → AllZip (IsLeftAt left) numbers pages → IsLeftAt left number page
    → AllZip (IsLeftAt left) (numbers ++ number ∷ []) (pages ++ page ∷ [])
zip_more left [] [] number page all one = (one, tt)
zip_more left (n ∷ numbers) (p ∷ pages) number page all one =
    (all.0, zip_more left numbers pages number page all.1 one)
zip_more left numbers pages number page all one = absurd all

pub zip_next : (left numbers : List ℕ) (pages new : List LeftPage) (n number : ℕ) (page : LeftPage) → n < length numbers
    → number ≡ get_or numbers n 0 → IsLeftAt left number page → new ≡ pages ++ page ∷ []
    → AllZip (IsLeftAt left) (take n numbers) pages → AllZip (IsLeftAt left) (take (n + 1) numbers) new
zip_next left numbers pages new n number page inside is one made so_far =
    rw (made, take_more numbers n 0 inside) (zip_more left (take n numbers) pages (get_or numbers n 0) page so_far
    (rw is at one))

-- and all of them
pub zip_all : (left numbers : List ℕ) (pages : List LeftPage) (n : ℕ) → length numbers ≤ n
    → AllZip (IsLeftAt left) (take n numbers) pages → AllZip (IsLeftAt left) numbers pages
zip_all left numbers pages n past all = rw (take_all n numbers past) at all

-- they have these numbers, and hold what is left there
each_is : (left numbers : List ℕ) (pages : List LeftPage) → AllZip (IsLeftAt left) numbers pages
    → (numbers_of pages ≡ numbers) × AllByRecursion (λ (page : LeftPage). IsPageOf left page.number page.words) pages
each_is left [] [] all = (refl, tt)
each_is left (n ∷ numbers) (p ∷ pages) all =
    let later = each_is left numbers pages all.1 in
    (rw (all.0.number_is, later.0) refl, (rw all.0.number_is all.0.words_are, later.1))
each_is left numbers pages all = absurd all

-- pages of these numbers hold what is left
pub are_left : (start left numbers : List ℕ) (pages : List LeftPage) → ChangesWithin numbers start left
    → AllZip (IsLeftAt left) numbers pages → AreLeft start left pages
are_left start left numbers pages within all =
    let each = each_is left numbers pages all in
    record { each = each.1; within = rw each.0 within }
