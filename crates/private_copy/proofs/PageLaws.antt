-- What placing a page does to the lists of pages.
use Rattle.std.proofs.Common.{◌≡◌, ℕ, ◌+◌, ◌/◌, ◌%◌, ◌<◌, ◌≤◌, true, false, ◌||◌, eqb, ltb, Option, Some, None, List}
use Rattle.std.proofs.Common.{◌∷◌, ◌++◌, length, take, get_or, set, replicate, is_some, map, sym, ◌∙◌, ap, inl, inr}
use Rattle.std.proofs.Common.{[], arith, length-set, get_or-set_same, get_or-set_other, eq-eqb, ne_eqb, refl}
use Rattle.std.{specs.List.{position, swap}}
use Rattle.std.{proofs.{lemmas.Bool.{eqb-true, cases_eq, cases_lt, true≢false}, Math.Nat.{mod-lt}}}
use Rattle.std.proofs.lemmas.{Bool.Decides.{nat_tests}, List.Edits.{swap_is}, List.Quantifiers.{position-Some}}
use Rattle.std.proofs.lemmas.List.{take_all, take-set-le, take_more_set, get_or-take, length-take, get_or-replicate}
use Rattle.std.proofs.lemmas.List.{length-replicate, get_or_past, Folds.{list_any-append, list_any_at}}
use Rattle.std.{specs.Prelude.{Box, slice_get, IfSome}, specs.declared.alloc.Global.{Global}}
use Rattle.std.proofs.{lemmas.Option.{slice_get_within, slice_get-get_or, get_or_from_slice_get}}
use Rattle.std.proofs.{Math.Bool.{or-false, or-true}}
use Rattle.std.proofs.Math.{ListN.{get_or-map}, Seq.{map-set_same}}
use Rattle.private_copy.specs.{declared.page.Cell.{Cell}, Touched.{has_page}}
use Rattle.private_copy.specs.{declared.page.Page.{Page}, Cells.{blank, blank_cells, cell_in, cells_of, IsBlank}}
use Rattle.private_copy.proofs.PageCells.{first_cell_at, blank_page_cells}

abbrev pub Slot : Type 0
Slot = Option (Box Page Global)

-- where a page that isn't among the first stands
pub record Stands (keys : List ℕ) (n p at : ℕ) : Type 0 where
  pub behind : n ≤ at
  pub within : at < length keys
  pub is : get_or keys at 0 ≡ p

pub where_stands : (keys : List ℕ) (n p at : ℕ) → slice_get keys at ≡ Some p → has_page (take n keys) p ≡ false
    → Stands keys n p at
where_stands keys n p at found absent =
    let inside : at < length keys = slice_get_within keys at p found in
    let here : get_or keys at 0 ≡ p = get_or_from_slice_get keys at p 0 found in
    record {
      behind = elim (cases_lt at n) [
        | inl before ↦ absurd (true≢false (sym (list_any_at (λ other. eqb p other) (take n keys) at 0
            (omega (arith, inside, before, length-take n keys))
            (rw (get_or-take n keys at 0 before, here) (eq-eqb p p refl))) ∙ absent))
        | inr after ↦ after
      ];
      within = inside;
      is = here;
    }

-- a number that is found stands there
pub found_if : (keys : List ℕ) (p : ℕ) (found : Option ℕ) → found ≡ position (λ other. eqb p other) keys
    → IfSome found (λ at. slice_get keys at ≡ Some p)
found_if keys p (Some at) is =
    let here = position-Some (λ other. eqb p other) keys at 0 (sym is) in
    slice_get-get_or keys at 0 here.0 ∙ ap Some (sym (eqb-true p _ here.1))
found_if keys p None is = tt

-- the pages of a swap: the page at a place after the first comes after them
pub take_swap : (keys : List ℕ) (n p at : ℕ) → Stands keys n p at → take (n + 1) (swap keys at n) ≡ take n keys ++ p
    ∷ []
take_swap keys n p at h =
    let before : n < length keys = omega (arith, h.behind, h.within) in
    let one : List ℕ = set keys at (get_or keys n 0) in
    ap (take (n + 1)) (sym (swap_is keys at n 0 h.within before))
    ∙ take_more_set one n (get_or keys at 0) (rw (length-set keys at (get_or keys n 0)) before)
    ∙ rw (take-set-le n keys at (get_or keys n 0) h.behind, h.is) refl

-- a page that isn't among the placed ones leaves room for it
pub some_left : (keys : List ℕ) (n p : ℕ) → has_page keys p ≡ true → has_page (take n keys) p ≡ false → n < length keys
some_left keys n p all absent = elim (cases_lt n (length keys)) [
  | inl h ↦ h
  | inr h ↦ absurd (true≢false (sym all ∙ (rw (take_all n keys h) at absent)))
]

-- which pages are there, and which are among the placed ones
abbrev pub Agree : List ℕ → ℕ → List Slot → Type 0
Agree keys n table = (page : ℕ) → page < length table → is_some (get_or table page None) ≡ has_page (take n keys) page

has_last : (pages : List ℕ) (p page : ℕ) → has_page (pages ++ p ∷ []) page ≡ (has_page pages page || eqb page p)
has_last pages p page = simp (list_any-append, or-false)

pub agree_more : (keys : List ℕ) (n p at : ℕ) (table : List Slot) (slot : Slot) → Stands keys n p at → p < length table
    → is_some slot ≡ true →
    Agree keys n table → Agree (swap keys at n) (n + 1) (set table p slot)
agree_more keys n p at table slot stands within some agree page inside =
    rw (take_swap keys n p at stands, has_last (take n keys) p page) (elim (cases_eq page p) [
      | inl same ↦ rw (eq-eqb page p same, or-true (has_page (take n keys) page))
          (rw (same, get_or-set_same table p slot None within) some)
      | inr other ↦
          rw (
            ne_eqb page p other,
            or-false (has_page (take n keys) page),
            get_or-set_other table p page slot None
                other,
          )
          (agree page (rw (length-set table p slot) at inside))
    ])

pub blank_is_some : (slot : Slot) → IsBlank slot → is_some slot ≡ true
blank_is_some None h = absurd h
blank_is_some (Some page) h = refl

-- a blank page in the place of none changes no cell
same_cells : (slot other : Slot) → IsBlank slot → is_some other ≡ false → cells_of slot ≡ cells_of other
same_cells None other h none = absurd h
same_cells (Some page) None h none = blank_page_cells page.value h
same_cells (Some page) (Some other) h none = absurd (true≢false none)

pub cells_stay : (table : List Slot) (p : ℕ) (slot : Slot) → IsBlank slot → is_some (get_or table p None) ≡ false
    → map cells_of (set table p slot) ≡ map cells_of table
cells_stay table p slot h none =
    map-set_same cells_of table p slot None (same_cells slot (get_or table p None) h none)

-- the cell of an element
abbrev pub cell_of : List Slot → ℕ → Cell
cell_of table e = get_or (get_or (map cells_of table) (e / 64) blank_cells) (e % 64) blank

-- the cell at a place of a page, which is there or not
abbrev pub slot_cell : Slot → ℕ → Cell
slot_cell None k = blank
slot_cell (Some page) k = cell_in page.value k

slot_cell_at : (slot : Slot) (k : ℕ) → k < 64 → get_or (cells_of slot) k blank ≡ slot_cell slot k
slot_cell_at None k below = get_or-replicate 64 k blank blank below
slot_cell_at (Some page) k below = first_cell_at page.value 64 k below

pub cell_of_slot : (table : List Slot) (e : ℕ) → cell_of table e ≡ slot_cell (get_or table (e / 64) None) (e % 64)
cell_of_slot table e =
    ap (λ (cells : List Cell). get_or cells (e % 64) blank) (get_or-map cells_of table (e / 64) None)
    ∙ slot_cell_at (get_or table (e / 64) None) (e % 64) (mod-lt e (omega arith))

pub unplaced_cell : (table : List Slot) (e : ℕ) → get_or table (e / 64) None ≡ None → cell_of table e ≡ blank
unplaced_cell table e none = cell_of_slot table e ∙ ap (λ (slot : Slot). slot_cell slot (e % 64)) none

pub none_placed : (n p : ℕ) (none : Slot) → none ≡ None → get_or (replicate n none) p None ≡ None
none_placed n p none is = elim (cases_lt p n) [
  | inl h ↦ get_or-replicate n p none None h ∙ is
  | inr h ↦ get_or_past (replicate n none) p None (rw (length-replicate n none) h)
]

-- numbers are noted one after another
pub one_noted : (keys : List ℕ) (n : ℕ) → ((p : ℕ) → has_page keys p ≡ ltb p n) → (p : ℕ)
    → has_page (keys ++ n ∷ []) p ≡ ltb p (n + 1)
one_noted keys n before p = rw (has_last keys n p, before p) (grind (arith, nat_tests))
