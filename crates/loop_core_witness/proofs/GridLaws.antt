-- Rows of cells.
use Rattle.std.proofs.Common.{◌≡◌, ℕ, ◌+◌, ◌-◌, ◌<◌, List, [], ◌∷◌, ◌++◌, length, get_or, take, refl, sym, ap}
use Rattle.std.{proofs.{Common.{◌∙◌, add-one, append_assoc, arith, Bool}, Math.Seq.{take-suc}}, specs.Prelude.{cond}}
use Rattle.std.proofs.lemmas.List.{map-append, append-nil, Elements.{filter-append}}
use Rattle.std.specs.List.{AllByRecursion, filter, range_with_len}
use Rattle.loop_core_model.proofs.PlaneLaws.{range-append}
use Rattle.loop_core_trace.proofs.JournalLaws.{all_and_last}
use Rattle.loop_core_witness.specs.{declared.grid.{Cell.{Cell}, Row.{Row}}, Grids.{elements_of, indices}}

-- a cell more, of the next element
pub columns_last : (cells more : List Cell) (elements : List ℕ) (at : ℕ) (cell : Cell) → more ≡ cells ++ cell ∷ []
    → elements_of cells ≡ take at elements → at < length elements → cell.element ≡ get_or elements at 0
    → elements_of more ≡ take (at + 1) elements
columns_last cells more elements at cell is before within here =
    rw (
      is,
      map-append (λ (c : Cell). c.element) cells (cell ∷ []),
      before,
      here,
      add-one,
      take-suc elements at 0 within,
    ) refl

-- one more of a list of which each is so
pub all_last : {X : Type 0} (P : X → Type 0) (xs more : List X) (x : X) → more ≡ xs ++ x ∷ [] → AllByRecursion P xs
    → P x → AllByRecursion P more
all_last P xs more x is each here = rw is (all_and_last P xs x each here)

-- between an index and itself are none
pub none_between : (before : List ℕ) (from : ℕ) → before ≡ before ++ range_with_len from (from - from)
none_between before from =
    let none : from - from ≡ 0 = omega arith in
    rw (none, append-nil before) refl

-- one row more, of the next index
pub indices_last : (rows more : List Row) (row : Row) (before : List ℕ) (from count index : ℕ) → more ≡ rows ++ row ∷ []
    → indices rows ≡ before ++ range_with_len from count → row.index ≡ index → from + count ≡ index
    → indices more ≡ before ++ range_with_len from (count + 1)
indices_last rows more row before from count index is so_far here next =
    rw (
      is,
      map-append (λ (r : Row). r.index) rows (row ∷ []),
      so_far,
      here,
      append_assoc before (range_with_len from count) (index ∷ []),
      range-append from count 1,
      next,
    ) refl

-- one number more, if it passes
pub listed_more : (p : ℕ → Bool) (e : ℕ) (xs more : List ℕ) → xs ≡ filter p (range_with_len 0 e)
    → more ≡ xs ++ cond (p e) (e ∷ []) [] → more ≡ filter p (range_with_len 0 (e + 1))
listed_more p e xs more listed added =
    let from_zero : 0 + e ≡ e = omega arith in
    added
    ∙ ap (λ (ys : List ℕ). ys ++ cond (p e) (e ∷ []) []) listed
    ∙ ap (λ (n : ℕ). filter p (range_with_len 0 e) ++ filter p (n ∷ [])) (sym from_zero)
    ∙ sym (filter-append p (range_with_len 0 e) (range_with_len (0 + e) 1))
    ∙ ap (filter p) (sym (range-append 0 e 1))
