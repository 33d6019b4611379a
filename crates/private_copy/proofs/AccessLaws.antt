-- The two steps of an access are the access.
use Rattle.std.proofs.Common.{◌≡◌, ◌≢◌, ℕ, ◌<◌, true, eqb, length, map, get_or, set, refl, sym, ◌∙◌, ap, arith}
use Rattle.std.proofs.{Common.{length-set, get_or-set_same, get_or-set_other, eq-eqb, ne_eqb, inl, inr}}
use Rattle.std.{proofs.lemmas.Bool.{cases_Bool, cases_eq}, specs.{List.{range_with_len}, Prelude.{slice_index}}}
use Rattle.std.proofs.lemmas.List.FromFn.{get_or-map-range_with_len, length-map-range_with_len, fill_by_all}
use Rattle.array_maps.specs.Accesses.{Action, Read, left_by}
use Rattle.loop_core_model.specs.{Actions.{is_write}, Flags.{kind_of}}
use Rattle.private_copy.specs.declared.reduction.Reduction.{Reduction, TheVariants.{Untouched, By, Mixed}}
use Rattle.private_copy.specs.declared.{page.Cell.{Cell}, private.Private.{Private}}
use Rattle.private_copy.specs.{Reductions.{reduction_after}, Cells.{cell_at, mixed_cell, left_cell, reduction_in}}
use Rattle.private_copy.specs.{Copies.{last_after, Accessed}, Shown.{copy_of, seen_word, last_in}}
use Rattle.private_copy.specs.Steps.{IsAdmitted, CellIsSet}

-- a cell that this iteration wrote, and another
pub seen_own : (cell : Cell) (number word : ℕ) → cell.writer ≡ number → seen_word cell number word ≡ cell.value
seen_own cell number word own = rw (eq-eqb cell.writer number own) refl

pub seen_start : (cell : Cell) (number word : ℕ) → cell.writer ≢ number → seen_word cell number word ≡ word
seen_start cell number word other = rw (ne_eqb cell.writer number other) refl

-- a list of values of a function
pub shown_at : (f : ℕ → ℕ) (n e : ℕ) → e < n → slice_index (map f (range_with_len 0 n)) e ≡ f e
shown_at f n e inside = get_or-map-range_with_len f 0 n e e 0 inside (omega arith)

pub shown_length : (f : ℕ → ℕ) (n : ℕ) → length (map f (range_with_len 0 n)) ≡ n
shown_length f n = length-map-range_with_len f 0 n

-- where the functions differ at one place, one value is set
shown_set : (f g : ℕ → ℕ) (n e value : ℕ) → g e ≡ value → ((other : ℕ) → other ≢ e → g other ≡ f other) →
    map g (range_with_len 0 n) ≡ set (map f (range_with_len 0 n)) e value
shown_set f g n e value here others =
    let long : length (map f (range_with_len 0 n)) ≡ n = shown_length f n in
    sym (fill_by_all g (set (map f (range_with_len 0 n)) e value) n 0
    (length-set (map f (range_with_len 0 n)) e value ∙ long) (λ k inside. elim (cases_eq k e) [
      | inl same ↦ rw (same, here)
          (get_or-set_same (map f (range_with_len 0 n)) e value 0 (omega (arith, inside, long, same)))
      | inr other ↦
          get_or-set_other (map f (range_with_len 0 n)) e k value 0 other ∙ shown_at f n k inside ∙ sym (others k other)
    ]))

-- the word that the iteration sees
pub in_range : (p : Private) (e : ℕ) → e < length (copy_of p).words → e < length p.start.now
in_range p e inside = simp shown_length at inside

pub word_is : (p : Private) (e : ℕ) → e < length p.start.now → slice_index (copy_of p).words e
    ≡ seen_word (cell_at p.pages e) p.begun (slice_index p.start.now e)
word_is p e inside = shown_at (λ x. seen_word (cell_at p.pages x) p.begun (slice_index p.start.now x))
    (length p.start.now) e inside

-- it is below 2 ^ 64
pub words_small : (p : Private) (k d : ℕ) → k < length (copy_of p).words → get_or (copy_of p).words k d
    < 18446744073709551616
words_small p k d inside =
    let within : k < length p.start.now = in_range p k inside in
    rw (get_or-map-range_with_len (λ e. seen_word (cell_at p.pages e) p.begun (slice_index p.start.now e)) 0
    (length p.start.now) k k d within (omega arith)) (elim (cases_Bool (eqb (cell_at p.pages k).writer p.begun)) [
      | inl own ↦ rw own (p.values k)
      | inr other ↦ rw other (p.fit k 0 within)
    ])

accessed : (old mid new : Private) (e : ℕ) (action : Action) (kept : Cell) →
    IsAdmitted old e (kind_of action) mid → CellIsSet mid e kept new →
    seen_word kept old.begun (slice_index old.start.now e) ≡ left_by action (slice_index (copy_of old).words e) →
    last_in kept ≡ last_after (last_in (cell_at old.pages e)) action (slice_index (copy_of old).words e) →
    reduction_in kept ≡ reduction_after (reduction_in (cell_at old.pages e)) action →
    Accessed (copy_of old) (record { element = e; action = action }) (copy_of new)
accessed old mid new e action kept admitted keeps sees lasts reduces =
    let others : (x : ℕ) → x ≢ e → cell_at new.pages x ≡ cell_at old.pages x =
    λ x differs. rw (← admitted.cells) (keeps.others x differs) in
    record {
      start = keeps.start ∙ admitted.start;
      words = rw (keeps.begun, admitted.begun, keeps.start, admitted.start)
          (shown_set (λ x. seen_word (cell_at old.pages x) old.begun (slice_index old.start.now x))
          (λ x. seen_word (cell_at new.pages x) old.begun (slice_index old.start.now x)) (length old.start.now) e
          (left_by action (slice_index (copy_of old).words e)) (rw keeps.cell sees)
          (λ x differs. ap (λ (cell : Cell). seen_word cell old.begun (slice_index old.start.now x))
          (others x differs)));
      mark = rw keeps.flags admitted.mark;
      other_marks = rw keeps.flags admitted.other_marks;
      elements = rw keeps.flags admitted.elements;
      last = ap last_in keeps.cell ∙ lasts;
      other_lasts = λ x differs. ap last_in (others x differs);
      reduction = ap reduction_in keeps.cell ∙ reduces;
      other_reductions = λ x differs. ap reduction_in (others x differs);
      pages = keeps.pages ∙ admitted.pages;
      serves = rw keeps.serves admitted.serves;
      under_way = keeps.under_way ∙ admitted.under_way;
      begun = keeps.begun ∙ admitted.begun;
    }

-- what was combined at a cell that is left
kept_reduction : (value number : ℕ) (reduction : Reduction) → reduction_in (left_cell value number reduction)
    ≡ reduction
kept_reduction value number Untouched = refl
kept_reduction value number (By op combined) = refl
kept_reduction value number Mixed = refl

-- an access that leaves a word
pub leaves : (old mid new : Private) (e : ℕ) (action : Action) (value : ℕ) (reduction : Reduction) →
    IsAdmitted old e (kind_of action) mid → CellIsSet mid e (left_cell value mid.begun reduction) new
    → is_write action ≡ true → value ≡ left_by action (slice_index (copy_of old).words e) →
    reduction ≡ reduction_after (reduction_in (cell_at old.pages e)) action →
    Accessed (copy_of old) (record { element = e; action = action }) (copy_of new)
leaves old mid new e action value reduction admitted keeps writing is reduces =
    let some : 0 < mid.begun = admitted.some in
    let kept : Cell = left_cell value mid.begun reduction in
    accessed old mid new e action kept admitted keeps
    (seen_own kept old.begun (slice_index old.start.now e) admitted.begun ∙ is)
    (rw (ne_eqb mid.begun 0 (λ none. omega (arith, some, none)), writing, is) refl)
    (kept_reduction value mid.begun reduction ∙ reduces)

-- an access that reads
pub reads : (old mid new : Private) (e saw : ℕ) → IsAdmitted old e (kind_of (Read saw)) mid →
    CellIsSet mid e (mixed_cell (cell_at old.pages e)) new → e < length (copy_of old).words →
    Accessed (copy_of old) (record { element = e; action = Read saw }) (copy_of new)
reads old mid new e saw admitted keeps inside =
    accessed old mid new e (Read saw) (mixed_cell (cell_at old.pages e)) admitted keeps
    (sym (word_is old e (in_range old e inside))) refl refl
