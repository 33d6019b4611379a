-- Placed pages are taken back, from the last to the first.
use Rattle.std.proofs.Common.{◌≡◌, ◌≢◌, ℕ, ◌+◌, ◌/◌, ◌<◌, true, false, eqb, Some, None, List, length, take, get_or}
use Rattle.std.proofs.Common.{is_some, refl, sym, ◌∙◌, ap, inl, inr, ne_eqb}
use Rattle.std.proofs.{Math.Bool.{or-false}, lemmas.{Bool.{cases_eq, cases_lt, true≢false}, List.{get_or_past}}}
use Rattle.std.proofs.lemmas.{Option.{get_or_from_slice_get, slice_get_within}, List.Folds.{list_any_more}}
use Rattle.std.specs.Prelude.{slice_get}
use Rattle.private_copy.{specs.{Cells.{blank}, Touched.{has_page}}, proofs.PageLaws.{Slot, cell_of, unplaced_cell}}

-- the pages that are there are among the first n
abbrev pub AreAmong : List ℕ → ℕ → List Slot → Type 0
AreAmong keys n table = (page : ℕ) → is_some (get_or table page None) ≡ true → has_page (take n keys) page ≡ true

-- so it is where exactly the placed ones are there
pub placed_among : (keys : List ℕ) (n : ℕ) (table : List Slot)
    → ((page : ℕ) → page < length table → is_some (get_or table page None) ≡ has_page (take n keys) page)
    → AreAmong keys n table
placed_among keys n table agree page there = elim (cases_lt page (length table)) [
  | inl inside ↦ sym (agree page inside) ∙ there
  | inr past ↦ absurd (true≢false (sym there ∙ ap is_some (get_or_past table page None past)))
]

-- the last of them is taken back: it isn't there then, and the others are as they were
pub one_back : (keys : List ℕ) (placed n number : ℕ) (table after : List Slot) → placed ≡ n + 1
    → slice_get keys n ≡ Some number → is_some (get_or after number None) ≡ false
    → ((page : ℕ) → page ≢ number → get_or after page None ≡ get_or table page None) → AreAmong keys placed table
    → AreAmong keys n after
one_back keys placed n number table after more read gone others among page there = elim (cases_eq page number) [
  | inl same ↦ absurd (true≢false (sym there ∙ rw same gone))
  | inr other ↦
      let was : has_page (take placed keys) page ≡ true = among page ((rw (others page other) at there)) in
      rw (
        more,
        list_any_more (λ key. eqb page key) keys n 0 (slice_get_within keys n number read),
        get_or_from_slice_get keys n number 0 read,
        ne_eqb page number other,
        or-false (has_page (take n keys) page),
      ) at was
]

-- at the end none is there
none_some : (slot : Slot) → (is_some slot ≡ true → ⊥) → slot ≡ None
none_some None h = refl
none_some (Some page) h = absurd (h refl)

pub all_blank : (keys : List ℕ) (n : ℕ) (table : List Slot) → n ≡ 0 → AreAmong keys n table → (e : ℕ)
    → cell_of table e ≡ blank
all_blank keys n table none among e =
    unplaced_cell table e (none_some (get_or table (e / 64) None) (λ there.
    true≢false (sym (sym (ap (λ (k : ℕ). has_page (take k keys) (e / 64)) none) ∙ among (e / 64) there))))
