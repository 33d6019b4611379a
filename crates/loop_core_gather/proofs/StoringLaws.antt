-- Pages stored in maps, one after another.
use Rattle.std.proofs.Common.{◌≡◌, ◌≢◌, ℕ, zero, suc, ◌+◌, ◌*◌, ◌/◌, ◌%◌, ◌<◌, ◌≤◌, List, [], ◌∷◌, drop, take, length}
use Rattle.std.proofs.Common.{get_or, refl, sym, ◌∙◌, ap, inl, inr, arith, get_or-set_same, get_or-set_other}
use Rattle.std.{proofs.{Math.ListN.{drop_of_length-le}, lemmas.Bool.{cases_eq, ne_eqb}}, specs.Prelude.{slice_index}}
use Rattle.std.proofs.lemmas.List.{ext_get_or, drop_more, length-set, length-take-le, get_or-take}
use Rattle.array_maps.specs.{Accesses.{Write, words_after_run}, MapList.{MapList}}
use Rattle.loop_core_sequential.proofs.MapEffects.{both_parts}
use Rattle.loop_core_gather.specs.{declared.storing.LeftPage.{LeftPage}, Pages.{AreLeft, SetsPage}}

-- words after values are stored from a first one on
abbrev pub stored : (first : ℕ) (values : List ℕ) (count : ℕ) (words : List ℕ) → List ℕ
stored first values count words = words_after_run first (λ k. Write (slice_index values k)) count words

module _ (first : ℕ) (values words : List ℕ) where
  stored_length : (count : ℕ) → length (stored first values count words) ≡ length words
  stored_length zero = refl
  stored_length (suc count) = length-set (stored first values count words) (first + count) (slice_index values count)
      ∙ stored_length count

  stored_at : (count k : ℕ) → first + count ≤ length words → k < count
      → slice_index (stored first values count words) (first + k) ≡ slice_index values k
  stored_at zero k room below = absurd (omega arith)
  stored_at (suc count) k room below =
      let long = stored_length count in
      elim (cases_eq k count) [
        | inl same ↦ rw same (get_or-set_same (stored first values count words) (first + count) _ 0 (omega arith))
        | inr apart ↦ get_or-set_other (stored first values count words) (first + count) (first + k) _ 0
            (λ h. apart (omega arith)) ∙ stored_at count k (omega arith) (omega arith)
      ]

  stored_past : (count e : ℕ) → ((k : ℕ) → k < count → e ≢ first + k)
      → slice_index (stored first values count words) e ≡ slice_index words e
  stored_past zero e out = refl
  stored_past (suc count) e out =
      get_or-set_other (stored first values count words) (first + count) e (slice_index values count) 0
      (out count (omega arith)) ∙ stored_past count e (λ k below. out k (omega arith))

-- the words of a page are stored, as many as there are elements
pub page_stored : (old new : List ℕ) (page : LeftPage) (count : ℕ) → page.number * 64 + count ≤ length old → count ≤ 64
    → length page.words ≡ 64 → ((k : ℕ) → k < 64 → page.number * 64 + k < length old → k < count)
    → new ≡ stored (page.number * 64) (take count page.words) (length (take count page.words)) old
    → SetsPage old new page
page_stored old new page count room few long all done =
    let own = take count page.words in
    rw (done, length-take-le count page.words (omega arith)) (record {
      count = stored_length (page.number * 64) own old count;
      here = λ e below same.
          let place : e ≡ page.number * 64 + e % 64 = omega arith in
          let within : e % 64 < count = all (e % 64) (omega arith) (omega arith) in
          ap (slice_index (stored (page.number * 64) own count old)) place
          ∙ stored_at (page.number * 64) own old count (e % 64) room within
          ∙ get_or-take count page.words (e % 64) 0 within;
      others = λ e apart. stored_past (page.number * 64) own old count e (λ k below at. apart (omega arith));
    })

-- and none where it is past the last
pub page_past : (words : List ℕ) (page : LeftPage) → length words ≤ page.number * 64 → SetsPage words words page
page_past words page past = record {
  count = refl;
  here = λ e below same. absurd (omega arith);
  others = λ e apart. refl;
}

-- what is left is there but for one page and others: now but for the others
page_gone : (now new left : List ℕ) (page : LeftPage) (pages : List LeftPage) → SetsPage now new page
    → AreLeft now left (page ∷ pages) → AreLeft new left pages
page_gone now new left page pages sets all = record {
  each = all.each.1;
  within = record {
    count = all.within.count ∙ sym sets.count;
    others = λ e below out.
        let inside : e < length now = omega (arith, sets.count) in
        elim (cases_eq (e / 64) page.number) [
          | inl same ↦
              let place : page.number * 64 + e % 64 ≡ e = omega arith in
              sym (sets.here e inside same ∙ rw place at (all.each.0 (e % 64) (omega arith)))
          | inr apart ↦
              all.within.others e inside (rw (ne_eqb (e / 64) page.number apart) out) ∙ sym (sets.others e apart)
        ];
  };
}

-- the first n pages are stored: the rest of them hold what is left where it isn't there
pub record StoredSoFar (old now : MapList) (pages : List LeftPage) (n : ℕ) : Type 0 where
  pub sizes : now.sizes ≡ old.sizes
  pub rest : (left : List ℕ) → AreLeft old.words left pages → AreLeft now.words left (drop n pages)

pub stored_none : (old : MapList) (pages : List LeftPage) → StoredSoFar old old pages 0
stored_none old pages = record { sizes = refl; rest = λ left all. all }

-- and one page more
pub stored_next : (old now new : MapList) (pages : List LeftPage) (n : ℕ) (page : LeftPage) → n < length pages
    → page ≡ get_or pages n page → new.sizes ≡ now.sizes → SetsPage now.words new.words page
    → StoredSoFar old now pages n → StoredSoFar old new pages (n + 1)
stored_next old now new pages n page inside is sizes sets so_far = record {
  sizes = sizes ∙ so_far.sizes;
  rest = λ left all. page_gone now.words new.words left page (drop (n + 1) pages) sets
      (rw (drop_more pages n page inside, ← is) at (so_far.rest left all));
}

-- and all
pub stored_all : (old now : MapList) (pages : List LeftPage) (n : ℕ) → length pages ≤ n → StoredSoFar old now pages n
    → (left : List ℕ) → AreLeft old.words left pages → now ≡ record { sizes = old.sizes; words = left }
stored_all old now pages n past so_far left all =
    let none : AreLeft now.words left [] = rw (drop_of_length-le pages past) at (so_far.rest left all) in
    both_parts now old.sizes left so_far.sizes
    (ext_get_or 0 now.words left (sym none.within.count) (λ e below. sym (none.within.others e below refl)))
