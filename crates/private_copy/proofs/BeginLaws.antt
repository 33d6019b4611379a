-- An iteration begins.
use Rattle.std.proofs.Common.{◌≡◌, ℕ, ◌+◌, ◌≤◌, List, [], ◌∷◌, length, map, sym, ◌∙◌, arith, refl}
use Rattle.std.{specs.{Prelude.{slice_index}, List.{range_with_len}}, proofs.lemmas.List.FromFn.{fill_by_all}}
use Rattle.array_maps.specs.Accesses.{Access}
use Rattle.loop_core_model.{specs.{Actions.{writes}, Conflict.{at_element}}, proofs.FlagLaws.{flags_follow_kinds}}
use Rattle.loop_core_model.proofs.KeptLaws.{last_that-append}
use Rattle.shadow_marks.specs.{declared.iter_flags.IterFlags.{IterFlags}, Iteration.{touched_count, IsEmptied}}
use Rattle.shadow_marks.proofs.TouchLaws.{nothing_flagged, none_touched}
use Rattle.private_copy.specs.{Cells.{PlacedPages, cell_at}, Shown.{seen_word, IsBegun}}
use Rattle.private_copy.specs.Copies.{PrivateCopy, CopyRecords, CopyRecordsWithin}
use Rattle.private_copy.proofs.{IterationLaws.{at_last, joined_none}, AccessLaws.{seen_start}}

-- where no cell was written by an iteration of this number it sees the start words
pub shows_start : (pages : PlacedPages) (begun : ℕ) (start : List ℕ) → ((e : ℕ) → (cell_at pages e).writer ≤ begun) →
    map (λ e. seen_word (cell_at pages e) (begun + 1) (slice_index start e)) (range_with_len 0 (length start)) ≡ start
shows_start pages begun start writers =
    let f : ℕ → ℕ = λ e. seen_word (cell_at pages e) (begun + 1) (slice_index start e) in
    sym (fill_by_all f start (length start) 0 refl (λ e inside.
    let early = writers e in
    sym (seen_start (cell_at pages e) (begun + 1) (slice_index start e) (λ h. omega (arith, h, early)))))

-- flags that touched nothing
pub none_flagged : (flags : IterFlags) → touched_count flags ≡ 0 → IsEmptied flags
none_flagged flags none =
    record { count = none; each = λ e. nothing_flagged _ (flags.covered e (none_touched flags.touched.items e none)) }

pub begins : (old new : PrivateCopy) (need : ℕ) → IsBegun old need new → (runs : List (List Access))
    → CopyRecords old runs → CopyRecordsWithin new runs []
begins old new need begun runs stands = record {
  under_way = begun.under_way;
  words = begun.words ∙ sym begun.start;
  flags = λ e inside. begun.flags.each e ∙ sym flags_follow_kinds.start;
  remembers = record {
    last = λ e inside.
        rw (begun.start, at_last e runs [], last_that-append writes (at_element e runs) ([] ∷ []))
        (begun.last e ∙ stands.remembers.last e (rw begun.start at inside));
    reduction = λ e inside.
        rw (at_last e runs [], joined_none (at_element e runs))
        (begun.reduction e ∙ stands.remembers.reduction e (rw begun.start at inside));
    pages = rw (joined_none runs) (begun.pages ∙ stands.remembers.pages);
  };
}
