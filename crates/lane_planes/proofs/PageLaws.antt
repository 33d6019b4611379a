-- Pages are merged a run at a time, and a page in which nothing is marked is merged as it stands.
use Rattle.std.proofs.Common.{◌≡◌, ℕ, ◌*◌, ◌≤◌, min, List, length, ◌∙◌, arith, refl}
use Rattle.shadow_marks.specs.declared.planes.{Tested.{Tested}}
use Rattle.shadow_marks.specs.declared.planes.{Tested.TheVariants.{Lrpd, Flow}}
use Rattle.shadow_marks.specs.{declared.planes.Planes.{Planes}, Standing.{ArePlanes, AreTested}}
use Rattle.lane_planes.specs.{declared.kept.Kept.{Kept, TheVariants.{Lesser, Greater}}}
use Rattle.lane_planes.specs.Merged.{Ored, Keeps, MergedTested, MergedPages}
use Rattle.lane_planes.proofs.Writing.{writes_on}

-- a run of pages more
module _ (at upto : ℕ) (going : at ≤ upto) where
  ored_on : (mine theirs mid now : List ℕ) → Ored 0 at mine theirs mid → Ored at upto mid theirs now
      → Ored 0 upto mine theirs now
  ored_on mine theirs mid now before after =
      writes_on before after (omega arith) going (λ i late. rw (before.above i late) refl)

  keeps_on : (kept : Kept) (mine theirs mid now : List ℕ) → 64 * at ≤ length mine → Keeps kept 0 at mine theirs mid
      → Keeps kept at upto mid theirs now → Keeps kept 0 upto mine theirs now
  keeps_on kept mine theirs mid now start before after =
      let whole : min (64 * at) (length mine) ≡ 64 * at = omega arith in
      let first = rw whole at before in
      writes_on first (rw before.long at after) (omega arith) (omega arith) (λ i late. rw (first.above i late) refl)

  tested_on : (elements : ℕ) (mine theirs mid now : Tested) → AreTested elements mine → 64 * at ≤ elements
      → MergedTested 0 at mine theirs mid → MergedTested at upto mid theirs now → MergedTested 0 upto mine theirs now
  tested_on elements (Lrpd mine) (Lrpd theirs) (Lrpd mid) (Lrpd now) whole start before after = record {
    written = ored_on _ _ _ _ before.written after.written;
    written_by_two = writes_on before.written_by_two after.written_by_two (omega arith) going (λ i late.
        rw (before.written_by_two.above i late, before.written.above i late) refl);
    read_only = ored_on _ _ _ _ before.read_only after.read_only;
    read_and_written = ored_on _ _ _ _ before.read_and_written after.read_and_written;
  }
  tested_on elements (Flow mine) (Flow theirs) (Flow mid) (Flow now) whole start before after = record {
    first = keeps_on Lesser _ _ _ _ (rw whole.first start) before.first after.first;
    last = keeps_on Greater _ _ _ _ (rw whole.last start) before.last after.last;
  }
  tested_on elements (Lrpd mine) (Lrpd theirs) (Lrpd mid) (Flow now) whole start before after = absurd after
  tested_on elements (Flow mine) (Flow theirs) (Flow mid) (Lrpd now) whole start before after = absurd after
  tested_on elements _ _ _ _ whole start before after = absurd before

  pub merged_on : (mine theirs mid now : Planes) → ArePlanes mine → 64 * at ≤ mine.elements
      → MergedPages 0 at mine theirs mid → MergedPages at upto mid theirs now → MergedPages 0 upto mine theirs now
  merged_on mine theirs mid now whole start before after = record {
    elements = after.elements ∙ before.elements;
    plain = ored_on _ _ _ _ before.plain after.plain;
    operators = λ op. ored_on _ _ _ _ (before.operators op) (after.operators op);
    tested = tested_on mine.elements mine.tested theirs.tested mid.tested now.tested whole.tested start before.tested
        after.tested;
  }
