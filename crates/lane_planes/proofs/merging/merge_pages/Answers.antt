use Rattle.std.proofs.Common.{sym, ◌∙◌, ap}
use Rattle.array_maps.specs.declared.access.Op.TheVariants.{Add}
use Rattle.shadow_marks.{specs.Standing.{words_for}, proofs.FoldLaws.{each_plane}}
use Rattle.lane_planes.proofs.merging.merge_pages.Goals as goal

pub merge_operators-requires-clause-mine : goal.merge_operators-requires-clause-mine
merge_operators-requires-clause-mine g c =
    each_plane _ _ (λ op. (c.requires.mine.by op).count ∙ ap words_for c.requires.elements
    ∙ sym (c.requires.theirs.by Add).count)

pub merge_operators-requires-clause-theirs : goal.merge_operators-requires-clause-theirs
merge_operators-requires-clause-theirs g c =
    each_plane _ _ (λ op. (c.requires.theirs.by op).count ∙ sym (c.requires.theirs.by Add).count)

pub merge_operators-requires-clause-room : goal.merge_operators-requires-clause-room
merge_operators-requires-clause-room g c =
    rw (c.requires.elements, ← (c.requires.theirs.by Add).count) at c.requires.room
