use Rattle.std.proofs.Common.{◌≡◌, length, sym, ◌∙◌, arith}
use Rattle.shadow_marks.proofs.FoldLaws.{each_plane}
use Rattle.lane_planes.proofs.ConflictLaws.{conflict_plane}
use Rattle.lane_planes.proofs.judging.leave_conflicts.Goals as goal

pub clear_reductions-requires-clause-operators : goal.clear_reductions-requires-clause-operators
clear_reductions-requires-clause-operators g c =
    each_plane _ _ (λ op. c.requires.words ∙ sym (c.requires.whole.by op).count)

pub returns : goal.returns
returns g c =
    let cleared = c.clear_reductions.ensures.words in
    let long : length c.clear_reductions.new.into ≡ length c.args.into.now = cleared.long in
    conflict_plane c.args.planes.now _ c.requires.whole (long ∙ c.requires.words)
    (record {
      failing = c.args.into.now;
      fails = rw long c.requires.failing;
      each = λ i small. cleared.written i (omega arith) (omega (arith, small, long));
    })
    (λ i small. c.clear_reductions.ensures.fit i (omega (arith, small, long))) c.have_numbers.ensures
