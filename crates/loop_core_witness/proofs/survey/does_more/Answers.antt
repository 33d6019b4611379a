use Rattle.std.proofs.Common.{ℕ, ◌/◌, ◌<◌, List, length, sym, subst}
use Rattle.array_maps.specs.declared.access.Op.TheVariants.{Add, Or, And, Xor, AddH}
use Rattle.loop_core_witness.proofs.SurveyLaws.{word_there}
use Rattle.loop_core_witness.proofs.survey.does_more.Goals as goal

pub is_set-requires : goal.is_set-requires
is_set-requires c =
    let planes = c.args.planes.now in
    subst (λ (words : List ℕ). c.args.e / 64 < length words) (sym c.deref.ensures.value)
    (word_there planes.elements c.args.e planes.plain.items c.requires.whole.plain c.requires.below)

pub reduces_by_other-requires : goal.reduces_by_other-requires
reduces_by_other-requires c =
    let planes = c.args.planes.now in
    let e = c.args.e in
    let by = c.requires.whole.by in
    let below = c.requires.below in
    record {
      add = word_there planes.elements e planes.operators.add.items (by Add) below;
      or = word_there planes.elements e planes.operators.or.items (by Or) below;
      and = word_there planes.elements e planes.operators.and.items (by And) below;
      xor = word_there planes.elements e planes.operators.xor.items (by Xor) below;
      addh = word_there planes.elements e planes.operators.addh.items (by AddH) below;
    }
