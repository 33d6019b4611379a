use Rattle.std.proofs.{Common.{refl, arith}, lemmas.Grind.{common_steps}}
use Rattle.shadow_marks.{specs.Kept.{flags_in}, proofs.FoldLaws.{has_word, each_plane, parts_fold}}
use Rattle.shadow_marks.proofs.planes.Planes.fold.Goals as goal

pub fold-requires : goal.fold-requires
fold-requires c = each_plane _ _ (λ op. has_word c.args.self.now.elements _ c.args.e c.requires.in_range
    (c.requires.whole.by op))

pub returns : goal.returns
returns c =
    parts_fold c.args.self.now _ c.args.e c.args.index (flags_in c.args.kept) c.requires.whole c.requires.in_range
    c.requires.index
    (record {
      elements = refl;
      plain = grind (arith, common_steps);
      operators = c.fold.ensures;
      tested = c.fold-2.ensures;
    })
