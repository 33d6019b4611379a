use Rattle.std.proofs.{Common.{refl, arith}, lemmas.Grind.{common_steps}}
use Rattle.array_maps.specs.declared.access.Op.TheVariants.{Add, Or, And, Xor, AddH}
use Rattle.shadow_marks.proofs.ClearLaws.{page_cleared}
use Rattle.shadow_marks.proofs.planes.Planes.clear_page.Goals as goal

pub clear_bits-requires-2 : goal.clear_bits-requires-2
clear_bits-requires-2 c = omega (arith, (c.requires.whole.by Add).count, c.requires.within)

pub clear_bits-requires-3 : goal.clear_bits-requires-3
clear_bits-requires-3 c = omega (arith, (c.requires.whole.by Or).count, c.requires.within)

pub clear_bits-requires-4 : goal.clear_bits-requires-4
clear_bits-requires-4 c = omega (arith, (c.requires.whole.by And).count, c.requires.within)

pub clear_bits-requires-5 : goal.clear_bits-requires-5
clear_bits-requires-5 c = omega (arith, (c.requires.whole.by Xor).count, c.requires.within)

pub clear_bits-requires-6 : goal.clear_bits-requires-6
clear_bits-requires-6 c = omega (arith, (c.requires.whole.by AddH).count, c.requires.within)

pub returns : goal.returns
returns c =
    page_cleared c.args.self.now _ c.args.page c.requires.whole
    (record {
      elements = refl;
      plain = grind (arith, common_steps);
      operators = elim [
        | Add ↦ grind (arith, common_steps)
        | Or ↦ grind (arith, common_steps)
        | And ↦ grind (arith, common_steps)
        | Xor ↦ grind (arith, common_steps)
        | AddH ↦ grind (arith, common_steps)
      ];
      tested = c.clear_page.ensures;
    })
