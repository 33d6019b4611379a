use Rattle.std.proofs.{Common.{◌∙◌, arith}, lemmas.List.{get_or_default}}
use Rattle.array_maps.specs.declared.access.Op.TheVariants.{Add, Or, And, Xor, AddH}
use Rattle.loop_core_gather.proofs.PageLaws.{none_reduced}
use Rattle.loop_core_gather.proofs.merged.reduced_in_page.Goals as goal

pub index-requires : goal.index-requires
index-requires c = omega (arith, c.requires Add, c.args.planes.now.add.ok.0)

pub index-requires-2 : goal.index-requires-2
index-requires-2 c = omega (arith, c.requires Or, c.args.planes.now.or.ok.0)

pub index-requires-3 : goal.index-requires-3
index-requires-3 c = omega (arith, c.requires And, c.args.planes.now.and.ok.0)

pub index-requires-4 : goal.index-requires-4
index-requires-4 c = omega (arith, c.requires Xor, c.args.planes.now.xor.ok.0)

pub index-requires-5 : goal.index-requires-5
index-requires-5 c = omega (arith, c.requires AddH, c.args.planes.now.addh.ok.0)

pub returns : goal.returns
returns c unset =
    let planes = c.args.planes.now in
    let page = c.args.page in
    none_reduced planes page _ _ _ _ _ unset
    (c.index.ensures ∙ get_or_default planes.add.items page c.index.result.now 0 (c.requires Add))
    (c.index-2.ensures ∙ get_or_default planes.or.items page c.index-2.result.now 0 (c.requires Or))
    (c.index-3.ensures ∙ get_or_default planes.and.items page c.index-3.result.now 0 (c.requires And))
    (c.index-4.ensures ∙ get_or_default planes.xor.items page c.index-4.result.now 0 (c.requires Xor))
    (c.index-5.ensures ∙ get_or_default planes.addh.items page c.index-5.result.now 0 (c.requires AddH))
