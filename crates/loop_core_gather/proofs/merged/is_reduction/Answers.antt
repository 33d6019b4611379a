use Rattle.std.proofs.Common.{◌<◌, ◌/◌, length, arith}
use Rattle.array_maps.specs.declared.access.Op.TheVariants.{Add, Or, And, Xor, AddH}
use Rattle.loop_core_gather.proofs.merged.is_reduction.Goals as goal

pub is_set-requires-2 : goal.is_set-requires-2
is_set-requires-2 c =
    let count = (c.requires.whole.by Add).count in
    let within : c.args.e / 64 < length c.args.planes.now.operators.add.items = omega (arith, count, c.requires.within) in
    rw c.as_slice-2.ensures.value within

pub is_set-requires-3 : goal.is_set-requires-3
is_set-requires-3 c =
    let count = (c.requires.whole.by Or).count in
    let within : c.args.e / 64 < length c.args.planes.now.operators.or.items = omega (arith, count, c.requires.within) in
    rw c.as_slice-3.ensures.value within

pub is_set-requires-4 : goal.is_set-requires-4
is_set-requires-4 c =
    let count = (c.requires.whole.by And).count in
    let within : c.args.e / 64 < length c.args.planes.now.operators.and.items = omega (arith, count, c.requires.within) in
    rw c.as_slice-4.ensures.value within

pub is_set-requires-5 : goal.is_set-requires-5
is_set-requires-5 c =
    let count = (c.requires.whole.by Xor).count in
    let within : c.args.e / 64 < length c.args.planes.now.operators.xor.items = omega (arith, count, c.requires.within) in
    rw c.as_slice-5.ensures.value within

pub is_set-requires-6 : goal.is_set-requires-6
is_set-requires-6 c =
    let count = (c.requires.whole.by AddH).count in
    let within : c.args.e / 64 < length c.args.planes.now.operators.addh.items = omega (arith, count, c.requires.within) in
    rw c.as_slice-6.ensures.value within
