use Rattle.std.proofs.Common.{◌≡◌, rules, arith}
use Rattle.shadow_marks.specs.Standing.{words_for}
use Rattle.lane_planes.{proofs.WholeLaws.{merges}}
use Rattle.lane_planes.proofs.merging.merge.Goals as goal

pub returns : goal.returns
returns g c =
    let count = c.requires.theirs.plain.count in
    let long = c.args.from.now.plain.ok.0 in
    let pages : c.len.result ≡ words_for c.args.into.now.elements =
    first_of (search rules, omega (arith, count, long, c.requires.elements, c.len.ensures)) in
    merges c.args.into.now c.args.from.now c.merge_pages.new.into c.requires.mine c.requires.theirs c.requires.elements
    c.have_numbers.ensures c.have_numbers-2.ensures (rw pages at c.merge_pages.ensures)
