use Rattle.std.proofs.Common.{◌≡◌, ◌<◌, rules, arith}
use Rattle.shadow_marks.specs.Standing.{words_for}
use Rattle.lane_planes.{proofs.{WholeLaws.{merge_keeps, merges}, IdleLaws.{merged_idle}}}
use Rattle.lane_planes.proofs.PageLaws.{merged_on}
use Rattle.lane_planes.proofs.touching.merge_touched.Goals as goal

pub merge_pages-requires-clause-mine : goal.merge_pages-requires-clause-mine
merge_pages-requires-clause-mine g c =
    (merge_keeps 0 c.loop-page.page _ _ _ c.requires.mine c.requires.theirs.stand.whole c.requires.elements
    c.loop-page.invariant.words).whole

pub loop-page-preserved-then-is_marked : goal.loop-page-preserved-then-is_marked
loop-page-preserved-then-is_marked g c =
    let reach = c.touched_up_to-past.ensures in
    record {
      within = reach.within;
      words = merged_on c.loop-page.page c.touched_up_to-past.result (omega (arith, reach.order)) c.args.into.now
          c.args.from.now c.loop-page.into c.merge_pages.new.into c.requires.mine
          (omega (arith, reach.order, reach.within, c.requires.elements)) c.loop-page.invariant.words
          c.merge_pages.ensures;
    }

pub loop-page-preserved : goal.loop-page-preserved
loop-page-preserved g c =
    let count = c.requires.theirs.stand.whole.plain.count in
    let long = c.args.from.now.plain.ok.0 in
    let below : c.loop-page.page < words_for c.args.from.now.elements =
    first_of (search rules, omega (arith, count, long, c.loop-page-test.true)) in
    record {
      within = omega (arith, below);
      words = merged_idle c.loop-page.page c.args.into.now c.args.from.now c.loop-page.into c.requires.mine
          c.requires.theirs (c.is_marked.ensures.0 c.if-is_marked.false) c.requires.elements
          (omega (arith, below, c.requires.elements)) c.have_numbers.ensures c.have_numbers-2.ensures
          c.loop-page.invariant.words;
    }

pub returns : goal.returns
returns g c =
    let theirs = c.requires.theirs.stand.whole in
    let count = theirs.plain.count in
    let long = c.args.from.now.plain.ok.0 in
    let within = c.loop-page.invariant.within in
    let all : c.loop-page.page ≡ words_for c.args.into.now.elements =
    first_of (search rules, omega (arith, count, long, within, c.requires.elements, c.loop-page-test.false)) in
    merges c.args.into.now c.args.from.now c.loop-page.into c.requires.mine theirs c.requires.elements
    c.have_numbers.ensures c.have_numbers-2.ensures (rw all at c.loop-page.invariant.words)
