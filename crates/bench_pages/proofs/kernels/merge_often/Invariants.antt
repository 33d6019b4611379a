use Rattle.std.proofs.Common.{◌≡◌}
use Rattle.shadow_marks.specs.Standing.{ArePlanes, test_of}
use Rattle.bench_pages.proofs.kernels.merge_often.Given as goal

abbrev pub invariant-loop : goal.invariant-loop
invariant-loop l = record {
  whole : ArePlanes l.mine;
  elements : l.mine.elements ≡ 65536;
  test : test_of l.mine.tested ≡ test_of l.theirs.tested;
}
