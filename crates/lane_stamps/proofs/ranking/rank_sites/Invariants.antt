use Rattle.std.proofs.Common.{◌≡◌, ◌+◌, ◌<◌, ◌≤◌}
use Rattle.lane_stamps.{specs.Sites.{unranked}, proofs.RankLaws.{RankedTo}}
use Rattle.lane_stamps.proofs.ranking.rank_sites.Given as goal

abbrev pub invariant-loop-at : goal.invariant-loop-at
invariant-loop-at l = record {
  some : 0 < l.rank;
  few : l.rank ≤ l.at + 1;
  ranked : RankedTo l.sites l.at l.rank l.last;
  same : unranked l.sites ≡ unranked l.fn.sites;
}
