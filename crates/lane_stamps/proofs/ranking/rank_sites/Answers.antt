use Rattle.std.proofs.Common.{false, ◌+◌, ◌∙◌, List, ap, sym, subst, slice_index_or, arith}
use Rattle.lane_stamps.specs.{declared.{kind.Kind.{Kind, TheVariants.{Load}}, site.Site.{Site}}, Sites.{unranked}}
use Rattle.lane_stamps.{specs.Stamps.{last_kind}, proofs.RankLaws.{RankedTo, ranked_more, same_but_rank, same_log}}
use Rattle.lane_stamps.proofs.ranking.rank_sites.Goals as goal

pub loop-at-preserved : goal.loop-at-preserved
loop-at-preserved c =
    let none : Site = record { kind = Load; rank = 0; watched = false; mask = 0; places = 0; value = 0 } in
    let sites = c.loop-at.sites in
    let at = c.loop-at.at in
    let next = c.next_rank-rank.result in
    let now = c.set_rank.ensures none in
    record {
      some = omega arith;
      few = omega arith;
      ranked = subst (λ (kind : Kind). RankedTo c.set_rank.new.sites (at + 1) next kind) (sym c.next_last-last.ensures)
          (subst (λ (all : List Site). RankedTo all (at + 1) next
          (last_kind c.loop-at.last (slice_index_or sites at none).kind)) (sym now)
          (ranked_more sites at c.loop-at.rank next c.loop-at.last none (omega arith) c.loop-at.invariant.ranked
          c.next_rank-rank.ensures.rises c.next_rank-rank.ensures.alike (omega arith)));
      same = ap unranked now ∙ same_but_rank sites at next none ∙ c.loop-at.invariant.same;
    }

pub returns-clause-log : goal.returns-clause-log
returns-clause-log c lanes = same_log lanes c.loop-at.sites c.args.sites.now c.loop-at.invariant.same
