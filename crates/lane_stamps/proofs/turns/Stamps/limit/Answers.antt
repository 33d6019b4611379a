use Rattle.std.proofs.Common.{arith}
use Rattle.lane_stamps.{specs.Sites.{shown}, proofs.StampLaws.{go_together}}
use Rattle.lane_stamps.proofs.StampSteps.{all_unmet, all_own, none_watched}
use Rattle.lane_stamps.proofs.turns.Stamps.limit.Goals as goal

pub returns-in_default-clause-unmet : goal.returns-in_default-clause-unmet
returns-in_default-clause-unmet c =
    all_unmet c.args.sites.now (shown c.args.lanes) c.args.count c.args.count (omega arith) c.requires.apart
    (none_watched c.args.sites.now (shown c.args.lanes) c.args.count (c.watched_size.ensures c.in_default.is))

pub returns-in_default-clause-together : goal.returns-in_default-clause-together
returns-in_default-clause-together c =
    go_together c.law_of_operators.ensures (shown c.args.lanes) c.args.count c.args.sites.now c.requires.ranked
    (all_unmet c.args.sites.now (shown c.args.lanes) c.args.count c.args.count (omega arith) c.requires.apart
    (none_watched c.args.sites.now (shown c.args.lanes) c.args.count (c.watched_size.ensures c.in_default.is)))

pub returns-clause-unmet : goal.returns-clause-unmet
returns-clause-unmet c =
    all_unmet c.args.sites.now (shown c.args.lanes) c.args.count c.count_watched.result
    c.count_watched.ensures.few c.requires.apart c.count_watched.ensures.unmet

pub returns-clause-together : goal.returns-clause-together
returns-clause-together c =
    go_together c.law_of_operators.ensures (shown c.args.lanes) c.count_watched.result c.args.sites.now
    c.requires.ranked
    (all_unmet c.args.sites.now (shown c.args.lanes) c.args.count c.count_watched.result
    c.count_watched.ensures.few c.requires.apart c.count_watched.ensures.unmet)

pub returns-clause-own : goal.returns-clause-own
returns-clause-own c =
    all_own c.args.sites.now (shown c.args.lanes) c.args.count c.count_watched.result
    c.count_watched.ensures.few c.requires.apart c.count_watched.ensures.own
