use Rattle.std.proofs.Common.{◌≡◌, false, ℕ, length, subst, arith}
use Rattle.lane_stamps.specs.{declared.{kind.Kind.TheVariants.{Load}, site.Site.{Site}}, Sites.{shown}, Stamps.{Meets}}
use Rattle.lane_stamps.proofs.MarkLaws.{loaded_meets, loaded_own, loaded_unmet, marks_stale}
use Rattle.lane_stamps.proofs.turns.Stamps.count_watched.Goals as goal

pub invariant_of-self : goal.invariant_of-self
invariant_of-self c =
    let none : Site = record { kind = Load; rank = 0; watched = false; mask = 0; places = 0; value = 0 } in
    record {
      stale = marks_stale c.args.sites.now (shown c.args.lanes) c.begin.new.self.base c.args.count
          c.mark_sites.new.stamps none (c.mark_sites.ensures.known c.begin.new.self.stale);
    }

pub returns-then-are_loaded-clause-unmet : goal.returns-then-are_loaded-clause-unmet
returns-then-are_loaded-clause-unmet c =
    loaded_unmet c.args.sites.now (shown c.args.lanes) c.args.halves c.mark_sites.new.stamps c.begin.new.self.base
    c.args.count c.look_sites-limit.result (c.are_loaded.ensures c.if-are_loaded.true)
    c.look_sites-limit.ensures.few c.mark_sites.ensures.marked c.look_sites-limit.ensures.none

pub returns-then-are_loaded-clause-own : goal.returns-then-are_loaded-clause-own
returns-then-are_loaded-clause-own c =
    loaded_own c.args.sites.now (shown c.args.lanes) c.args.halves c.mark_sites.new.stamps c.begin.new.self.base
    c.args.count c.look_sites-limit.result (c.are_loaded.ensures c.if-are_loaded.true)
    c.look_sites-limit.ensures.few c.mark_sites.ensures.marked c.look_sites-limit.ensures.none

pub returns-then-are_loaded-clause-exact : goal.returns-then-are_loaded-clause-exact
returns-then-are_loaded-clause-exact c less =
    let none : Site = record { kind = Load; rank = 0; watched = false; mask = 0; places = 0; value = 0 } in
    let long : length c.mark_sites.new.stamps ≡ 32768 = omega arith in
    subst (λ (slots : ℕ). Meets c.args.sites.now (shown c.args.lanes) slots c.look_sites-limit.result)
    long
    (loaded_meets c.args.sites.now (shown c.args.lanes) c.args.halves c.begin.new.self.base c.args.count
    (c.are_loaded.ensures c.if-are_loaded.true) c.requires.ranked c.mark_sites.new.stamps c.look_sites-limit.result
    none long less (c.mark_sites.ensures.known c.begin.new.self.stale)
    (c.look_sites-limit.ensures.met less))
