use Rattle.std.proofs.Common.{◌≡◌, drop}
use Rattle.loop_core_model.specs.Effects.{words_after_site_effects}
use Rattle.lane_stamps.specs.Sites.{log_of, shown}
use Rattle.lane_stamps.proofs.applying.apply.Given as goal

abbrev pub invariant-loop-site : goal.invariant-loop-site
invariant-loop-site l = words_after_site_effects (log_of (drop l.site-index l.sites) (shown l.lanes)) l.count l.words
    ≡ words_after_site_effects (log_of l.sites (shown l.lanes)) l.count l.fn.words
