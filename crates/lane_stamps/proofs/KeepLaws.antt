-- What leaves nothing leaves all as it was.
use Rattle.std.proofs.Common.{◌≡◌, ℕ, zero, suc, Bool, true, false, List, refl, ◌∙◌}
use Rattle.std.specs.Prelude.{Some, None, if◌then◌else◌}
use Rattle.loop_core_model.{specs.Kinds.{kind_leaves}, proofs.Sparing.{keeps}}
use Rattle.loop_core_model.specs.Effects.{Effect, kind_of_deed, words_after_any_effect, words_after_lane_effects}
use Rattle.lane_stamps.specs.{declared.site.Site.{Site}, Sites.{LaneRows, done_by, effect_at, has, leaves}}
use Rattle.lane_stamps.proofs.StampLaws.{site_leaves}

one_keeps : (effect : Effect) (there : Bool) (words : List ℕ) → kind_leaves (kind_of_deed effect.deed) ≡ false
    → words_after_any_effect (if there then Some effect else None) words ≡ words
one_keeps effect false words none = refl
one_keeps effect true words none = keeps effect none words

pub site_keeps : (lanes : LaneRows) (site : Site) → leaves site.kind ≡ false → (count : ℕ) (words : List ℕ)
    → words_after_lane_effects (effect_at lanes site) count words ≡ words
site_keeps lanes site none zero words = refl
site_keeps lanes site none (suc count) words =
    one_keeps (done_by lanes site count) (has lanes site count) (words_after_lane_effects (effect_at lanes site) count
    words)
    (site_leaves lanes site count ∙ none)
    ∙ site_keeps lanes site none count words
