use Rattle.std.proofs.Common.{◌∙◌, sym}
use Rattle.lane_stamps.{specs.Sites.{mask_of, places_of, shown, values_of}, proofs.ApplyLaws.{line_values}}
use Rattle.lane_stamps.proofs.KeepLaws.{site_keeps}
use Rattle.lane_stamps.proofs.applying.apply_site.Goals as goal

pub returns-then-not-leaves : goal.returns-then-not-leaves
returns-then-not-leaves c =
    sym (site_keeps (shown c.args.lanes) c.args.site.now (sym c.if-not-leaves.ensures) c.args.count c.args.words.now)

pub returns-in-Some : goal.returns-in-Some
returns-in-Some c =
    let site = c.args.site.now in
    let lanes = shown c.args.lanes in
    c.apply_kind-in-Some.ensures
    ∙ line_values site.kind (mask_of lanes site) (places_of lanes site) (values_of lanes site) _ c.spell_words.new.out
    c.args.count c.args.words.now c.in-Some.is c.spell_words.ensures

pub returns-in-Some-2 : goal.returns-in-Some-2
returns-in-Some-2 c =
    let site = c.args.site.now in
    let lanes = shown c.args.lanes in
    c.apply_kind-in-Some-2.ensures
    ∙ line_values site.kind (mask_of lanes site) (places_of lanes site) (values_of lanes site) _ c.spell_words-in-Some-2.new.out
    c.args.count c.args.words.now c.in-Some-2.is c.spell_words-in-Some-2.ensures
