use Rattle.std.proofs.Common.{◌≡◌, sym, ◌∙◌, ap, arith}
use Rattle.array_maps.specs.MapList.{MapList}
use Rattle.loop_core_undo.specs.Undo.{words_before}
use Rattle.loop_core_sequential.proofs.{MapEffects.{both_parts}, WatchedEnds.{put_back}}
use Rattle.loop_core_sequential.proofs.watched_loop.in_order_watched.Goals as goal

pub returns-in-Dependent : goal.returns-in-Dependent
returns-in-Dependent c =
    let met = c.in-Dependent.ensures in
    let back : c.exchange.new.maps ≡ c.args.maps.now =
    c.exchange.ensures.maps ∙ put_back c.args.maps.now c.watch.new.maps c.watch.new.log met.restores in (
      back,
      met.ends,
      record {
        count = c.exchange.ensures.count ∙ met.restores.elements;
        within = omega (arith, met.ends.reaches.below, met.ends.last);
        ran = rw (both_parts c.watch.new.maps c.args.maps.now.sizes
            (words_before c.exchange.new.self c.args.maps.now.words) met.restores.sizes
            (sym c.exchange.ensures.back ∙ ap (λ (maps : MapList). words_before c.exchange.new.self maps.words) back))
            at met.ran;
      },
    )
