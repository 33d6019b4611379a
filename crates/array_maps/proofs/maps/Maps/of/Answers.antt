use Rattle.std.proofs.{Common.{rules, ◌≡◌, ◌<◌, ◌^◌, ap, length, ◌++◌, sym, subst, ◌∙◌, arith}, lemmas.List.{take_all}}
use Rattle.std.{proofs.ByRecursion.{All-append}, specs.List.{concat, sum}}
use Rattle.array_maps.{specs.MapList.{AreWords, lists}, proofs.MapLists.{one_map_more, length_concat}}
use Rattle.array_maps.proofs.maps.Maps.of.Goals as goal

pub loop-map-preserved : goal.loop-map-preserved
loop-map-preserved c =
    let values = c.as_slice-values.result.now in
    let more = c.in_ok-extend_from_slice.ensures.items in
    record {
      so_far = more
          ∙ ap (λ ws. c.loop-map.words.items ++ ws) c.as_slice-values.ensures.value
          ∙ ap (λ ws. ws ++ c.map-item.result.items) c.loop-map.invariant.so_far
          ∙ sym (one_map_more c.args.values.now c.loop-map.map-index c.map-item.result (grind arith) c.map-item.is);
      fit = subst AreWords (sym more) (All-append (λ word. word < 2 ^ 64) c.loop-map.words.items values
          c.loop-map.invariant.fit c.are_words.ensures);
    }

pub invariant_of-result : goal.invariant_of-result
invariant_of-result c =
    let words : c.loop-map.words.items ≡ concat (lists c.args.values.now) =
    c.loop-map.invariant.so_far ∙ ap (λ vs. concat (lists vs)) (take_all c.loop-map.map-index c.args.values.now
    (grind arith)) in (
      search rules,
      ap length words ∙ length_concat (lists c.args.values.now) ∙ ap sum (sym c.in_ok-sizes.ensures.ok),
      c.loop-map.invariant.fit,
    )
