use Rattle.std.proofs.Common.{rules, ◌≡◌, true, length, sym, ap, ◌∙◌}
use Rattle.bpfspec_machine.{specs.Elements.{has_words}, proofs.WordLaws.{words_counted}}
use Rattle.bpfspec_machine.proofs.machine.Machine.copy_words.Goals as goal

pub copy_from_slice-requires : goal.copy_from_slice-requires
copy_from_slice-requires c =
    let map_sizes = c.self.inside.maps.sizes in
    let words = c.self.inside.maps.words in
    let count = length c.args.words.now in
    let has : has_words map_sizes c.args.map count ≡ true = search rules in
    sym (ap length c.values.ensures ∙ words_counted map_sizes words c.args.map count c.sizes-sizes.ensures.words has)
