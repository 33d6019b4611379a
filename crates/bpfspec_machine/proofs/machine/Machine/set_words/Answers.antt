use Rattle.std.proofs.Common.{rules, ◌≡◌, ◌≤◌, true, length, take, arith}
use Rattle.std.{specs.List.{sum}, proofs.lemmas.List.Sums.{sum_by-take-le}}
use Rattle.array_maps.specs.MapList.{base_of}
use Rattle.bpfspec_machine.{specs.Elements.{has_words}, proofs.WordLaws.{words_within}}
use Rattle.bpfspec_machine.proofs.machine.Machine.set_words.Goals as goal

pub sum-first-requires-clause-fits : goal.sum-first-requires-clause-fits
sum-first-requires-clause-fits c =
    let map_sizes = c.self.inside.maps.sizes in
    let part = sum_by-take-le (λ x. x) map_sizes c.args.map in
    let limits : sum map_sizes ≤ 65536 = search rules in
    let few : sum (take c.args.map map_sizes) ≤ 65536 = omega (arith, part, limits) in
    search (rules, few)

pub store_run-requires : goal.store_run-requires
store_run-requires c =
    let map_sizes = c.self.inside.maps.sizes in
    let words = c.self.inside.maps.words in
    let count = length c.args.words.now in
    let has : has_words map_sizes c.args.map count ≡ true = search rules in
    let within = words_within map_sizes (length words) c.args.map count c.sizes-sizes.ensures.words has in
    let first : c.sum-first.result ≡ base_of map_sizes c.args.map = search rules in
    omega (arith, within, first)
