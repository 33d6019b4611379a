use Rattle.std.{proofs.Common.{rules, ◌≡◌, ap, ◌∙◌, unwrap_or}, specs.BTreeMap.Entry.{map_with_value}}
use Rattle.std.proofs.lemmas.Map.Text.{btree_map_updates_str}
use Rattle.bpf_text_operands.{specs.LabelTable.{label_named}, proofs.LabelLaws.{defined_once}}
use Rattle.bpf_text_operands.proofs.labels.Labels.define.Goals as goal

pub returns : goal.returns
unfolding label_named
returns c = λ other.
    let name = c.args.name.now in
    let before = c.args.self.now in
    let label = c.args.label in
    let value = c.or_insert.result.now in
    let kept : value ≡ unwrap_or (label_named before name) label = c.or_insert.ensures.value
    ∙ ap (λ v. unwrap_or v label) c.in_ok-self.ensures.value in
    let whole = defined_once (label_named before) name label other value _ kept
    (btree_map_updates_str name before.places (map_with_value c.in_ok-self.field-0 value) _
    (c.in_ok-self.ensures.update.0 value) other) in
    search (rules, whole)
