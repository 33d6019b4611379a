-- The labels that were defined so far.
use Rattle.std.specs.{Prelude.{ℕ, if◌then◌else◌, List, Option, Some, None}, Str.{bytes_eq}, BTreeMap.{get_by}}
use Rattle.std.specs.{Ordering.{nat_cmp}, Cmp.Lexicographic.{slice_cmp}, Option.{option_or}}
use Rattle.bpf_text_operands.specs.declared.labels.{Label.{Label}, Labels.{Labels}}

-- where a label is defined, if it is
unfoldable pub label_named : Labels → List ℕ → Option Label
label_named labels name = get_by (λ k. slice_cmp nat_cmp name k.now) labels.places

-- the slot of a label
abbrev pub slot_in : Option Label → Option ℕ
slot_in None = None
slot_in (Some label) = Some label.slot

-- the labels once another is defined, which counts where no earlier one has its name
abbrev pub defined : (List ℕ → Option Label) → List ℕ → Label → List ℕ → Option Label
defined labels name label other = option_or (labels other) (if bytes_eq other name then Some label else None)

-- the slots of labels
abbrev pub label_slots : Labels → List ℕ → Option ℕ
label_slots labels name = slot_in (label_named labels name)
