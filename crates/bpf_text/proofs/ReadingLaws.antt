-- Reading a unit's lines one after the other, as loops do.
use Rattle.std.proofs.Common.{◌≡◌, ℕ, ◌+◌, List, [], ◌∷◌, Option, Some, None, refl, ap, ◌∙◌}
use Rattle.std.specs.Option.{option_or}
use Rattle.bpf_text_operands.{specs.declared.labels.Label.{Label}, proofs.LabelLaws.{option_or-none}}
use Rattle.bpf_text.specs.AssemblerText.{line_slots, line_label, labels_from, insns_behind}

option_or-assoc : (a b c : Option Label) → option_or (option_or a b) c ≡ option_or a (option_or b c)
option_or-assoc (Some label) b c = refl
option_or-assoc None b c = refl

-- one more line defines its label, if it is one
pub labels_move : (before after whole : Option Label) (slot next : ℕ) (line : ℕ × List ℕ)
    (lines all : List (ℕ × List ℕ)) (name : List ℕ) →
    next ≡ slot + line_slots line.1 → after ≡ option_or before (line_label slot line.0 line.1 name) → all ≡ line ∷ lines
    →
    option_or before (labels_from slot all name) ≡ whole → option_or after (labels_from next lines name) ≡ whole
unfolding labels_from
labels_move before after whole slot next line lines all name step put same so_far =
    let here : option_or before (option_or (line_label slot line.0 line.1 name) (labels_from (slot + line_slots line.1)
    lines name)) ≡ whole = rw same at so_far in
    rw (step, put) (option_or-assoc before (line_label slot line.0 line.1 name) (labels_from (slot + line_slots line.1)
    lines name) ∙ here)

-- no line is left
pub labels_end : (before whole : Option Label) (slot : ℕ) (all : List (ℕ × List ℕ)) (name : List ℕ) → all ≡ []
    → option_or before (labels_from slot all name) ≡ whole → before ≡ whole
unfolding labels_from
labels_end before whole slot all name none so_far =
    let here : option_or before None ≡ whole = rw none at so_far in
    option_or-none before ∙ here

-- a table of the labels serves as well
pub by_table : (labels : List ℕ → Option Label) (lines : List (ℕ × List ℕ))
    → ((name : List ℕ) → labels name ≡ labels_from 0 lines name)
    → insns_behind labels [] lines ≡ insns_behind (labels_from 0 lines) [] lines
by_table labels lines table =
    ap (λ (t : List ℕ → Option Label). insns_behind t [] lines) (λ i name. table name i)
