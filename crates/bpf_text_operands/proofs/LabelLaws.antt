-- Defining labels.
use Rattle.std.proofs.Common.{◌≡◌, ℕ, Bool, true, false, cond, List, Option, Some, None, unwrap_or, refl, ◌∙◌, subst}
use Rattle.std.specs.{Str.{bytes_eq}, Cmp.Lexicographic.{bytes_decides, nat_list_eq_equiv}, Option.{option_or}}
use Rattle.bpf_text_operands.specs.{declared.labels.Label.{Label}, LabelTable.{defined}}

-- an option or none is itself
pub option_or-none : (r : Option Label) → r ≡ option_or r None
option_or-none (Some label) = refl
option_or-none None = refl

-- an option or another is what it unwraps to
option_or-some : (r : Option Label) (label : Label) → Some (unwrap_or r label) ≡ option_or r (Some label)
option_or-some (Some earlier) label = refl
option_or-some None label = refl

by_test : (t : Bool) (labels : List ℕ → Option Label) (name : List ℕ) (label : Label) (other : List ℕ)
    → bytes_eq name other ≡ t →
    cond t (Some (unwrap_or (labels name) label)) (labels other) ≡ defined labels name label other
by_test true labels name label other same =
    let here : bytes_eq other name ≡ true = nat_list_eq_equiv.symm other name ∙ same in
    rw here (subst (λ l. Some (unwrap_or (labels name) label) ≡ option_or (labels l) (Some label))
    ((bytes_decides name other).0 same) (option_or-some (labels name) label))
by_test false labels name label other same =
    let apart : bytes_eq other name ≡ false = nat_list_eq_equiv.symm other name ∙ same in
    rw apart (option_or-none (labels other))

-- a label's name, once the earlier label of that name is put in there, or else the label
pub defined_once : (labels : List ℕ → Option Label) (name : List ℕ) (label : Label) (other : List ℕ) (value : Label)
    (r : Option Label) → value ≡ unwrap_or (labels name) label →
    r ≡ cond (bytes_eq name other) (Some value) (labels other) → r ≡ defined labels name label other
defined_once labels name label other value r kept put =
    let put_kept : r ≡ cond (bytes_eq name other) (Some (unwrap_or (labels name) label)) (labels other) =
    rw (← kept) put in
    put_kept ∙ by_test (bytes_eq name other) labels name label other refl
