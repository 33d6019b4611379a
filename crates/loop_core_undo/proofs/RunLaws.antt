-- Entries that follow each other.
use Rattle.std.proofs.Common.{◌≡◌, ℕ, ◌+◌, ◌<◌, ◌≤◌, Bool, false, ◌||◌, ◌↔◌, List, length, get_or, set, inl, inr, refl}
use Rattle.std.proofs.Common.{sym, ◌∙◌, ap, subst, arith, length-set, get_or-set_same, get_or-set_other}
use Rattle.std.proofs.lemmas.Bool.{cases_eq, or_parts, or_from}
use Rattle.loop_core_undo.specs.Runs.{RunIsSet}

pub no_run_yet : {X : Type 0} (entries : List X) (d : X) (first : ℕ) (entry : ℕ → X)
    → RunIsSet entries entries d first first entry
no_run_yet entries d first entry = record {
  count = refl;
  inside = λ e low high. absurd (omega (arith, low, high));
  below = λ e low. refl;
  above = λ e high. refl;
}

pub one_entry_more : {X : Type 0} (old now : List X) (d : X) (first end : ℕ) (entry : ℕ → X) (kept : X)
    → RunIsSet old now d first end entry → first ≤ end → end < length now → kept ≡ entry end
    → RunIsSet old (set now end kept) d first (end + 1) entry
one_entry_more old now d first end entry kept so_far order room is = record {
  count = length-set now end kept ∙ so_far.count;
  inside = λ e low high. elim (cases_eq e end) [
    | inl same ↦
        ap (λ (k : ℕ). get_or (set now end kept) k d) same ∙ get_or-set_same now end kept d room ∙ is
        ∙ ap entry (sym same)
    | inr other ↦
        get_or-set_other now end e kept d other ∙ so_far.inside e low (omega (arith, high, other))
  ];
  below = λ e low.
      get_or-set_other now end e kept d (λ same. omega (arith, low, order, same)) ∙ so_far.below e low;
  above = λ e high.
      get_or-set_other now end e kept d (λ same. omega (arith, high, same)) ∙ so_far.above e (omega (arith, high));
}

pub all_entries : {X : Type 0} (old new : List X) (d : X) (first end all : ℕ) (entry : ℕ → X) → end ≡ all
    → RunIsSet old new d first end entry → RunIsSet old new d first all entry
all_entries old new d first end all entry same so_far =
    subst (λ (n : ℕ). RunIsSet old new d first n entry) same so_far

-- whether any is set, one entry more
pub any_more : (entries : List Bool) (first k : ℕ) (any here : Bool) → here ≡ get_or entries (first + k) false
    → (any ≡ false) ↔ ((j : ℕ) → j < k → get_or entries (first + j) false ≡ false)
    → ((any || here) ≡ false) ↔ ((j : ℕ) → j < k + 1 → get_or entries (first + j) false ≡ false)
any_more entries first k any here is so_far = (
  (λ none j under. elim (cases_eq j k) [
    | inl same ↦
        ap (λ (i : ℕ). get_or entries (first + i) false) same ∙ sym is ∙ (or_parts any here none).1
    | inr other ↦ so_far.0 (or_parts any here none).0 j (omega (arith, under, other))
  ]),
  (λ each. or_from any here (so_far.1 (λ j under. each j (omega (arith, under)))) (is ∙ each k (omega arith))),
)
