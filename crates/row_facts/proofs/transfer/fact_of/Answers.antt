use Rattle.std.{proofs.{Common.{◌≡◌, ℕ, sym, subst, inl, inr}, lemmas.Bool.{cases_cond}}, specs.Prelude.{slice_index, if◌then◌else◌}}
use Rattle.row_list.specs.Rows.{is_in}
use Rattle.row_facts.specs.Facts.{IsFact}
use Rattle.row_facts.proofs.transfer.fact_of.Goals as goal

pub returns-in-Choice : goal.returns-in-Choice
returns-in-Choice c index caller words values n few fit word is =
    let w = c.in-Choice in
    let x = slice_index values w.first in
    let y = slice_index values w.second in
    let e : n ≡ (if is_in values w.mask then x else y) = rw w.is at is in
    let P : ℕ → Type 0 = λ k. IsFact c.either.result index k in
    elim (cases_cond (is_in values w.mask) x y n e) [
      | inl f ↦ subst P (sym f) (c.either.ensures.first index x (c.fact_at.ensures index values fit))
      | inr f ↦ subst P (sym f) (c.either.ensures.second index y (c.fact_at-in-Choice.ensures index values fit))
    ]
