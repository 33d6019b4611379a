use Rattle.std.{proofs.Common.{List, ℕ, ◌∙◌, sym, ap, subst}, specs.List.{AllZip}}
use Rattle.rayon.proofs.{ListFacts.{IfOk-then}, ToStd.{slice-AllZip}}
use Rattle.loop_core_gather.specs.Pages.{IsLeftAt}
use Rattle.loop_core_gather.proofs.sharing.left_in_threads.Goals as goal

pub returns : goal.returns
returns g c =
    let slice = ap (λ it. it.base.slice.now) c.map.ensures.base ∙ ap (λ it. it.slice.now) c.with_min_len.ensures.base
    ∙ c.par_iter.ensures in
    let same = ap (λ f. f.0.now.words) c.map.ensures.f in
    IfOk-then c.collect.result _ _ c.collect.ensures (λ v h.
    let chain = h.1 in
    let each = slice-AllZip chain.0 c.args.numbers.now (chain.1 ∙ slice) (IsLeftAt _) h.0 chain.2 in
    subst (AllZip (IsLeftAt c.args.gathered.now.words) c.args.numbers.now) (sym h.2)
    (subst (λ (ws : List ℕ). AllZip (IsLeftAt ws) c.args.numbers.now h.0) same each))
