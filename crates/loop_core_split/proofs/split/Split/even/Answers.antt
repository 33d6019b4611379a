use Rattle.std.proofs.Common.{◌≡◌, ℕ, None, ◌+◌, ◌*◌, length, ◌/◌, List, [], ◌∷◌, ◌++◌, arith, refl, sym, subst, ap}
use Rattle.std.{proofs.Common.{◌∙◌}, specs.{Prelude.{map}, List.{range_with_len}}}
use Rattle.std.proofs.lemmas.List.FromFn.{length-map-range_with_len, map-range_with_len_more}
use Rattle.loop_core_model.{specs.Split.{split_fault}, proofs.EvenSplitLaws.{even_is_split}}
use Rattle.loop_core_split.proofs.SplitFacts.{no_even_split, split_is}
use Rattle.loop_core_split.proofs.split.Split.even.Goals.{then-blocks-eq0-via-then-blocks-eq0}
use Rattle.loop_core_split.proofs.split.Split.even.Goals.{then-blocks-eq0-via-else-blocks-eq0+then-blocks-gt-MAX_BLOCKS}
use Rattle.loop_core_split.proofs.split.Split.even.Goals.{else-loop-k-test, then-loop-k-test+else-k-blocks}
use Rattle.loop_core_split.proofs.split.Split.even.Goals as goal

pub returns-then-blocks-eq0-clause-err : goal.returns-then-blocks-eq0-clause-err
returns-then-blocks-eq0-clause-err c =
    no_even_split c.args.n c.args.blocks (λ some. elim c.then-blocks-eq0.branch [
      | then-blocks-eq0-via-then-blocks-eq0 w
          ↦ absurd (omega arith)
      | then-blocks-eq0-via-else-blocks-eq0+then-blocks-gt-MAX_BLOCKS w ↦ omega arith
    ])

-- the bounds with one more
one_more : (items new : List ℕ) (n blocks k next x : ℕ) → items ≡ map (λ j. j * n / blocks) (range_with_len 0 k)
    → new ≡ items ++ x ∷ [] → x ≡ k * n / blocks →
    next ≡ k + 1 → new ≡ map (λ j. j * n / blocks) (range_with_len 0 next)
one_more items new n blocks k next x so_far pushed is on =
    let more = map-range_with_len_more (λ j. j * n / blocks) 0 k k (omega arith) in
    pushed ∙ (ap (λ (xs : List ℕ). xs ++ x ∷ []) so_far
    ∙ (ap (λ (y : ℕ). map (λ j. j * n / blocks) (range_with_len 0 k) ++ y ∷ []) is
    ∙ (sym more ∙ ap (λ (m : ℕ). map (λ j. j * n / blocks) (range_with_len 0 m)) (sym on))))

pub push-requires : goal.push-requires
push-requires c =
    let long : length c.loop-k.bounds.items ≡ c.loop-k.k = ap length c.loop-k.invariant
    ∙ length-map-range_with_len (λ j. j * c.args.n / c.args.blocks) 0 c.loop-k.k in
    (omega arith, omega arith)

pub loop-k-preserved : goal.loop-k-preserved
loop-k-preserved c =
    one_more c.loop-k.bounds.items c.push.new.self.items c.args.n c.args.blocks c.loop-k.k _ _ c.loop-k.invariant
    c.push.ensures.items (cc) refl

pub returns-clause-ok : goal.returns-clause-ok
returns-clause-ok c = elim c.loop-k-test.branch [
  | else-loop-k-test w ↦ absurd (omega arith)
  | then-loop-k-test+else-k-blocks w ↦
      ap (λ v. v.items) w.bounds-is
      ∙ one_more c.loop-k.bounds.items w.push.new.self.items c.args.n c.args.blocks c.loop-k.k (c.args.blocks + 1) _
      c.loop-k.invariant w.push.ensures.items (cc) (omega arith)
]

pub returns-clause-split : goal.returns-clause-split
returns-clause-split c = even_is_split.split c.args.n c.args.blocks (omega arith) (omega arith)

pub invariant_of-result : goal.invariant_of-result
invariant_of-result c =
    split_is c.loop-k-test.bounds.items c.args.n
    (subst (λ (xs : List ℕ). split_fault xs c.args.n ≡ None) (sym (returns-clause-ok c))
    (even_is_split.split c.args.n c.args.blocks (omega arith) (omega arith)))
