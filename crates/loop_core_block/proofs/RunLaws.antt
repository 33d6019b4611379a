-- Iterations one after another, up to a break.
use Rattle.std.proofs.Common.{◌≡◌, ℕ, suc, ◌+◌, ◌-◌, ◌<◌, ◌≤◌, Bool, true, false, List, [], ◌∷◌, ◌++◌, length}
use Rattle.std.proofs.{Common.{Some, None, refl, sym, ◌∙◌, inl, inr, arith}, lemmas.Bool.{cases_Bool}}
use Rattle.std.specs.Prelude.{if◌then◌else◌, ◌==◌}
use Rattle.bpf_step_model.specs.{Run.{BoundedResult, Ended, followed}, Iteration.{Iterated, iteration}}
use Rattle.loop_core_model.specs.Block.{block_run, break_from, unless_break}
use Rattle.loop_core_model.proofs.{BlockLaws.{scans_follow}, FirstBreak.{break_there}}
use Rattle.loop_core_block.specs.declared.runner.Runner.{Runner}
use Rattle.loop_core_block.specs.Runs.{start_words, IsReady, IsSame, RunnerHasRun, RanOneMore, RanUpTo}

-- a runner that is the same is as ready
pub still_ready : (old new : Runner) → IsReady old → IsSame old new → IsReady new
still_ready old new ready same = record {
  known = rw same.callback ready.known;
  count = rw (same.start, same.callback) ready.count;
  enough = rw (same.callback, same.most) ready.enough;
  few = rw same.most ready.few;
}

-- and has as many iterations
pub still_within : (old new : Runner) (past : ℕ) → past ≤ old.callback.call.n → IsSame old new
    → past ≤ new.callback.call.n
still_within old new past within same = rw same.callback within

-- the block of an interval
abbrev pub block_by : Runner → (first past : ℕ) → BoundedResult (List Iterated)
block_by r first past = block_run r.callback.program 4096 r.callback.call (start_words r) first past

-- the iterations on the start words
abbrev pub iterate_by : Runner → ℕ → BoundedResult Iterated
iterate_by r index = iteration r.callback.program 4096 r.callback.call index (start_words r)

-- the iterations from a first index up to, and without, another were run, where none was run before, and none broke
pub record RanAll (first index : ℕ) (old new : Runner) : Type 0 where
  pub same : IsSame old new
  pub ran : List Iterated
  pub ended : block_by old first index ≡ Ended ran
  pub none : break_from first ran ≡ None
  pub has_run : RunnerHasRun first index ran new

-- where iterations broke, of which the first ones didn't
break_behind : (index : ℕ) (xs ys : List Iterated) → break_from index xs ≡ None
    → break_from index (xs ++ ys) ≡ break_from (index + length xs) ys
break_behind index [] ys none = let here : index + 0 ≡ index = omega arith in rw here refl
break_behind index (x ∷ xs) ys none =
    let next : index + suc (length xs) ≡ index + 1 + length xs = omega arith in
    elim (cases_Bool (x.ret == 1)) [
      | inl one ↦ absurd (let broke = rw one at none in cc)
      | inr on ↦ rw (on, next) (break_behind (index + 1) xs ys (rw on at none))
    ]

-- a block is the scan of its first part, and then of the rest
parts : (r : Runner) (from mid to : ℕ) → from ≤ mid → mid ≤ to
    → block_by r from to ≡ followed (unless_break (block_by r mid to)) (block_by r from mid)
parts r from mid to up on =
    let both : to - from ≡ mid - from + (to - mid) = omega arith in
    let reached : from + (mid - from) ≡ mid = omega arith in
    rw (both, scans_follow (iterate_by r) (mid - from) (to - mid) from, reached) refl

-- no iteration
pub ran_none : (r : Runner) (first : ℕ) → RunnerHasRun first first [] r → RanAll first first r r
ran_none r first has = record {
  same = record { callback = refl; most = refl; start = refl; test = refl };
  ran = [];
  ended = let none : first - first ≡ 0 = omega arith in rw none refl;
  none = refl;
  has_run = has;
}

-- all of them
pub ran_all : (first past : ℕ) (old new : Runner) → RanAll first past old new → RanUpTo first past old new None
ran_all first past old new x = record {
  same = x.same;
  ran = x.ran;
  ended = x.ended;
  broke_is = sym x.none;
  has_run = rw x.has_run.reached at x.has_run;
}

either_way : (t : Bool) (e : BoundedResult (List Iterated)) → (if t then e else e) ≡ e
either_way true e = refl
either_way false e = refl

-- one iteration more
module _ (first index : ℕ) (a b c : Runner) (broke : Bool) (up : first ≤ index) (x : RanAll first index a b)
    (one : RanOneMore index b c broke) where
  iterated_ended : iterate_by a index ≡ Ended one.iterated
  iterated_ended = rw (← x.same.callback, ← x.same.start) one.ended

  single : block_by a index (index + 1) ≡ Ended (one.iterated ∷ [])
  single =
      let left : index + 1 - index ≡ 1 = omega arith in
      rw (left, iterated_ended) (either_way (one.iterated.ret == 1) (Ended (one.iterated ∷ [])))

  abbrev more : List Iterated
  more = x.ran ++ one.iterated ∷ []

  more_ended : block_by a first (index + 1) ≡ Ended more
  more_ended = parts a first index (index + 1) up (omega arith)
      ∙ rw (x.ended, single, break_there first x.ran, x.none) refl

  breaks_at : break_from first more ≡ (if broke then Some index else None)
  breaks_at =
      rw (break_behind first x.ran (one.iterated ∷ []) x.none, ← x.has_run.reached, ← one.broke_is) refl

  same_more : IsSame a c
  same_more = record {
    callback = one.same.callback ∙ x.same.callback;
    most = one.same.most ∙ x.same.most;
    start = one.same.start ∙ x.same.start;
    test = one.same.test ∙ x.same.test;
  }

  has_more : RunnerHasRun first (index + 1) more c
  has_more = one.has_run first x.ran x.has_run

  -- which didn't break
  pub goes_on : broke ≡ false → RanAll first (index + 1) a c
  goes_on is = record {
    same = same_more;
    ran = more;
    ended = more_ended;
    none = rw (breaks_at, is) refl;
    has_run = has_more;
  }

  -- which broke: none after it is run
  pub breaks : (past : ℕ) → index < past → broke ≡ true → RanUpTo first past a c (Some index)
  breaks past below is =
      let at : break_from first more ≡ Some index = rw (breaks_at, is) refl in
      record {
        same = same_more;
        ran = more;
        ended = parts a first (index + 1) past (omega arith) (omega arith)
            ∙ rw (more_ended, break_there first more, at) refl;
        broke_is = sym at;
        has_run = rw has_more.reached at has_more;
      }
