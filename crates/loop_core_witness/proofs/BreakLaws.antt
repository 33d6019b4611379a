-- The iteration at which a loop breaks.
use Rattle.std.proofs.Common.{◌≡◌, ℕ, ◌<◌, List, length, Option, Some, None, refl, sym, ap, ◌∙◌, arith}
use Rattle.std.{specs.{Prelude.{◌==◌, Bool, true}, List.{sum}}, proofs.lemmas.Bool.{eqb-true}}
use Rattle.array_maps.specs.MapList.{MapList, AreWords}
use Rattle.bpf_insn_types.specs.Program.{Program}
use Rattle.bpf_verify_sound.specs.Soundness.{IsSoundProgram, OverApproximatesCall, IterationEnds, callback_count}
use Rattle.bpf_verify_sound.specs.Soundness.{EachProgramEnds, EachCountIsSmall}
use Rattle.bpf_step.proofs.Limits.{iterations_end, map_words}
use Rattle.bpf_step_model.specs.{State.{LoopCall}, Run.{BoundedResult, Ended, Stuck, Unfinished}}
use Rattle.bpf_step_model.specs.Iteration.{Iterated, iteration}
use Rattle.loop_core_model.specs.LeastBreak.{is_break, least_break, count_to, counted}
use Rattle.loop_core_model.proofs.Least.{IsLeast, least_is, counts_to}
use Rattle.loop_core_trace.specs.{declared.following.Trace.{Trace}, Traced.{IsTraceOf}}
use Rattle.loop_core_witness.specs.{declared.place.Place.{Place}, Breaks.{index_of, IsBreak, AreCounted}}

module _ (program : Program) (call : LoopCall) (words : List ℕ) where
  abbrev pub breaks_at : ℕ → Bool
  breaks_at index = is_break (iteration program 4096 call index words)

  -- the least break
  least_there : (index : ℕ) → least_break program 4096 call words ≡ Some index → IsLeast breaks_at call.n index
  least_there index is = rw is at (least_is breaks_at call.n)

  pub least_within : (index : ℕ) → least_break program 4096 call words ≡ Some index → index < call.n
  least_within index is = (least_there index is).within

  -- and where it returns
  pub breaks_here : (index element : ℕ) (trace : Trace) → least_break program 4096 call words ≡ Some index
      → IsTraceOf program call index words element trace →
      IsBreak program call words (Some (record { index = index; slot = trace.exit }))
  breaks_here index element trace is it =
      let passes : (it.iterated.ret == 1) ≡ true = sym (ap is_break it.ended) ∙ (least_there index is).passes in
      (is, rw (it.ret ∙ eqb-true it.iterated.ret 1 passes) at it.returns)

  -- how many count
  pub counted_is : (broke : Option Place) → IsBreak program call words broke → count_to call.n (index_of broke)
      ≡ counted program 4096 call words
  counted_is None is = ap (count_to call.n) (sym is)
  counted_is (Some place) is = ap (count_to call.n) (sym is.0)

  pub break_within : (place : Place) → IsBreak program call words (Some place) → place.index < call.n
  break_within place is = least_within place.index is.0

-- counted iterations of a loop call that main made end
ended : (program : Program) (most : ℕ) (e : BoundedResult Iterated) → IterationEnds program most e → (it : Iterated)
    × (e ≡ Ended it)
ended program most (Ended it) ends = (it, refl)
ended program most Stuck ends = absurd ends
ended program most Unfinished ends = absurd ends

pub are_counted : EachProgramEnds → EachCountIsSmall → (program : Program) → IsSoundProgram program → (call : LoopCall)
    → OverApproximatesCall program call → (maps : MapList) →
    maps.sizes ≡ program.sizes → length maps.words ≡ sum maps.sizes → AreWords maps.words → (broke : Option Place)
    → IsBreak program call maps.words broke → (count : ℕ) →
    count ≡ count_to call.n (index_of broke) → AreCounted program call maps.words count
are_counted laws counts program sound call known maps sizes long small broke is count told =
    let all : count ≡ counted program 4096 call maps.words = told ∙ counted_is program call maps.words broke is in
    let few = (counts_to (breaks_at program call maps.words) call.n).within in
    record {
      all = all;
      ends = λ index below.
          let inside : index < call.n = omega (arith, below, few) in
          ended program (callback_count program call) (iteration program 4096 call index maps.words)
          (iterations_end laws counts program sound call known index inside maps.words
          (map_words program maps.words (long ∙ ap (λ (s : List ℕ). sum s) sizes) small));
    }
