-- What a range of iterations does to any words is what it does to words that the operator changes nothing with.
use Rattle.std.proofs.Common.{◌≡◌, ℕ, zero, suc, ◌+◌, ◌-◌, ◌<◌, ◌≤◌, Bool, true, false, ◌==◌, if◌then◌else◌, List, []}
use Rattle.std.{proofs.Common.{◌++◌, length, Option, Some, None, refl, sym, ap, ◌∙◌, subst, arith}, specs.List.{sum}}
use Rattle.std.{specs.Prelude.{slice_index}, proofs.lemmas.List.{length-replicate, get_or-replicate}}
use Rattle.array_maps.specs.{Accesses.{Access, words_after_all}, MapList.{MapList, AreWords}}
use Rattle.bpf_insn_types.specs.Program.{Program}
use Rattle.bpf_step_model.specs.{State.{LoopCall}, Run.{BoundedResult, Ended, Stuck, Unfinished, followed}}
use Rattle.bpf_step_model.specs.{Iteration.{Iterated, iteration}, LoopInOrder.{Looped, behind, loop_from}}
use Rattle.bpf_step_model.proofs.Endings.{ended_same}
use Rattle.bpf_verify_sound.specs.Soundness.{AreMapWords, IterationEnds, callback_count}
use Rattle.bpf_step.specs.Iterations.{EachIterationEnds}
use Rattle.loop_core_model.{specs.Kept.{OperatorsAssociate}, proofs.RunAgain.{iteration_local}}
use Rattle.loop_core_model.proofs.Turns.{words_after_all-append}
use Rattle.loop_core_sequential.specs.Rests.{rest_to, RanTo}
use Rattle.spec_run_loop.specs.{SumLaw.{AllReduce}, declared.partial_reduction.PartialReduction.{PartialReduction}}
use Rattle.spec_run_loop.{specs.SumLoops.{SumLoopOf, IsSumLoop}, proofs.Reduces.{all_both, saw_nothing}}
use Rattle.spec_run_loop.specs.Sums.{identity_of, identity_maps, combined_words, IsSumOf}
use Rattle.spec_run_loop.proofs.Combining.{sums_combine}

-- an iteration that ends leaves words of the maps
pub ends_known : (program : Program) (count : ℕ) (e : BoundedResult Iterated) → IterationEnds program count e
    → (it : Iterated) × (e ≡ Ended it) × AreMapWords program it.words
ends_known program count (Ended it) ends = (it, refl, ends.2)
ends_known program count Stuck ends = absurd ends
ends_known program count Unfinished ends = absurd ends

-- what a loop that ended answered and left
answer_in : BoundedResult Looped → ℕ
answer_in (Ended looped) = looped.answer
answer_in Stuck = 0
answer_in Unfinished = 0

words_in : BoundedResult Looped → List ℕ
words_in (Ended looped) = looped.words
words_in Stuck = []
words_in Unfinished = []

-- what comes of a loop behind a range: it broke off, or goes on
abbrev pub goes : Program → LoopCall → (to past : ℕ) → Option ℕ → List ℕ → BoundedResult Looped
goes program call to past (Some answer) words = Ended (record { answer = answer; words = words })
goes program call to past None words = rest_to program call past to words

module _ (program : Program) (call : LoopCall) where
  -- at its end nothing is left
  at_end : (to : ℕ) (words : List ℕ) → rest_to program call to to words ≡ Ended (record { answer = to; words = words })
  at_end to words =
      let none_left : to - to ≡ 0 = omega arith in
      ap (λ (left : ℕ). loop_from program 4096 call left to words) none_left

  -- with one iteration left, it answers the index after it, if it ends
  one_left : (to : ℕ) (words : List ℕ) (looped : Looped) → loop_from program 4096 call 1 to words ≡ Ended looped
      → looped.answer ≡ to + 1
  unfolding answer_in
  one_left to words looped h = go (iteration program 4096 call to words) h
    where
      by_ret : (it : Iterated) (b : Bool) → (if b then Ended (record { answer = to + 1; words = it.words })
          else loop_from program 4096 call 0 (to + 1) it.words) ≡ Ended looped → looped.answer ≡ to + 1
      by_ret it true e = sym (ap answer_in e)
      by_ret it false e = sym (ap answer_in e)

      go : (e : BoundedResult Iterated) → followed (behind (loop_from program 4096 call 0 (to + 1)) to) e ≡ Ended looped
          → looped.answer ≡ to + 1
      go (Ended it) e = by_ret it (it.ret == 1) e
      go Stuck e = absurd (cc)
      go Unfinished e = absurd (cc)

  past_end : (to : ℕ) (words : List ℕ) (looped : Looped) → rest_to program call (to + 1) to words ≡ Ended looped
      → looped.answer ≡ to + 1
  past_end to words looped h =
      let one : to + 1 - to ≡ 1 = omega arith in
      one_left to words looped (sym (ap (λ (left : ℕ). loop_from program 4096 call left to words) one) ∙ h)

  -- a loop that breaks off doesn't go on as well
  not_both : (to answer : ℕ) (words others : List ℕ) → ((past : ℕ) → to ≤ past
      → goes program call to past (Some answer) words ≡ goes program call to past None others) → ⊥
  unfolding answer_in
  not_both to answer words others same =
      let here : answer ≡ to = ap answer_in (same to (omega arith) ∙ at_end to others) in
      let later : answer ≡ to + 1 =
      past_end to others (record { answer = answer; words = words }) (sym (same (to + 1) (omega arith))) in
      omega (arith, here, later)

  -- what comes of it wherever it ends tells whether it broke off, and the words
  same_end : (to : ℕ) (a b : Option ℕ) (words others : List ℕ) → ((past : ℕ) → to ≤ past
      → goes program call to past a words ≡ goes program call to past b others) → (a ≡ b) × (words ≡ others)
  unfolding answer_in words_in
  same_end to None None words others same =
      (refl, ap words_in (sym (at_end to words) ∙ same to (omega arith) ∙ at_end to others))
  same_end to (Some x) (Some y) words others same =
      (ap Some (ap answer_in (same to (omega arith))), ap words_in (same to (omega arith)))
  same_end to (Some x) None words others same = absurd (not_both to x words others same)
  same_end to None (Some y) words others same =
      absurd (not_both to y others words (λ past over. sym (same past over)))

  -- the same in the words of loops in order
  ran_as : (from to : ℕ) (old new : MapList) (broke : Option ℕ) → RanTo program call from to old new broke
      → (from ≤ to) × (new.sizes ≡ old.sizes) × ((past : ℕ) → to ≤ past
      → rest_to program call past from old.words ≡ goes program call to past broke new.words)
  ran_as from to old new (Some answer) ran = (ran.on, ran.sizes, ran.rest)
  ran_as from to old new None ran = (ran.on, ran.sizes, ran.rest)

  as_ran : (from to : ℕ) (old new : MapList) (broke : Option ℕ) → from ≤ to → to ≤ call.n → new.sizes ≡ old.sizes
      → ((past : ℕ) → to ≤ past → rest_to program call past from old.words ≡ goes program call to past broke new.words)
      → RanTo program call from to old new broke
  as_ran from to old new (Some answer) on within sizes rest = record { on = on; rest = rest; sizes = sizes }
  as_ran from to old new None on within sizes rest =
      record { on = on; within = within; rest = rest; sizes = sizes }

module _ (l : SumLoopOf) (is : IsSumLoop l) (each : EachIterationEnds l.program) (base : List ℕ)
    (base_fits : AreMapWords l.program base) where
  -- an iteration does the same on any words
  pub record OneAdds (index : ℕ) : Type 0 where
    pub it : Iterated
    pub reduces : AllReduce l.op it.accesses
    pub again : (words : List ℕ) → AreMapWords l.program words → iteration l.program 4096 l.call index words
        ≡ Ended (record {
          ret = it.ret;
          steps = it.steps;
          accesses = it.accesses;
          words = words_after_all it.accesses words;
        })
    pub fits : (words : List ℕ) → AreMapWords l.program words
        → AreMapWords l.program (words_after_all it.accesses words)

  ended : (index : ℕ) → index < l.call.n → (words : List ℕ) → AreMapWords l.program words
      → (it : Iterated) × (iteration l.program 4096 l.call index words ≡ Ended it) × AreMapWords l.program it.words
  ended index below words fit = ends_known l.program (callback_count l.program l.call)
      (iteration l.program 4096 l.call index words) (each l.call is.known index below words fit)

  one_adds : (index : ℕ) → index < l.call.n → OneAdds index
  one_adds index below =
      let first = ended index below base base_fits in
      let reduces : AllReduce l.op first.0.accesses = is.reduces index below base base_fits first.0 first.1 in
      let left = λ (words : List ℕ). (let it : Iterated = record {
        ret = first.0.ret;
        steps = first.0.steps;
        accesses = first.0.accesses;
        words = words_after_all first.0.accesses words;
      } in it) in
      let again : (words : List ℕ) → AreMapWords l.program words → iteration l.program 4096 l.call index words
      ≡ Ended (left words) =
      λ words fit. (iteration_local l.program 4096 l.call index).again base words first.0 first.1
      (fit.count ∙ sym base_fits.count) (saw_nothing l.op first.0.accesses reduces words) in
      record {
        it = first.0;
        reduces = reduces;
        again = again;
        fits = λ words fit.
            let here = ended index below words fit in
            subst (λ (it : Iterated). AreMapWords l.program it.words)
            (ended_same here.0 (left words) (sym here.1 ∙ again words fit)) here.2;
      }

  -- so does a range of them: it makes the same reduces, and breaks off or not
  pub record Range (from to : ℕ) : Type 0 where
    pub made : List Access
    pub broke : Option ℕ
    pub reduces : AllReduce l.op made
    pub leaves : (words : List ℕ) → AreMapWords l.program words → (past : ℕ) → to ≤ past
        → rest_to l.program l.call past from words ≡ goes l.program l.call to past broke (words_after_all made words)

  -- one iteration, and what is left behind it
  one_more : (past index : ℕ) → index < past → past - index ≡ suc (past - (index + 1))
  one_more past index over = omega (arith, over)

  one_done : (from past : ℕ) → from < past → (one : OneAdds from) (words : List ℕ) → AreMapWords l.program words
      → (b : Bool) → (one.it.ret == 1) ≡ b → rest_to l.program l.call past from words
      ≡ (if b then Ended (record { answer = from + 1; words = words_after_all one.it.accesses words })
      else rest_to l.program l.call past (from + 1) (words_after_all one.it.accesses words))
  one_done from past over one words fit b test =
      rw (one_more past from over, one.again words fit, test)

  in_front : (from to : ℕ) → from < to → (one : OneAdds from) (b : Bool) → (one.it.ret == 1) ≡ b
      → Range (from + 1) to → Range from to
  in_front from to below one true test rest = record {
    made = one.it.accesses;
    broke = Some (from + 1);
    reduces = one.reduces;
    leaves = λ words fit past over. one_done from past (omega (arith, below, over)) one words fit true test;
  }
  in_front from to below one false test rest = record {
    made = one.it.accesses ++ rest.made;
    broke = rest.broke;
    reduces = all_both l.op one.it.accesses rest.made one.reduces rest.reduces;
    leaves = λ words fit past over.
        one_done from past (omega (arith, below, over)) one words fit false test
        ∙ rest.leaves (words_after_all one.it.accesses words) (one.fits words fit) past over
        ∙ ap (goes l.program l.call to past rest.broke)
        (sym (words_after_all-append one.it.accesses rest.made words));
  }

  range : (to left from : ℕ) → to ≤ l.call.n → from + left ≡ to → Range from to
  range to zero from within all =
      let same : from ≡ to = omega (arith, all) in
      record {
        made = [];
        broke = None;
        reduces = tt;
        leaves = λ words fit past over. ap (λ (i : ℕ). rest_to l.program l.call past i words) same;
      }
  range to (suc left) from within all =
      let one = one_adds from (omega (arith, all, within)) in
      in_front from to (omega (arith, all)) one (one.it.ret == 1) refl
      (range to left (from + 1) within (omega (arith, all)))

  -- what it left on words that the operator changes nothing with is what it adds up to
  identity_at : base ≡ (identity_maps l.op l.program.sizes).words → (e : ℕ) → e < length base
      → slice_index base e ≡ identity_of l.op
  identity_at is_identity e h =
      let count : length base ≡ sum l.program.sizes = ap length is_identity
      ∙ length-replicate (sum l.program.sizes) (identity_of l.op) in
      ap (λ (ws : List ℕ). slice_index ws e) is_identity
      ∙ get_or-replicate (sum l.program.sizes) e (identity_of l.op) 0 (omega (arith, h, count))

  pub carried : OperatorsAssociate → base ≡ (identity_maps l.op l.program.sizes).words → (from to : ℕ)
      → to ≤ l.call.n → (old : MapList) → old.words ≡ base → old.sizes ≡ l.program.sizes → (s : PartialReduction)
      → RanTo l.program l.call from to old s.maps s.broke → IsSumOf l from to s
  carried laws base_is from to within old old_is sizes s ran =
      let was = ran_as l.program l.call from to old s.maps s.broke ran in
      let on = was.0 in
      let r = range to (to - from) from within (omega (arith, on)) in
      let same = same_end l.program l.call to r.broke s.broke (words_after_all r.made base) s.maps.words
      (λ past over. sym (r.leaves base base_fits past over)
      ∙ sym (ap (rest_to l.program l.call past from) old_is)
      ∙ was.2 past over) in
      record {
        fits = was.1 ∙ sizes;
        adds = λ maps fit. as_ran l.program l.call from to maps
            (record { sizes = maps.sizes; words = combined_words l.op maps.words s.maps.words }) s.broke on within refl
            (λ past over.
            r.leaves maps.words fit past over
            ∙ ap (goes l.program l.call to past r.broke)
            (sums_combine laws l.op r.made r.reduces maps.words fit.fit base (base_fits.count ∙ sym fit.count)
            (identity_at base_is))
            ∙ ap (λ (b : Option ℕ). goes l.program l.call to past b
            (combined_words l.op maps.words (words_after_all r.made base))) same.0
            ∙ ap (λ (ws : List ℕ). goes l.program l.call to past s.broke (combined_words l.op maps.words ws)) same.1);
      }

-- so of what a range of iterations ran on that is such words
pub ran_sum : (l : SumLoopOf) → IsSumLoop l → EachIterationEnds l.program → OperatorsAssociate → (old : MapList)
    (s : PartialReduction) → old ≡ identity_maps l.op l.program.sizes → AreWords old.words → (from to : ℕ) → to ≤ l.call.n
    → RanTo l.program l.call from to old s.maps s.broke → IsSumOf l from to s
ran_sum l is each laws old s cleared fit from to within ran =
    let words : old.words ≡ (identity_maps l.op l.program.sizes).words = ap (λ (maps : MapList). maps.words) cleared in
    carried l is each old.words
    (record {
      count = ap length words ∙ length-replicate (sum l.program.sizes) (identity_of l.op);
      fit = fit;
    }) laws words from to within old refl (ap (λ (maps : MapList). maps.sizes) cleared) s ran
