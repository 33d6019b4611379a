-- A loop whose iterations never conflict passes.
use Rattle.std.proofs.Common.{◌≡◌, ℕ, zero, suc, ◌+◌, ◌-◌, ◌^◌, ◌<◌, ◌≤◌, false, List, [], ◌∷◌, ◌++◌, map, length}
use Rattle.std.proofs.Common.{slice_index}
use Rattle.std.{proofs.Common.{Some, refl, sym, ap, subst, ◌∙◌, arith}, specs.Prelude.{replicate, slice_get}}
use Rattle.std.specs.List.{AllByRecursion, range_with_len}
use Rattle.std.proofs.lemmas.List.{length-map, length-append, length-replicate}
use Rattle.array_maps.specs.{Accesses.{Access}, MapList.{AreWords}}
use Rattle.bpf_insn_types.specs.{Program.{Program}, WordBounds.{ResultsFit}}
use Rattle.bpf_step_model.specs.{State.{LoopCall}, Iteration.{Iterated, iteration}}
use Rattle.bpf_step_model.specs.Run.{BoundedResult, Ended, mapped, followed}
use Rattle.bpf_verify_sound.specs.Soundness.{IsSoundProgram, AreMapWords, OverApproximatesCall, IterationEnds}
use Rattle.bpf_verify_sound.specs.Soundness.{EachCountIsSmall, EachProgramEnds, callback_count}
use Rattle.bpf_verify.specs.{declared.callback_rows.CallbackRows.{CallbackRows}, Rows.{AreRowsAt}}
use Rattle.bpf_step_ir.specs.{Plain.{Plain}, PlainRun.{PlainStopReason, PlainExit, PlainRunSegment, plain_run}}
use Rattle.bpf_step.specs.{Laws.{EachIterationSimulates, plain_exited_by, plain_exited}, Iterations.{EachIterationEnds}}
use Rattle.bpf_step.proofs.{Callbacks.{begins}, Limits.{few_slots, iterations_end}}
use Rattle.loop_core_model.specs.declared.{loop_test.Test.TheVariants.{Flow}}
use Rattle.loop_core_model.specs.{Conflict.{conflicting, conflicts}, Effects.{Effect, accesses_on}, Report.{judged}}
use Rattle.loop_core_model.specs.LeastBreak.{accesses_of_each, all_ended, counted, counted_runs, in_front_of, is_break}
use Rattle.loop_core_model.proofs.{Least.{CountsTo, counts_to}, PlaneLaws.{filter-none}}
use Rattle.row_list.specs.{declared.row_op.RowOp.{RowOp}, Agreement.{EndsWith}, Rows.{AreValuesOn, effects_by}}
use Rattle.row_list.{specs.Lanes.{AgreesWithRuns, run_accesses, run_words}, proofs.EffectLaws.{inside_all}}
use Rattle.loop_inspector.specs.{Independent.{AlwaysPasses}, Inspections.{IsSurvey}, Open.{IsInSome}}
use Rattle.loop_inspector.specs.declared.{reach.Span.{Span}, survey.Survey.{Survey}}
use Rattle.loop_inspector.proofs.{ActLaws.{KindIfAccess, run_acts}, Deeds.{all_inside, all_then}}
use Rattle.loop_inspector.proofs.FrameNumbers.{AreBytes, filled_fit}
use Rattle.loop_inspector.proofs.{Values.{After, are_values, lane_after}, Longer.{IsLonger, longer, longer_run}}
use Rattle.loop_inspector.proofs.{CalmLaws.{each_access}, Conflicts.{at_these, calm_at, lane_accesses}}

pub same_ended : {A : Type 0} (x y : A) → Ended x ≡ Ended y → x ≡ y
same_ended x y e = cc

-- an iteration that ended
ends_known : (program : Program) (count : ℕ) (e : BoundedResult Iterated) → IterationEnds program count e
    → (it : Iterated) × (e ≡ Ended it)
ends_known program count (Ended it) ends = (it, refl)
ends_known program count _ ends = absurd ends

-- its run ended as one on longer words that exits
exited_as : (extra : List ℕ) (run other : BoundedResult PlainRunSegment) (s : PlainRunSegment) (it : Iterated) (ret : ℕ)
    → followed plain_exited run ≡ Ended it → IsLonger extra run other → other ≡ Ended s → s.turn ≡ PlainExit ret
    → (it.accesses ≡ s.accesses) × (it.ret ≡ ret)
exited_as extra (Ended r) other s it ret exited more is turn =
    let same : longer extra r ≡ s = same_ended (longer extra r) s (sym more ∙ is) in
    let turned : r.turn ≡ PlainExit ret = ap (λ (t : PlainRunSegment). t.turn) same ∙ turn in
    let one : it ≡ record { ret = ret; steps = r.steps; accesses = r.accesses; words = r.words } =
    same_ended it _ (sym (subst (λ (t : PlainStopReason). plain_exited_by t r ≡ Ended it) turned exited)) in (
      ap (λ (i : Iterated). i.accesses) one ∙ ap (λ (t : PlainRunSegment). t.accesses) same,
      ap (λ (i : Iterated). i.ret) one,
    )
exited_as extra _ other s it ret exited more is turn = absurd (cc exited)

-- iterations that ended, one more in front
front_runs : (e : BoundedResult (List Iterated)) (it : Iterated) (made : List Access) (runs : List (List Access))
    → it.accesses ≡ made → mapped accesses_of_each e ≡ Ended runs
    → mapped accesses_of_each (in_front_of e it) ≡ Ended (made ∷ runs)
front_runs (Ended its) it made runs same is = cc (same, is)
front_runs _ it made runs same is = absurd (cc is)

-- more words than there are elements that an address may name
pub many : ℕ
many = 2 ^ 29

many_are : 2 ^ 29 ≤ many
unfolding many
many_are = omega arith

abbrev pub zeros : List ℕ
zeros = replicate many 0

zeros_fit : (count : ℕ) → AreWords (replicate count 0)
zeros_fit zero = tt
zeros_fit (suc count) = (omega arith, zeros_fit count)

-- what is known of a call of a callback that is a list of rows, from a main with these bytes as its frame
pub record IsCall (program : Program) (call : LoopCall) (rows : CallbackRows) : Type 0 where
  pub fits : ResultsFit
  pub simulates : EachIterationSimulates
  pub sound : IsSoundProgram program
  pub each : EachIterationEnds program
  pub known : OverApproximatesCall program call
  pub are : AreRowsAt program call.callback rows
  pub bytes : List ℕ
  pub same : map Some bytes ≡ call.frame

abbrev pub is_call : {call : LoopCall} {rows : CallbackRows} → ResultsFit → EachIterationSimulates → EachProgramEnds
    → EachCountIsSmall → (program : Program) → IsSoundProgram program → OverApproximatesCall program call
    → AreRowsAt program call.callback rows → (bytes : List ℕ) → map Some bytes ≡ call.frame → IsCall program call rows
is_call fits its ends counts program sound known are bytes same = record {
  fits = fits;
  simulates = its;
  sound = sound;
  each = iterations_end ends counts program sound;
  known = known;
  are = are;
  bytes = bytes;
  same = same;
}

-- the runs of a loop that count: the accesses of its iterations, of a list, and where they stop
pub record Ran (program : Program) (call : LoopCall) (spans : List Span) (words : List ℕ) : Type 0 where
  pub accesses : ℕ → List Access
  pub count : ℕ
  pub counts : CountsTo (λ (i : ℕ). is_break (iteration program 4096 call i words)) call.n count
  pub told : counted_runs program 4096 call words ≡ Ended (map accesses (range_with_len 0 count))
  pub each : (i : ℕ) → i < call.n
      → (it : Iterated) × (iteration program 4096 call i words ≡ Ended it) × (it.accesses ≡ accesses i)
  pub calm : (upto e : ℕ) → upto ≤ call.n → (IsInSome spans e → ⊥) → conflicts Flow (at_these accesses e 0 upto) ≡ false

module _ (program : Program) (call : LoopCall) (rows : CallbackRows) (is : IsCall program call rows) where
  pub few : call.n ≤ 2 ^ 23
  few = omega (arith, is.known.sound.iterations)

  pub bytes_fit : AreBytes is.bytes
  bytes_fit = filled_fit is.bytes (rw is.same is.known.sound.frame.bytes)

  -- all accesses of the list have kinds
  pub have_kinds : (k : ℕ) (op : RowOp) → slice_get rows.list.list.items k ≡ Some op → KindIfAccess op
  have_kinds = each_access rows.list.list.items rows.sites.accesses.items rows.sites.sites.items
      is.are.are.leaves.listed.listed

  module _ (survey : Survey) (known : IsSurvey rows.list.list.items call.n survey) (words : List ℕ)
      (fit : AreMapWords program words) where
    abbrev list : List RowOp
    list = rows.list.list.items

    abbrev result : ℕ
    result = rows.list.result

    abbrev all_words : List ℕ
    all_words = words ++ zeros

    pub all_fit : AreWords all_words
    all_fit = all_then words zeros (λ word small. small) fit.fit (zeros_fit many)

    lane : (index : ℕ) → After is.fits index is.bytes [] [] list all_words
    lane index = lane_after is.fits index is.bytes [] list all_words known.ordered

    abbrev values : ℕ → List ℕ
    values index = (lane index).values

    abbrev found : List ℕ → (k : ℕ) → List ℕ
    found vals = run_words list vals all_words

    valued : (index : ℕ) → index < call.n → AreValuesOn list index is.bytes (found (values index)) (values index)
    valued index below = are_values is.fits index is.bytes [] list all_words (lane index) bytes_fit
        (omega (arith, below, few)) (λ k. omega arith) all_fit

    abbrev at_index : ℕ → BoundedResult Iterated
    at_index index = iteration program 4096 call index words

    -- an iteration ends with the accesses of its lane, whatever the lane's values are
    pub record Made (index : ℕ) (vals : List ℕ) : Type 0 where
      pub it : Iterated
      pub ended : iteration program 4096 call index words ≡ Ended it
      pub accesses : it.accesses ≡ accesses_on all_words (effects_by list vals all_words)
      pub ret : it.ret ≡ slice_index vals result

    pub makes : (index : ℕ) → index < call.n → (vals : List ℕ)
        → AreValuesOn list index is.bytes (found vals) vals → Made index vals
    makes index below vals lane =
        let ops = is.are.ops in
        let registers : List ℕ = 0 ∷ index ∷ 0 ∷ 0 ∷ 0 ∷ 0 ∷ 0 ∷ 0 ∷ 0 ∷ 0 ∷ 0 ∷ [] in
        let p : Plain =
        record { slot = call.callback; registers = registers; frame = is.bytes; caller = is.bytes } in
        let long : length is.bytes ≡ 512 = sym (length-map is.bytes Some) ∙ ap length is.same
        ∙ is.known.sound.frame.count in
        let here = ends_known program (callback_count program call) (at_index index) (is.each call is.known index below
        words fit) in
        let effects : List Effect = effects_by list vals all_words in
        let same_run : run_accesses list vals all_words ≡ accesses_on all_words effects =
        run_acts list have_kinds vals all_words all_words in
        let agrees : AgreesWithRuns ops call.callback list result = rw (← is.are.here) is.are.are.runs in
        let room : 2 ^ 29 ≤ length all_words = omega (
          arith,
          length-append words zeros,
          length-replicate {A =
              ℕ} many 0,
          many_are,
        ) in
        let ends : EndsWith ops p all_words (slice_index vals result) (accesses_on all_words effects) =
        subst (EndsWith ops p all_words (slice_index vals result)) same_run
        (agrees.each index all_words vals p lane (omega (arith, below, few)) refl refl refl long
        (subst (AllByRecursion (λ access. access.element < length all_words)) (sym same_run)
        (inside_all effects all_words (length all_words) (all_inside vals all_words list (length all_words) room)))) in
        let slots = few_slots program is.sound.accepted in
        let enough : 4096 ≡ ends.steps + (4096 - ends.steps) =
        omega (arith, ends.few, is.are.translated.count, slots) in
        let both = exited_as zeros (plain_run ops 4096 p words) (plain_run ops 4096 p all_words) _ here.0
        (slice_index vals result) (sym (is.simulates program is.sound ops is.are.translated 4096 call is.known index
        below p
        (begins call index call.callback registers is.bytes is.bytes refl
        (record { count = refl; given = refl; ctx = refl }) long is.same) words fit) ∙ here.1)
        (longer_run ops zeros 4096 p words)
        (ap (λ (bound : ℕ). plain_run ops bound p all_words) enough ∙ ends.run (4096 - ends.steps)) refl in
        record { it = here.0; ended = here.1; accesses = both.0; ret = both.1 }

    abbrev accesses : ℕ → List Access
    accesses index = lane_accesses list call.n few survey known is.bytes all_words values (λ i. found (values i))
        valued index

    all_runs : (from count : ℕ) → from + count ≤ call.n
        → mapped accesses_of_each (all_ended (map at_index (range_with_len from count)))
        ≡ Ended (map accesses (range_with_len from count))
    all_runs from zero within = refl
    all_runs from (suc count) within =
        let here = makes from (omega (arith, within)) (values from) (valued from (omega (arith, within))) in
        let rest = all_ended (map at_index (range_with_len (from + 1) count)) in
        ap (λ (e : BoundedResult Iterated). mapped accesses_of_each (followed (in_front_of rest) e)) here.ended
        ∙ front_runs rest here.it (accesses from) (map accesses (range_with_len (from + 1) count)) here.accesses
        (all_runs (from + 1) count (omega (arith, within)))

    pub ran : Ran program call survey.spans.items words
    ran =
        let counts = counts_to (λ (i : ℕ). is_break (at_index i)) call.n in
        record {
          accesses = accesses;
          count = counted program 4096 call words;
          counts = counts;
          told = all_runs 0 (counted program 4096 call words) (omega (arith, counts.within));
          each = λ i below. let made = makes i below (values i) (valued i below) in
              (made.it, made.ended, made.accesses);
          calm = calm_at list call.n few survey known is.bytes all_words values (λ i. found (values i)) valued;
        }

  -- a loop of which no element is open passes
  pub none_open_pass : (survey : Survey) → IsSurvey rows.list.list.items call.n survey → survey.spans.items ≡ []
      → AlwaysPasses program call
  none_open_pass survey known none words fit =
      let all : Ran program call survey.spans.items words = ran survey known words fit in
      ap (mapped (λ (runs : List (List Access)). judged (conflicting Flow runs (length words)))) all.told
      ∙ ap (λ (es : List ℕ). Ended (judged es))
      (filter-none (λ e. conflicts Flow (at_these all.accesses e 0 all.count)) 0 (length words)
      (λ e low high. all.calm all.count e all.counts.within (λ inside.
      absurd (let there = subst (λ (spans : List Span). slice_get spans inside.k
      ≡ Some inside.span) none inside.there in
      cc))))
