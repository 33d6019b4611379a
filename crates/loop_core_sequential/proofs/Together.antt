-- The lanes of a batch are iterations of the loop in order.
use Rattle.std.proofs.Common.{◌≡◌, ℕ, ◌+◌, ◌-◌, ◌^◌, ◌<◌, ◌≤◌, List, [], ◌∷◌, length, slice_index, slice_index_or, map}
use Rattle.std.proofs.{Common.{Some, refl, sym, ap, ◌∙◌, arith}, lemmas.List.{length-map}}
use Rattle.std.specs.List.{AllByRecursion}
use Rattle.array_maps.specs.{Accesses.{Access, words_after_all}, MapList.{MapList, AreWords}}
use Rattle.bpf_insn_types.specs.Program.{Program}
use Rattle.bpf_step_model.specs.{State.{LoopCall}, Run.{Ended, followed}, Iteration.{Iterated, iteration}}
use Rattle.bpf_verify_sound.specs.Soundness.{IsSoundProgram, AreMapWords, OverApproximatesCall, callback_count}
use Rattle.bpf_verify_sound.specs.Soundness.{IterationEnds, EachProgramEnds, EachCountIsSmall}
use Rattle.bpf_step_ir.specs.{declared.ir_op.IrOp.{IrOp}, Plain.{Plain}, PlainRun.{plain_run}}
use Rattle.bpf_step_ir.specs.Translation.{AreOps}
use Rattle.bpf_step.{specs.Laws.{EachIterationSimulates, plain_exited}, proofs.Callbacks.{begins}}
use Rattle.bpf_step.proofs.Limits.{few_slots, iterations_end}
use Rattle.loop_core_model.specs.Effects.{Effect, EffectLog, accesses_on, effects_of, words_after_each_lane}
use Rattle.loop_core_model.specs.LoopByEffects.{EndsInZero, GoesOn, Leaves, LoopByEachLane}
use Rattle.loop_core_model.proofs.{EffectLaws.{goes_leaves}, Sparing.{accesses_leave}}
use Rattle.bpf_verify.specs.{declared.callback_rows.CallbackRows.{CallbackRows}, Rows.{AreRowsAt, LeavesRowsAt}}
use Rattle.lane_stamps.specs.{declared.site.Site.{Site}, Sites.{LaneRows}}
use Rattle.lane_stamps.specs.Stamps.{AreRanked, GoTogether, NoneMeets, allowed}
use Rattle.row_facts.specs.declared.listing.ListSites.{ListSites}
use Rattle.row_list.specs.{declared.{row_op.RowOp.{RowOp}, translating.RowList.{RowList}}, Rows.{AreValues, effects_by}}
use Rattle.row_list.specs.{Agreement.{AgreesWithValues, EndsWith, SeesBefore}, Joined.{LeavesWithValues}}
use Rattle.row_run.specs.{declared.batch.Batch.{Batch}, Batches.{batch_log}}
use Rattle.loop_core_sequential.specs.{Rests.{RanOn}, Lanes.{EachLane, LanesGoOn, LanesLeave, LoadsNoneLeft}}
use Rattle.loop_core_sequential.specs.Lanes.{RanTogether}

-- the bytes of a call's frame are 512
pub frame_long : (program : Program) (call : LoopCall) (bytes : List ℕ) → OverApproximatesCall program call
    → map Some bytes ≡ call.frame → length bytes ≡ 512
frame_long program call bytes known same = sym (length-map bytes Some) ∙ ap length same ∙ known.sound.frame.count

-- eleven registers with an index in R1, and 0 in all others
abbrev registers_at : (index : ℕ) → List ℕ
registers_at index = 0 ∷ index ∷ 0 ∷ 0 ∷ 0 ∷ 0 ∷ 0 ∷ 0 ∷ 0 ∷ 0 ∷ 0 ∷ []

-- a machine with which an iteration may begin
abbrev machine_at : (slot index : ℕ) (bytes : List ℕ) → Plain
machine_at slot index bytes =
    record { slot = slot; registers = registers_at index; frame = bytes; caller = bytes }

module _ (its : EachIterationSimulates) (laws : EachProgramEnds) (counts : EachCountIsSmall) (program : Program)
    (sound : IsSoundProgram program) (call : LoopCall) (known : OverApproximatesCall program call) (bytes : List ℕ)
    (same : map Some bytes ≡ call.frame) where
  long : length bytes ≡ 512
  long = frame_long program call bytes known same

  module _ (ops : List IrOp) (are : AreOps program ops) where
    -- a run that ends with 0 is an iteration that goes on, and leaves words of the maps
    iterates : (words : List ℕ) → AreMapWords program words → (index : ℕ) → index < call.n → (accesses : List Access)
        → EndsWith ops (machine_at call.callback index bytes) words 0 accesses
        → EndsInZero program 4096 call index words accesses × AreWords (words_after_all accesses words)
    iterates words fit index below accesses ends =
        let enough : 4096 ≡ ends.steps + (4096 - ends.steps) = omega (arith, few_slots program sound.accepted) in
        let it : Iterated =
        record { ret = 0; steps = ends.steps; accesses = accesses; words = words_after_all accesses words } in
        let told : iteration program 4096 call index words ≡ Ended it =
        its program sound ops are 4096 call known index below (machine_at call.callback index bytes)
        (begins call index call.callback (registers_at index) bytes bytes refl
        (record { count = refl; given = refl; ctx = refl }) long same) words fit
        ∙ ap (followed plain_exited)
        (ap (λ (bound : ℕ). plain_run ops bound (machine_at call.callback index bytes) words) enough
        ∙ ends.run (4096 - ends.steps)) in
        let ended : IterationEnds program (callback_count program call) (Ended it) =
        rw told at (iterations_end laws counts program sound call known index below words fit) in
        (record { iterated = it; ended = told; returned = refl; made = refl }, ended.2.fit)

    -- a lane's values: of its index, with effects that may be made on some words
    record IsLane (list : List RowOp) (result : ℕ) (words values now : List ℕ) (index : ℕ) : Type 0 where
      below : index < call.n
      small : index < 2 ^ 32
      valued : AreValues list index bytes words values
      returns : slice_index values result ≡ 0
      old_fit : AreWords words
      fit : AreMapWords program now
      sees : SeesBefore words now (effects_by list values words)
      inside : AllByRecursion (λ effect. effect.element < length now) (effects_by list values words)

    -- so a lane whose list agrees with the operations is an iteration
    lane_goes_on : (list : List RowOp) (result : ℕ) → AgreesWithValues ops call.callback list result
        → (words values now : List ℕ) (index : ℕ) → IsLane list result words values now index
        → GoesOn program 4096 call index now (effects_by list values words)
    lane_goes_on list result agrees words values now index lane =
        let effects : List Effect = effects_by list values words in
        let ran = iterates now lane.fit index lane.below (accesses_on now effects) (rw lane.returns at
        (agrees.each index words values now (machine_at call.callback index bytes) lane.valued lane.small refl refl
        refl long lane.sees lane.inside)) in
        record { ends = ran.0; fit = rw (accesses_leave effects now) at ran.1 }

    -- one whose list leaves what the operations leave, leaves what the iteration leaves
    lane_leaves : (list : List RowOp) (result : ℕ) → LeavesWithValues ops call.callback list result
        → (words values now : List ℕ) (index : ℕ) → IsLane list result words values now index
        → Leaves program 4096 call index now (effects_by list values words)
    lane_leaves list result leaves words values now index lane =
        let run = rw lane.returns at (leaves.each index words values now (machine_at call.callback index bytes)
        lane.valued lane.small refl refl refl long lane.old_fit lane.fit.fit lane.sees lane.inside) in
        let ran = iterates now lane.fit index lane.below run.accesses run.ends in
        record {
          ends = record {
            iterated = ran.0.iterated;
            ended = ran.0.ended;
            returned = ran.0.returned;
            leaves = rw ran.0.made run.leaves;
          };
          fit = rw run.leaves at ran.1;
        }

    -- what is so of each lane's values is so of the lanes that ran together
    each_lane : (Is : ℕ → List ℕ → List Effect → Type 0) → (list : RowList) (words : List ℕ)
        → AreMapWords program words
        → ((values now : List ℕ) (index : ℕ) → IsLane list.list.items list.result words values now index
        → Is index now (effects_by list.list.items values words))
        → (first lanes count : ℕ) → first + lanes ≤ call.n → (batch : Batch)
        → RanTogether list first lanes bytes words batch count → EachLane Is first count words (batch_log batch)
    each_lane Is list words fit one first lanes count within batch together lane below now fits loads =
        let ran = together.ran.ran lane below in
        rw ran.does (one ran.values now (first + lane) (record {
          below = omega arith;
          small = omega (arith, known.sound.iterations);
          valued = ran.are;
          returns = ran.returns;
          old_fit = fit.fit;
          fit = record { count = loads.count ∙ fit.count; fit = fits };
          sees = rw ran.does at (together.own.each lane below words now fits loads);
          inside = rw (← loads.count, ran.does) at (together.ran.within lane below);
        }))

  -- lanes that ran together are iterations, where the list agrees
  pub lanes_go_on : (rows : CallbackRows) → AreRowsAt program call.callback rows → (words : List ℕ)
      → AreMapWords program words → (first lanes count : ℕ) → first + lanes ≤ call.n
      → (batch : Batch) → RanTogether rows.list first lanes bytes words batch count
      → LanesGoOn program call first count words (batch_log batch)
  lanes_go_on rows are words fit =
      each_lane are.ops are.translated (GoesOn program 4096 call) rows.list words fit
      (lane_goes_on are.ops are.translated rows.list.list.items rows.list.result (rw are.here at are.are.agrees) words)

  -- and leave what the iterations leave, where the list leaves it
  pub lanes_leave : (list : RowList) (sites : ListSites) → LeavesRowsAt program call.callback list sites
      → (words : List ℕ) → AreMapWords program words → (first lanes count : ℕ) → first + lanes ≤ call.n
      → (batch : Batch) → RanTogether list first lanes bytes words batch count
      → LanesLeave program call first count words (batch_log batch)
  lanes_leave list sites are words fit =
      each_lane are.ops are.translated (Leaves program 4096 call) list words fit
      (lane_leaves are.ops are.translated list.list.items list.result are.are.leaves words)

-- sites that are ranked, and of which none meets another, load nothing that earlier lanes left
pub loads_none_left : (sites : List Site) (rows : LaneRows) (lanes : ℕ) → AreRanked sites → NoneMeets sites rows lanes
    → LoadsNoneLeft sites rows lanes
loads_none_left sites rows lanes ranked unmet later earlier before inside k d within j d' less load left half here
    there =
    let none : allowed (slice_index_or sites k d) ≡ 0 = rw load refl in
    omega (
      arith,
      ranked.some j d' less left,
      unmet later earlier before inside k d within j d' less left half here
          there,
    )

-- lanes that go on leave what they do
pub lanes_go_leave : (program : Program) (call : LoopCall) (first count : ℕ) (words : List ℕ) (log : EffectLog)
    → LanesGoOn program call first count words log → LanesLeave program call first count words log
lanes_go_leave program call first count words log goes lane below now fits loads =
    goes_leaves program 4096 call (first + lane) now (effects_of log lane) (goes lane below now fits loads)

-- and the loop goes on after those that may go together
pub lanes_went : LoopByEachLane → (program : Program) (call : LoopCall) (first count : ℕ) → first + count ≤ call.n
    → (log : EffectLog) (old new : MapList) → AreWords old.words → LanesLeave program call first count old.words log
    → GoTogether log count → new.sizes ≡ old.sizes → new.words ≡ words_after_each_lane log count old.words
    → RanOn program call first (first + count) old new
lanes_went law program call first count within log old new fit leave together sizes applied = record {
  on = omega arith;
  within = within;
  rest = λ past over.
      let left : past - first ≡ count + (past - (first + count)) = omega arith in
      rw (left, applied) (law program 4096 call first count (past - (first + count)) old.words log fit leave
      (together.loads old.words fit));
  sizes = sizes;
}
