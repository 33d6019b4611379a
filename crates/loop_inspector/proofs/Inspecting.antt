-- The lanes of a slice's batch are inspected iterations.
use Rattle.std.proofs.Common.{◌≡◌, ℕ, ◌+◌, ◌-◌, ◌<◌, ◌≤◌, ◌⊎◌, inl, inr, List, [], ◌∷◌}
use Rattle.std.proofs.Common.{◌++◌, map, length, slice_index, refl, sym, ap, ap₂, subst, ◌∙◌, arith, Option, Some, None}
use Rattle.std.{specs.Prelude.{◌/◌}, proofs.lemmas.Bool.{cases_Bool, cases_lt}}
use Rattle.std.proofs.lemmas.List.{get_or-append_right, get_or-replicate, get_or_append_left, length-replicate}
use Rattle.std.proofs.Math.ListN.{get_or-eq_default}
use Rattle.array_maps.specs.{Accesses.{Access, actions_at}}
use Rattle.bpf_insn_types.specs.Program.{Program}
use Rattle.bpf_step_model.specs.{State.{LoopCall}, Run.{Ended}}
use Rattle.bpf_verify_sound.specs.Soundness.{AreMapWords}
use Rattle.bpf_verify.specs.declared.callback_rows.CallbackRows.{CallbackRows}
use Rattle.loop_core_model.specs.declared.{loop_test.Test.TheVariants.{Flow}, verdict.Verdict.{Verdict}}
use Rattle.loop_core_model.specs.{Marks.{numbered}, Planes.{bit_of, elements_in_plane}, Report.{verdict}}
use Rattle.loop_core_model.specs.Effects.{Effect, EffectLog, effects_of}
use Rattle.row_list.specs.declared.row_op.RowOp.{RowOp}
use Rattle.row_list.specs.Rows.{AreValues, IsReturned, RowAccess, access_effects, effects_by, is_in, returned}
use Rattle.row_list.specs.Rows.{deed_of, row_access, row_value}
use Rattle.row_run.specs.{Batches.{AllRan, RanAs}}
use Rattle.shadow_marks.specs.{declared.planes.Planes.{Planes}, Standing.{StandFor, no_visits, test_of}}
use Rattle.loop_marks.specs.{Touches.{touch_by, touches_of}, LaneMarks.{LanesMarked}, Visits.{visits_below}}
use Rattle.loop_marks.proofs.VisitLaws.{visits_are}
use Rattle.loop_inspector.specs.{Inspections.{AreInspected, IsInspected, IsInspection, IsVerdictAt}}
use Rattle.loop_inspector.specs.declared.inspection.Inspection.{Inspection}
use Rattle.loop_inspector.proofs.{Bits.{elements_below}, Settling.{IsSettled, is_verdict, same_at}}
use Rattle.loop_inspector.proofs.SliceLanes.{extended}
use Rattle.loop_inspector.proofs.Passing.{IsCall, all_fit, bytes_fit, few, have_kinds, makes, many, ran, zeros}

-- with zeros after them words are the same
module _ (words : List ℕ) where
  same_word : (x : ℕ) → slice_index (words ++ zeros) x ≡ slice_index words x
  same_word x = elim (cases_lt x (length words)) [
    | inl inside ↦ get_or_append_left words zeros 0 x inside
    | inr past ↦ get_or-append_right words zeros (length words) x 0 refl past ∙ zero_at (x - length words)
        ∙ sym (get_or-eq_default words 0 past)
  ]
    where
      zero_at : (i : ℕ) → slice_index zeros i ≡ 0
      zero_at i = elim (cases_lt i (length zeros)) [
        | inl inside ↦ get_or-replicate many i 0 0 (subst (λ (n : ℕ). i < n) (length-replicate many 0) inside)
        | inr past ↦ get_or-eq_default zeros 0 past
      ]

  same_effects : (o : Option RowAccess) (values : List ℕ) → access_effects o values (words ++ zeros)
      ≡ access_effects o values words
  same_effects None values = refl
  same_effects (Some access) values = elim (cases_Bool (is_in values access.mask)) [
    | inl there ↦ rw there
        (ap (λ (word : ℕ). record { element = access.byte / 8; deed = deed_of access.request word } ∷ [])
        (same_word (access.byte / 8)))
    | inr out ↦ rw out refl
  ]

  all_effects_same : (list : List RowOp) (values : List ℕ) → effects_by list values (words ++ zeros)
      ≡ effects_by list values words
  all_effects_same [] values = refl
  all_effects_same (op ∷ list) values = ap₂ (λ (one others : List Effect). one ++ others)
      (same_effects (row_access op values) values) (all_effects_same list values)

  same_returned : (o : Option RowAccess) (values : List ℕ) (value n : ℕ) → IsReturned o values words value n
      → IsReturned o values (words ++ zeros) value n
  same_returned None values value n is = is
  same_returned (Some access) values value n is = λ there.
      is there ∙ ap (returned access.request) (sym (same_word (access.byte / 8)))

  values_same : (list : List RowOp) (index : ℕ) (caller values : List ℕ) → AreValues list index caller words values
      → AreValues list index caller (words ++ zeros) values
  values_same list index caller values are = record {
    each = λ k op there. same_returned (row_access op values) values (row_value op index caller values)
        (slice_index values k) (are.each k op there);
    fit = are.fit;
  }

-- some accesses below an index, and others of so many lanes from there on, of which something holds
added : (P : ℕ → List Access → Type 0) (made : ℕ → List Access) (index lanes : ℕ)
    → ((lane : ℕ) → lane < lanes → (m : List Access) × P lane m) → (i : ℕ)
    → (m : List Access) × (i < index → m ≡ made i) × ((lane : ℕ) → index + lane ≡ i → lane < lanes → P lane m)
added P made index lanes more i = elim (cases_lt i index) [
  | inl before ↦ (made i, λ below. refl, λ lane at inside. absurd (omega (arith, before, at)))
  | inr past ↦ elim (cases_lt (i - index) lanes) [
    | inl inside ↦
        let one = more (i - index) inside in (
          one.0,
          λ below. absurd (omega (arith, past, below)),
          λ lane at less.
              let same : i - index ≡ lane = omega (arith, past, at) in subst (λ (k : ℕ). P k one.0) same one.1,
        )
    | inr none ↦ (
      [],
      λ below. absurd (omega (arith, past, below)),
      λ lane at less. absurd (omega (arith, none, at, less)),
    )
  ]
]

visits_same : (made other : ℕ → List Access) (n e : ℕ) → ((i : ℕ) → i < n → made i ≡ other i)
    → visits_below made n e ≡ visits_below other n e
visits_same made other n e each =
    sym (visits_are made e n) ∙ ap (numbered 0) (same_at made other e 0 n (λ i high.
    let below : i < n = omega (arith, high) in ap (actions_at e) (each i below))) ∙ visits_are other e n

-- an iteration that was inspected, with what its lane touched
record IsLane (program : Program) (call : LoopCall) (words plane : List ℕ) (index : ℕ) (effects : List Effect)
    (made : List Access) : Type 0 where
  inspected : IsInspected program call words plane index made
  touches : touches_of made ≡ map touch_by effects

-- so it is of each lane of a batch of the slice
module _ (program : Program) (call : LoopCall) (rows : CallbackRows) (of : IsCall program call rows) (words : List ℕ)
    (fit : AreMapWords program words) (inspection : Inspection)
    (is : IsInspection rows call.n (length words) inspection) where
  abbrev list : List RowOp
  list = rows.list.list.items

  abbrev cuts : List RowOp
  cuts = inspection.slice.list.list.items

  abbrev plane : List ℕ
  plane = inspection.plane.items

  lane_is : (index : ℕ) → index < call.n → (effects : List Effect) → RanAs cuts inspection.slice.list.result index
      of.bytes
      words effects → (made : List Access) × IsLane program call words plane index effects made
  lane_is index below effects lane =
      let whole = extended of.fits list call.n is.survey is.known rows.list.result inspection.slice is.slice
      (have_kinds program call rows of) index of.bytes (words ++ zeros) (bytes_fit program call rows of)
      (all_fit program call rows of is.survey is.known words fit)
      (omega (arith, below, few program call rows of)) lane.values
      (values_same words cuts index of.bytes lane.values lane.are) in
      let one = makes program call rows of is.survey is.known words fit index below whole.values whole.are in (
        whole.kept.made,
        record {
          inspected = record {
            accesses = one.it.accesses;
            ends = record {
              iterated = one.it;
              ended = one.ended;
              returned = one.ret ∙ whole.same ∙ ap (slice_index lane.values) (sym is.slice.result_is) ∙ lane.returns;
              made = refl;
            };
            same = λ e bit. whole.kept.at_open e (is.plane.only e bit).0 ∙ ap (actions_at e) (sym one.accesses);
          };
          touches = whole.kept.touch ∙ ap (map touch_by) (all_effects_same words cuts lane.values ∙ sym lane.does);
        },
      )

  -- a batch more
  pub batch_inspected : (index lanes : ℕ) → index + lanes ≤ call.n → (log : EffectLog) (returned_lanes : ℕ)
      → lanes ≤ returned_lanes
      → AllRan cuts inspection.slice.list.result index returned_lanes of.bytes words log → (planes marked : Planes)
      → LanesMarked log index lanes planes marked → AreInspected program call words plane index planes
      → AreInspected program call words plane (index + lanes) marked
  batch_inspected index lanes within log returned_lanes enough ran planes marked marks before =
      let all = added (λ lane made. IsLane program call words plane (index + lane) (effects_of log lane) made)
      before.made
      index lanes (λ lane below. lane_is (index + lane) (omega (arith, below, within)) (effects_of log lane)
      (ran.ran lane (omega (arith, below, enough)))) in
      let made : ℕ → List Access = λ i. (all i).0 in
      record {
        made = made;
        each = λ i below. elim (cases_lt i index) [
          | inl inside ↦ rw ((all i).1 inside) (before.each i inside)
          | inr past ↦
              let same : index + (i - index) ≡ i = omega (arith, past) in
              subst (λ (n : ℕ). IsInspected program call words plane n (made i)) same
              ((all i).2 (i - index) same (omega (arith, past, below))).inspected
        ];
        marked = marks made (λ lane below. ((all (index + lane)).2 lane refl below).touches)
            (subst (StandFor planes) (λ p e. sym (visits_same made before.made index e (λ i inside. (all i).1 inside))
            p)
            before.marked);
      }

  -- the verdict by marks, once all iterations are inspected, or all open elements conflict
  pub inspected_verdict : (index : ℕ) → index ≤ call.n → (planes : Planes)
      → AreInspected program call words plane index planes → test_of planes.tested ≡ Flow
      → planes.elements ≡ length words → (found : Verdict) → IsVerdictAt plane planes found
      → (index ≡ call.n) ⊎ IsSettled found (elements_in_plane plane)
      → verdict Flow program 4096 call words ≡ Ended found
  inspected_verdict index within planes inspected test elements found is_at done =
      is_verdict program call is.survey.spans.items words plane (ran program call rows of is.survey is.known words fit)
      (λ e below unset there. absurd (let set = is.plane.set e below there in cc (set, unset)))
      index within planes inspected test elements found is_at
      (rw (← elements_below plane (length words) (λ e past. elim (cases_Bool (bit_of plane e)) [
        | inl set ↦ absurd (let below = (is.plane.only e set).1 in omega (arith, below, past))
        | inr unset ↦ unset
      ])) done)

-- no iteration is inspected yet
pub none_inspected : (program : Program) (call : LoopCall) (words plane : List ℕ) (planes : Planes)
    → StandFor planes no_visits → AreInspected program call words plane 0 planes
none_inspected program call words plane planes none = record {
  made = λ i. [];
  each = λ i below. absurd (omega (arith, below));
  marked = none;
}
