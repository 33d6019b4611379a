-- What is known of a loop before it runs, and what its inspected iterations do.
use Rattle.std.specs.Prelude.{◌≡◌, ℕ, ◌<◌, ◌&&◌, true, List, length}
use Rattle.std.specs.List.{filter, range_with_len}
use Rattle.array_maps.specs.Accesses.{Access, actions_at}
use Rattle.bpf_insn_types.specs.Program.{Program}
use Rattle.bpf_step_model.specs.State.{LoopCall}
use Rattle.loop_core_model.specs.{Report.{judged}, LoopByEffects.{EndsInZero}, Marks.{Visit, marks_of, marked_conflict}}
use Rattle.loop_core_model.specs.{Planes.{bit_of}, declared.verdict.Verdict.{Verdict}}
use Rattle.bpf_verify.specs.{declared.callback_rows.CallbackRows.{CallbackRows}, Rows.{AreRowsAt}}
use Rattle.row_list.specs.declared.row_op.RowOp.{RowOp}
use Rattle.row_facts.specs.{declared.fact.Fact.{Fact}, Facts.{AreFacts}}
use Rattle.row_facts.specs.{Sites.{AreSites}, Ordered.{IsOrdered}}
use Rattle.shadow_marks.specs.{declared.planes.Planes.{Planes}, Standing.{StandFor, test_of}}
use Rattle.loop_marks.specs.Visits.{visits_below}
use Rattle.loop_inspector.specs.declared.{survey.Survey.{Survey}, inspection.Inspection.{Inspection}}
use Rattle.loop_inspector.specs.{Open.{IsPlaneOf, OpenUpto}, Slices.{IsSlice}}

-- what is known of the iterations of a list, of indexes below n: the elements at which they may conflict
pub record IsSurvey (list : List RowOp) (n : ℕ) (survey : Survey) : Type 0 where
  pub ordered : IsOrdered list
  pub facts : List Fact
  pub are_facts : AreFacts list facts
  pub are_sites : AreSites list facts list survey.sites.items
  pub all : OpenUpto survey.sites.items n (length survey.sites.items) survey.spans.items

-- what is known of a loop of a callback over so many elements: its slice is for the elements that are open
pub record IsInspection (rows : CallbackRows) (n elements : ℕ) (inspection : Inspection) : Type 0 where
  pub survey : Survey
  pub known : IsSurvey rows.list.list.items n survey
  pub plane : IsPlaneOf survey.spans.items elements inspection.plane.items
  pub slice : IsSlice survey.sites.items survey.spans.items rows.list.list.items rows.list.result inspection.slice

-- so of a loop call's
pub record IsInspectionOf (program : Program) (call : LoopCall) (elements : ℕ) (inspection : Inspection) : Type 0 where
  pub rows : CallbackRows
  pub are : AreRowsAt program call.callback rows
  pub is : IsInspection rows call.n elements inspection

-- an iteration was inspected: it returns 0 on the start words, and at open elements it does what is marked
pub record IsInspected (program : Program) (call : LoopCall) (words plane : List ℕ) (index : ℕ) (made : List Access)
    : Type 0 where
  pub accesses : List Access
  pub ends : EndsInZero program 4096 call index words accesses
  pub same : (e : ℕ) → bit_of plane e ≡ true → actions_at e made ≡ actions_at e accesses

-- the iterations below an index were, and planes have their marks
pub record AreInspected (program : Program) (call : LoopCall) (words plane : List ℕ) (index : ℕ) (planes : Planes)
    : Type 0 where
  pub made : ℕ → List Access
  pub each : (i : ℕ) → i < index → IsInspected program call words plane i (made i)
  pub marked : StandFor planes (visits_below made index)

-- a verdict is that of the marks at open elements
abbrev pub IsVerdictAt : (plane : List ℕ) → Planes → Verdict → Type 0
IsVerdictAt plane planes found = (visits : ℕ → List Visit) → StandFor planes visits → found ≡ judged
    (filter (λ e. marked_conflict (test_of planes.tested) (marks_of (visits e)) && bit_of plane e)
    (range_with_len 0 planes.elements))

-- bits of a plane after those that another hasn't are cleared
pub record KeepsBits (others old new : List ℕ) : Type 0 where
  pub count : length new ≡ length old
  pub bits : (e : ℕ) → bit_of new e ≡ (bit_of old e && bit_of others e)
