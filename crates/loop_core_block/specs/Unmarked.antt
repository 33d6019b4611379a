-- Planes on which no iteration has ended: that they are so has one proof at most, so a workspace can keep it.
use Rattle.std.specs.Prelude.{ℕ}
use denote.Struct.Props.{props}
use Rattle.loop_core_model.specs.Marks.{Marks}
use Rattle.shadow_marks.specs.declared.planes.Tested.{Tested, TheVariants.{Lrpd as ByLrpd, Flow as ByFlow}}
use Rattle.shadow_marks.specs.declared.planes.Planes.{Planes}
use Rattle.shadow_marks.specs.Standing.{AreTested, TestedStandAt, StandFor, no_visits}

tested-prop : (elements : ℕ) (tested : Tested) → IsProp (AreTested elements tested)
tested-prop elements (ByLrpd planes) = hlevel props
tested-prop elements (ByFlow planes) = hlevel props

tested_at-prop : (tested : Tested) (e : ℕ) (marks : Marks) → IsProp (TestedStandAt tested e marks)
tested_at-prop (ByLrpd planes) e marks = hlevel props
tested_at-prop (ByFlow planes) e marks = hlevel props

pub unmarked-prop : (planes : Planes) → IsProp (StandFor planes no_visits)
unmarked-prop planes = hlevel (props, tested-prop, tested_at-prop)
