-- What runs through operations that add up.
use Rattle.std.specs.{Prelude.{◌≡◌, ℕ, ◌≤◌, ◌<◌, true, List}, List.{AllByRecursion}}
use Rattle.array_maps.specs.{declared.access.Op.{Op}, Accesses.{Access}}
use Rattle.loop_core_model.specs.Actions.{reduces_by}
use Rattle.bpf_step_model.specs.Run.{BoundedResult, Ended}
use Rattle.bpf_step_ir.specs.{declared.ir_op.IrOp.{IrOp}, Plain.{Plain}, PlainRun.{PlainRunSegment, plain_run}}
use Rattle.spec_run_loop.specs.SumOps.{AddUp}

-- each access reduces its element by this operator
abbrev pub AllReduce : Op → List Access → Type 0
AllReduce op accesses = AllByRecursion (λ (access : Access). reduces_by op access.action ≡ true) accesses

-- a run that ended made such accesses alone
abbrev pub EndsReducing : Op → BoundedResult PlainRunSegment → Type 0
EndsReducing op (Ended s) = AllReduce op s.accesses
EndsReducing op _ = Unit {0}

-- so does each run, at any bound and on any words, that begins at one of the slots of operations that add up
abbrev pub SumsReduceAlone : Type 0
SumsReduceAlone = (op : Op) (ops : List IrOp) (from past : ℕ) → AddUp op ops from past → (bound : ℕ) (p : Plain)
    (words : List ℕ) → from ≤ p.slot → p.slot < past → EndsReducing op (plain_run ops bound p words)
