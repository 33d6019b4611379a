-- Runs through operations that add up.
use Rattle.std.{proofs.Common.{ℕ, zero, suc, List, [], ◌∷◌, Option, Some, None}, specs.Prelude.{slice_get}}
use Rattle.array_maps.specs.{declared.access.Op.{Op}, Accesses.{Access, words_after}}
use Rattle.bpf_step_model.specs.{Step.{Request}, Run.{BoundedResult, Ended, Stuck, Unfinished, action_of, mapped}}
use Rattle.bpf_step_ir.specs.{declared.ir_op.IrOp.{IrOp}, Plain.{CallsLoop, RefusesLoop, Ends}}
use Rattle.bpf_step_ir.specs.Plain.{plain_step, plain_after_request, Plain, PlainStepOutcome, Halts, Goes, Wants}
use Rattle.bpf_step_ir.specs.PlainRun.{PlainRunSegment, op_of, with_op, after_plain_access, after_plain_step, plain_run}
use Rattle.spec_run_loop.specs.{SumOps.{AddUp}, SumLaw.{AllReduce, EndsReducing, SumsReduceAlone}}
use Rattle.spec_run_loop.proofs.{Reduces.{all_both}, SumSteps.{IsAt, LeadsReducing, op_leads}}

-- an operation in front whose accesses reduce
more : (op : Op) (made : List Access) (e : BoundedResult PlainRunSegment) → AllReduce op made → EndsReducing op e
    → EndsReducing op (mapped (with_op made) e)
more op made (Ended s) first all = all_both op made s.accesses first all
more op made Stuck first all = tt
more op made Unfinished first all = tt

module _ (op : Op) (ops : List IrOp) (from past : ℕ) (add_up : AddUp op ops from past) where
  -- what is claimed of each run with this bound
  abbrev pub RunsReduce : ℕ → Type 0
  RunsReduce bound = (p : Plain) (words : List ℕ) → IsAt from past p → EndsReducing op (plain_run ops bound p words)

  access_reduces : (bound : ℕ) → RunsReduce bound → (element : ℕ) (request : Request) (next : Plain) (words : List ℕ)
      → LeadsReducing op from past (Wants element request next) → (o : Option ℕ)
      → EndsReducing op (after_plain_access (plain_run ops bound) element request next words o)
  access_reduces bound runs element request next words leads None = tt
  access_reduces bound runs element request next words leads (Some n) =
      let access : Access = record { element = element; action = action_of request n } in
      let here = leads n in
      more op (access ∷ []) (plain_run ops bound (plain_after_request request n next) (words_after access words))
      (here.0, tt) (runs (plain_after_request request n next) (words_after access words) here.1)

  step_reduces : (bound : ℕ) → RunsReduce bound → (slot : ℕ) (outcome : PlainStepOutcome) (words : List ℕ)
      → LeadsReducing op from past outcome → EndsReducing op (after_plain_step (plain_run ops bound) slot outcome words)
  step_reduces bound runs slot Halts words leads = tt
  step_reduces bound runs slot (Goes next) words leads = more op [] (plain_run ops bound next words) tt
      (runs next words leads)
  step_reduces bound runs slot (Wants element request next) words leads = access_reduces bound runs element request next
      words leads (slice_get words element)
  step_reduces bound runs slot (CallsLoop callback n ctx next) words leads = tt
  step_reduces bound runs slot (RefusesLoop call next) words leads = tt
  step_reduces bound runs slot (Ends ret) words leads = tt

  runs_reduce : (bound : ℕ) → RunsReduce bound
  runs_reduce zero p words at = tt
  runs_reduce (suc bound) p words at =
      let here = add_up p.slot at.low at.high in
      step_reduces bound (runs_reduce bound) p.slot (plain_step (op_of ops p.slot) p) words
      (op_leads op from past (op_of ops p.slot) p at.low here.keeps here.stays)

pub sums_reduce_alone : SumsReduceAlone
sums_reduce_alone op ops from past add_up bound p words low high =
    runs_reduce op ops from past add_up bound p words (record { low = low; high = high })
