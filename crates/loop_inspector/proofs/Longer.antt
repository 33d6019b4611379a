-- A run on words with others after them.
use Rattle.std.proofs.Common.{◌≡◌, ℕ, zero, suc, ◌<◌, List, [], ◌∷◌, ◌++◌, length, refl, ap}
use Rattle.std.{specs.Prelude.{slice_get, Option, Some, None}}
use Rattle.std.proofs.lemmas.List.{get_or_append_left, set-append_left}
use Rattle.std.proofs.lemmas.Option.{slice_get_within}
use Rattle.array_maps.specs.Accesses.{Access}
use Rattle.bpf_step_model.specs.{Step.{Request}, Run.{BoundedResult, Ended, Stuck, Unfinished, action_of, mapped}}
use Rattle.bpf_step_ir.specs.{declared.ir_op.IrOp.{IrOp}, Plain.{CallsLoop, RefusesLoop, Ends}}
use Rattle.bpf_step_ir.specs.Plain.{plain_step, plain_after_request, Plain, PlainStepOutcome, Halts, Goes, Wants}
use Rattle.bpf_step_ir.specs.PlainRun.{PlainRunSegment, op_of, with_op, after_plain_access, after_plain_step, plain_run}
use Rattle.loop_inspector.proofs.SpanLaws.{get-kept}

-- a run with other words after its own
abbrev pub longer : List ℕ → PlainRunSegment → PlainRunSegment
longer extra s = record { turn = s.turn; steps = s.steps; accesses = s.accesses; words = s.words ++ extra }

-- where a run ended, another did with words after its own
abbrev pub IsLonger : List ℕ → (run other : BoundedResult PlainRunSegment) → Type 0
IsLonger extra (Ended s) other = other ≡ Ended (longer extra s)
IsLonger extra Stuck other = Unit {0}
IsLonger extra Unfinished other = Unit {0}

longer_mapped : (extra : List ℕ) (accesses : List Access) (run other : BoundedResult PlainRunSegment)
    → IsLonger extra run other → IsLonger extra (mapped (with_op accesses) run) (mapped (with_op accesses) other)
longer_mapped extra accesses (Ended s) other is = ap (mapped (with_op accesses)) is
longer_mapped extra accesses _ other is = tt

module _ (ops : List IrOp) (extra : List ℕ) where
  module _ (bound : ℕ) (go_on : (p : Plain) (words : List ℕ) → IsLonger extra (plain_run ops bound p words)
      (plain_run ops bound p (words ++ extra))) where
    by_word : (element : ℕ) (request : Request) (next : Plain) (words : List ℕ) (o : Option ℕ)
        → slice_get words element ≡ o
        → IsLonger extra (after_plain_access (plain_run ops bound) element request next words o)
        (after_plain_access (plain_run ops bound) element request next (words ++ extra)
        (slice_get (words ++ extra) element))
    by_word element request next words None is = tt
    by_word element request next words (Some n) is =
        let within : element < length words = slice_get_within words element n is in
        rw (get-kept words extra n element is, get_or_append_left words extra 0 element within, set-append_left)
        (longer_mapped extra (record { element = element; action = action_of request n } ∷ []) _ _
        (go_on (plain_after_request request n next) _))

    by_step : (slot : ℕ) (step : PlainStepOutcome) (words : List ℕ)
        → IsLonger extra (after_plain_step (plain_run ops bound) slot step words)
        (after_plain_step (plain_run ops bound) slot step (words ++ extra))
    by_step slot Halts words = tt
    by_step slot (Goes next) words = longer_mapped extra [] _ _ (go_on next words)
    by_step slot (Wants element request next) words = by_word element request next words (slice_get words element) refl
    by_step slot (CallsLoop callback n ctx next) words = refl
    by_step slot (RefusesLoop call next) words = refl
    by_step slot (Ends ret) words = refl

  pub longer_run : (bound : ℕ) (p : Plain) (words : List ℕ)
      → IsLonger extra (plain_run ops bound p words) (plain_run ops bound p (words ++ extra))
  longer_run zero p words = tt
  longer_run (suc bound) p words = by_step bound (longer_run bound) p.slot (plain_step (op_of ops p.slot) p) words
