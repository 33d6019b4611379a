-- Stretches of a loop's iterations, each run as a block.
use Rattle.std.proofs.Common.{◌≡◌, ℕ, false, List, Option, Some, None, refl, sym, ap, subst, ◌∙◌}
use Rattle.std.specs.Prelude.{is_some}
use Rattle.bpf_insn_types.specs.Program.{Program}
use Rattle.bpf_step_model.specs.State.{LoopCall}
use Rattle.loop_core_model.specs.{declared.loop_test.Test.{Test}, Block.{block_run, break_from}, Conflict.{at_element}}
use Rattle.loop_core_model.specs.{LeastBreak.{accesses_of_each}, Marks.{numbered}}
use Rattle.shadow_marks.specs.{declared.planes.Planes.{Planes}, Standing.{StandFor}}
use Rattle.private_copy.specs.Visits.{visits_of}
use Rattle.loop_core_block.specs.{Blocks.{BlockOf}, Ran.{RecordsRun}}
use Rattle.loop_core_witness.specs.{declared.survey.Stretch.{Stretch}, Surveys.{IsStretch}}

none_there : (o : Option ℕ) → is_some o ≡ false → o ≡ None
none_there None h = refl
none_there (Some index) h = absurd cc

-- a block that didn't break is a stretch
pub is_stretch : (test : Test) (program : Program) (call : LoopCall) (words : List ℕ) (b : BlockOf) (stretch : Stretch)
    → RecordsRun test program call words b → is_some b.broke ≡ false → stretch.first ≡ b.first → stretch.past ≡ b.past
    → stretch.planes ≡ b.planes → IsStretch program call words stretch
is_stretch test program call words b stretch records whole first past planes = record {
  ran = records.ran;
  ended = ap (λ (f : ℕ). block_run program 4096 call words f stretch.past) first
      ∙ ap (block_run program 4096 call words b.first) past ∙ records.ended;
  unbroken = ap (λ (f : ℕ). break_from f records.ran) first ∙ sym records.broke ∙ none_there b.broke whole;
  elements = ap (λ (p : Planes). p.elements) planes ∙ records.elements;
  planes = subst (λ (f : ℕ). StandFor stretch.planes (λ e. numbered f (at_element e (accesses_of_each records.ran))))
      (sym first)
      (subst (λ (p : Planes). StandFor p (visits_of b.first (accesses_of_each records.ran))) (sym planes)
      records.planes);
}
