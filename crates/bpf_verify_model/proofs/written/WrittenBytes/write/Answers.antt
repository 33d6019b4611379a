use Rattle.std.proofs.Common.{◌≡◌, ℕ, suc, ◌+◌, ◌-◌, ◌/◌, ◌<◌, List, Bool, true, get_or, set, sym, ◌∙◌, ap, arith}
use Rattle.std.specs.Prelude.{bit_or}
use Rattle.bpf_verify_model.specs.{Written.{written_from}, Words.{marks_in_words}, WordsBack.{length-marks_in_words}}
use Rattle.bpf_verify_model.proofs.MarkLaws.{with_mark, marks_in_words-with_mark, AreMarkWords-with_mark}
use Rattle.bpf_verify_model.proofs.WriteLaws.{written_from-none, written_from-more}
use Rattle.bpf_verify_model.proofs.written.WrittenBytes.write.Goals as goal

pub loop-at-init : goal.loop-at-init
loop-at-init c = (
  c.self.invariant,
  sym (written_from-none _ c.args.position (c.args.position - c.args.position)
      (omega arith)),
)

pub loop-at-preserved : goal.loop-at-preserved
unfolding with_mark
loop-at-preserved c =
    let words : List ℕ = c.loop-at.self-inside.words in
    let start : List Bool = marks_in_words c.self.inside.words in
    let at : ℕ = c.loop-at.at in
    let within : at < 512 = omega (arith, c.requires) in
    let marked : set words (at / 64) (bit_or (get_or words (at / 64) 0) c.mark.result) ≡ with_mark words at =
    ap (λ (mark : ℕ). set words (at / 64) (bit_or (get_or words (at / 64) 0) mark)) c.mark.ensures in
    let end : at ≡ c.args.position + (at - c.args.position) = omega arith in
    let more : at + 1 - c.args.position ≡ suc (at - c.args.position) = omega arith in
    rw marked (
      AreMarkWords-with_mark words at c.loop-at.invariant.0 within,
      marks_in_words-with_mark words at c.loop-at.invariant.0.count within
          ∙ ap (λ (l : List Bool). set l at true) c.loop-at.invariant.1
          ∙ written_from-more start c.args.position (at - c.args.position) at (at + 1 - c.args.position) end more
          (omega (arith, length-marks_in_words c.self.inside.words)),
    )

pub invariant_of-self : goal.invariant_of-self
invariant_of-self c = c.loop-at.invariant.0

pub returns : goal.returns
returns c =
    let all : c.loop-at.at - c.args.position ≡ c.args.size = omega (arith, c.loop-at.auto.at-end) in
    c.loop-at.invariant.1
    ∙ ap (written_from (marks_in_words c.self.inside.words) c.args.position) all
    ∙ ap (λ (l : List Bool). written_from l c.args.position c.args.size) c.self.view_is
