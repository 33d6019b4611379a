use Rattle.std.{proofs.Common.{◌≡◌, refl, sym, ◌∙◌, ap, arith, List, Bool, get_or}, specs.Prelude.{bit_and}}
use Rattle.bpf_verify_model.specs.{Written.{joined_written}, Words.{marks_in_words}}
use Rattle.bpf_verify_model.proofs.MeetLaws.{met_to, met_to-none, met_to-step}
use Rattle.bpf_verify_model.proofs.WordMeetLaws.{AreMarkWords-met, marks_in_words-met}
use Rattle.bpf_verify_model.proofs.written.WrittenBytes.join.Goals as goal

pub loop-row-init : goal.loop-row-init
loop-row-init c = sym (met_to-none bit_and c.self.inside.words c.others.inside.words)

pub loop-row-preserved : goal.loop-row-preserved
loop-row-preserved c =
    met_to-step bit_and c.self.inside.words c.loop-row.self-inside.words c.others.inside.words c.others.inside.words
    c.loop-row.row 0 0
    (bit_and (get_or c.loop-row.self-inside.words c.loop-row.row 0) (get_or c.others.inside.words c.loop-row.row 0))
    c.loop-row.invariant refl (omega (arith, c.self.invariant.count)) (omega (arith, c.others.invariant.count)) refl

pub invariant_of-self : goal.invariant_of-self
invariant_of-self c =
    let end : c.loop-row.row ≡ 8 = omega arith in
    let met : c.loop-row.self-inside.words ≡ met_to bit_and c.self.inside.words c.others.inside.words 8 =
    c.loop-row.invariant ∙ ap (met_to bit_and c.self.inside.words c.others.inside.words) end in
    rw met (AreMarkWords-met c.self.inside.words c.others.inside.words c.self.invariant c.others.invariant)

pub returns : goal.returns
returns c =
    let end : c.loop-row.row ≡ 8 = omega arith in
    ap marks_in_words (c.loop-row.invariant ∙ ap (met_to bit_and c.self.inside.words c.others.inside.words) end)
    ∙ marks_in_words-met c.self.inside.words c.others.inside.words c.self.invariant.count c.others.invariant.count
    ∙ ap (λ (l : List Bool). joined_written l (marks_in_words c.others.inside.words)) c.self.view_is
    ∙ ap (joined_written c.args.self.now) c.others.view_is
