use Rattle.std.proofs.Common.{◌≡◌, ℕ, List, Bool, false, get_or, sym, ◌∙◌, ap, inl, inr, arith}
use Rattle.std.proofs.lemmas.Bool.{cases_eq}
use Rattle.bpf_verify_model.{specs.{Written.{all_written}, Words.{marks_in_words}}, proofs.MarkLaws.{marked, unmarked}}
use Rattle.bpf_verify_model.specs.WordsBack.{length-marks_in_words, get_or-marks_in_words}
use Rattle.bpf_verify_model.proofs.WriteLaws.{all_written-yes, all_written-no}
use Rattle.bpf_verify_model.proofs.written.WrittenBytes.all_written.Goals as goal

pub loop-at-preserved : goal.loop-at-preserved
loop-at-preserved c k low high =
    let words : List ℕ = c.self.inside.words in
    elim (cases_eq k c.loop-at.at) [
      | inl same ↦
          rw same (marked words c.loop-at.at (rw c.mark.ensures at c.if-self-at-eq0.false))
      | inr other ↦ c.loop-at.invariant k low (omega arith)
    ]

pub returns-then-self-at-eq0 : goal.returns-then-self-at-eq0
returns-then-self-at-eq0 c =
    let words : List ℕ = c.self.inside.words in
    let at : ℕ = c.loop-at.at in
    let none : get_or (marks_in_words words) at false ≡ false =
    get_or-marks_in_words words at (omega (arith, c.requires))
    ∙ unmarked words at (rw c.mark.ensures at c.if-self-at-eq0.true) in
    sym (ap (λ (l : List Bool). all_written l c.args.position c.args.size) (sym c.self.view_is)
    ∙ all_written-no (marks_in_words words) c.args.position c.args.size at (omega (
      arith,
      c.requires,
      length-marks_in_words words,
    ))
    c.loop-at.auto.at c.loop-at-test.true none)

pub returns : goal.returns
returns c =
    let words : List ℕ = c.self.inside.words in
    sym (ap (λ (l : List Bool). all_written l c.args.position c.args.size) (sym c.self.view_is)
    ∙ all_written-yes (marks_in_words words) c.args.position c.args.size
    (λ k low high.
    get_or-marks_in_words words k (omega (arith, c.requires))
    ∙ c.loop-at.invariant k low (omega (arith, c.loop-at-test.false))))
