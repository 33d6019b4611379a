use Rattle.std.proofs.Common.{sym, ap, ◌∙◌, arith}
use Rattle.std.proofs.lemmas.{Bool.{eqb-true, eqb-false}, List.{nil_from_length, length-drop}}
use Rattle.bpf_text_lex.specs.{Lines.{is_blank}, Words.{words_of}}
use Rattle.bpf_text_lex.proofs.{LineLaws.{position_found}, WordLaws.{words_of-trim_start, word_found, word_missing}}
use Rattle.bpf_text_lex.proofs.words.next_word.Goals as goal

pub returns-then-is_empty-clause-none : goal.returns-then-is_empty-clause-none
returns-then-is_empty-clause-none c =
    sym (words_of-trim_start c.args.line.now) ∙ ap words_of (sym c.trim_start-line.ensures.trimmed ∙ nil_from_length
    c.trim_start-line.result.now (eqb-true _ _ (sym c.is_empty.ensures ∙ c.if-is_empty.true)))

pub returns-in-Some : goal.returns-in-Some
returns-in-Some c =
    let t = c.trim_start-line.result.now in
    let n = c.in-Some.end in
    let filled = eqb-false _ _ (sym c.is_empty.ensures ∙ c.if-is_empty.false) in
    let word = word_found c.args.line.now t n c.trim_start-line.ensures.trimmed (omega (arith, filled)) (position_found
    is_blank t n c.in-Some.ensures).0 in
    record {
      none = tt;
      some = rw (c.split_at.ensures.front, c.split_at.ensures.back) word.0;
      shorter = rw c.split_at.ensures.back (omega (
        arith,
        filled,
        word.1,
        length-drop n t,
        c.trim_start-line.ensures.len,
      ));
    }

pub returns-in-None-clause-some : goal.returns-in-None-clause-some
returns-in-None-clause-some c =
    let filled = eqb-false _ _ (sym c.is_empty.ensures ∙ c.if-is_empty.false) in
    word_missing c.args.line.now c.trim_start-line.result.now c.trim_start-line.ensures.trimmed (omega (arith, filled))
    c.in-None.ensures
