use Rattle.std.proofs.{Common.{◌≡◌, ◌++◌, sym, ap, ◌∙◌}, lemmas.Result.{err_from_is_err_and}}
use Rattle.bpf_text_lex.{specs.{Words.{words_of}, Refusals.{at_line}}, proofs.RefusalLaws.{bind_fails}}
use Rattle.bpf_text.specs.EventsText.{events_of, events_behind}
use Rattle.bpf_text.proofs.events.read_lines.Goals as goal

pub returns-in_err-more : goal.returns-in_err-more
unfolding events_behind
returns-in_err-more c =
    let p = err_from_is_err_and c.from_residual.result c.from_residual.ensures.1 in
    let before = c.loop-line.events.items in
    let line = c.in-Some.line in
    let all = sym c.loop-line.invariant ∙ ap (events_behind before) c.in-Some.ensures.some in
    rw (p.1, p.2, all) (bind_fails c.in_err-more.field-0.0 (at_line line.number (events_of (words_of line.content.now)))
    (λ events. events_behind (before ++ events) c.next.new.self) c.in_err-more.ensures)

pub loop-line-preserved : goal.loop-line-preserved
unfolding events_behind
loop-line-preserved c =
    let before = c.loop-line.events.items in
    let longer : c.extend_from_slice.new.self.items ≡ before ++ c.in_ok-more.more.items =
    c.in_ok-extend_from_slice.ensures.items ∙ ap (λ m. before ++ m) c.deref.ensures.value in
    let so_far = ap (events_behind before) (sym c.in-Some.ensures.some) ∙ c.loop-line.invariant in
    rw longer (rw c.in_ok-more.ensures at so_far)

pub returns : goal.returns
unfolding events_behind
returns c = sym c.loop-line.invariant ∙ ap (events_behind c.loop-line.events.items) c.in_default.ensures.none
