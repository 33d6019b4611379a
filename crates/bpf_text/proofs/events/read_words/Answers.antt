use Rattle.std.proofs.{Common.{sym, ap, ◌∙◌}, lemmas.Result.{err_from_is_err_and}}
use Rattle.bpf_text.specs.EventsText.{event_at, events_in}
use Rattle.bpf_text.proofs.events.read_words.Goals as goal
use Rattle.bpf_text_lex.proofs.RefusalLaws.{with_front, goes_on, ends}

pub returns-in_err-read_event : goal.returns-in_err-read_event
returns-in_err-read_event c =
    let p = err_from_is_err_and c.from_residual.result c.from_residual.ensures.1 in
    let before = c.loop-word.events.items in
    let word = c.in-Some.word.now in
    let others = events_in c.next.new.self in
    let so_far = ap (λ words. with_front before (events_in words)) (sym c.in-Some.ensures.some)
    ∙ c.loop-word.invariant in
    rw (p.1, p.2) (ends c.in_err-read_event.field-0.0 c.args.line before (event_at word) others _
    c.in_err-read_event.ensures so_far)

pub loop-word-preserved : goal.loop-word-preserved
loop-word-preserved c =
    let before = c.loop-word.events.items in
    let word = c.in-Some.word.now in
    let others = events_in c.next.new.self in
    let so_far = ap (λ words. with_front before (events_in words)) (sym c.in-Some.ensures.some)
    ∙ c.loop-word.invariant in
    rw c.in_ok-push.ensures.items (goes_on c.args.line before c.in_ok-read_event.field-0 (event_at word) others _
    c.in_ok-read_event.ensures so_far)
