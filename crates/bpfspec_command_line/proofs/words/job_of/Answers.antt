use Rattle.std.proofs.Common.{rules, ◌≡◌, None}
use Rattle.clap.specs.Words.{found_of, rows_of}
use Rattle.bpfspec_command_line.proofs.CommandLaws.{finds_none, no_order, no_replay, no_run, none_of}
use Rattle.bpfspec_command_line.proofs.words.job_of.Goals as goal

pub returns-in_err-number_of-in-order : goal.returns-in_err-number_of-in-order
returns-in_err-number_of-in-order c =
    let absent : c.number_of.result ≡ None = search rules in
    let none : c.from_residual-in_err-number_of-in-order.result ≡ None = search rules in
    finds_none _ c.from_residual-in_err-number_of-in-order.result none
    (no_order _ c.in_ok-name.name.now (rows_of (found_of c.in_ok-name.values.now)) c.in_ok-name.ensures.name
    c.in_ok-name.ensures.rows c.in-order.is (none_of _ c.number_of.result c.number_of.ensures absent))

pub returns-in_err-number_of-in-run : goal.returns-in_err-number_of-in-run
returns-in_err-number_of-in-run c =
    let read = c.number_of-in-run in
    let absent : read.result ≡ None = search rules in
    let none : c.from_residual-in_err-number_of-in-run.result ≡ None = search rules in
    finds_none _ c.from_residual-in_err-number_of-in-run.result none
    (no_run _ c.in_ok-name.name.now (rows_of (found_of c.in_ok-name.values.now)) c.in_ok-name.ensures.name
    c.in_ok-name.ensures.rows c.in-run.is (λ n plan given. absurd (none_of _ read.result read.ensures absent n given)))

pub returns-in_err-number_of-in-replay : goal.returns-in_err-number_of-in-replay
returns-in_err-number_of-in-replay c =
    let read = c.number_of-in-replay in
    let absent : read.result ≡ None = search rules in
    let none : c.from_residual-in_err-number_of-in-replay.result ≡ None = search rules in
    finds_none _ c.from_residual-in_err-number_of-in-replay.result none
    (no_replay _ c.in_ok-name.name.now (rows_of (found_of c.in_ok-name.values.now)) c.in_ok-name.ensures.name
    c.in_ok-name.ensures.rows c.in-replay.is
    (λ n test given. absurd (none_of _ read.result read.ensures absent n given)))
