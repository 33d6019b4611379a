use Rattle.std.proofs.Common.{rules, ◌≡◌, None}
use Rattle.clap.specs.Words.{found_of, rows_of}
use Rattle.bpfspec_command_line.proofs.CommandLaws.{finds_none, no_blocks, no_workers, none_of}
use Rattle.bpfspec_command_line.proofs.values.plan_of.Goals as goal

pub returns-in_err-number_within : goal.returns-in_err-number_within
returns-in_err-number_within c =
    let absent : c.number_within.result ≡ None = search rules in
    let none : c.from_residual.result ≡ None = search rules in
    finds_none _ c.from_residual.result none (no_workers (rows_of (found_of c.args.matches.now))
    (none_of _ c.number_within.result c.number_within.ensures absent))

pub returns-in_err-number_within-2 : goal.returns-in_err-number_within-2
returns-in_err-number_within-2 c =
    let absent : c.number_within-2.result ≡ None = search rules in
    let none : c.from_residual-in_err-number_within-2.result ≡ None = search rules in
    finds_none _ c.from_residual-in_err-number_within-2.result none (no_blocks (rows_of (found_of c.args.matches.now))
    (none_of _ c.number_within-2.result c.number_within-2.ensures absent))
