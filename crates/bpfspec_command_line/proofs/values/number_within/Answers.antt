use Rattle.std.proofs.Common.{rules, ◌≡◌, None}
use Rattle.clap.specs.Words.{found_of, rows_of}
use Rattle.bpfspec_command_line.proofs.CommandLaws.{finds_none, no_number, none_of}
use Rattle.bpfspec_command_line.proofs.values.number_within.Goals as goal

pub returns-in_err-number : goal.returns-in_err-number
returns-in_err-number c =
    let absent : c.number_of.result ≡ None = search rules in
    let none : c.from_residual.result ≡ None = search rules in
    finds_none _ c.from_residual.result none (no_number c.args.most c.args.name.now
    (rows_of (found_of c.args.matches.now)) (none_of _ c.number_of.result c.number_of.ensures absent))
