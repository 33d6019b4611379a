use Rattle.std.proofs.Common.{rules, ◌≡◌, None}
use Rattle.bpfspec_command_line.proofs.CommandLaws.{finds_none, none_of}
use Rattle.bpfspec_command_line.proofs.values.ask_of.Goals as goal

pub returns-in_err-number_of : goal.returns-in_err-number_of
returns-in_err-number_of c =
    let absent : c.number_of.result ≡ None = search rules in
    let none : c.from_residual.result ≡ None = search rules in
    finds_none _ c.from_residual.result none
    (λ ask asks. none_of _ c.number_of.result c.number_of.ensures absent ask.arg asks.argument)
