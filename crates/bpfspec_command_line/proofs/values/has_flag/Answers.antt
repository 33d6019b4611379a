use Rattle.std.proofs.Common.{◌∙◌}
use Rattle.clap.{specs.Words.{found_of}, proofs.WalkLemmas.{one_text-rows}}
use Rattle.bpfspec_command_line.proofs.values.has_flag.Goals as goal

pub returns : goal.returns
returns c =
    let rows = one_text-rows (found_of c.args.matches.now) c.args.name.now in
    let flag = c.get_flag.ensures in
    record { none = λ e. flag.none (rows ∙ e); unset = λ e. flag.other (rows ∙ e); set = λ e. flag.value (rows ∙ e) }
