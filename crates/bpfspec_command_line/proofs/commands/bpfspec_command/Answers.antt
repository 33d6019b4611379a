use Rattle.std.proofs.{Common.{rules, List, [], ◌∷◌, codes, subst, sym}, lemmas.Result.{IfOk-weaker}}
use Rattle.std.specs.List.{AllZip}
use Rattle.clap.specs.Words.{App, new_app}
use Rattle.bpfspec_command_line.specs.CommandLine.{IsCommand, facts_app, order_app, replay_app, run_app, top_app}
use Rattle.bpfspec_command_line.specs.CommandLine.{verify_app}
use Rattle.bpfspec_command_line.proofs.CommandLaws.{with_arg, with_subcommands}
use Rattle.bpfspec_command_line.proofs.commands.bpfspec_command.Goals as goal

pub returns : goal.returns
returns c =
    let apps : List App = verify_app ∷ order_app ∷ run_app ∷ replay_app ∷ facts_app ∷ new_app (codes "asm")
    ∷ new_app (codes "disasm") ∷ [] in
    let top : IsCommand top_app c.subcommand_required.result = search rules in
    IfOk-weaker c.subcommands.result _ _
    (λ command adds. with_subcommands apps c.in_ok-commands.commands.items top
    (subst (AllZip IsCommand apps) (sym c.in_ok-commands.ensures.items) (
      with_arg c.hex_flag.result c.new_command.ensures c.hex_flag.ensures c.in_ok-arg.ensures,
      (
        c.in_ok-order_command.ensures,
        (
          c.in_ok-run_command.ensures,
          (
            c.in_ok-replay_command.ensures,
            (c.in_ok-facts_command.ensures, (c.new_command-2.ensures, (c.new_command-3.ensures, tt))),
          ),
        ),
      ),
    )) adds)
    c.subcommands.ensures
