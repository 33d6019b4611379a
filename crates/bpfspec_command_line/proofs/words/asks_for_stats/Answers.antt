use Rattle.std.proofs.Common.{refl, codes}
use Rattle.clap.specs.{Words.{subcommand_rows_of}, declared.parser.matches.ArgMatches.TheViews.{out-ArgMatches}}
use Rattle.bpfspec_command_line.proofs.CommandLaws.{no_stats, stats_of_run, subcommand_named}
use Rattle.bpfspec_command_line.proofs.words.asks_for_stats.Goals as goal

pub returns-in-Some : goal.returns-in-Some
returns-in-Some c =
    stats_of_run (subcommand_rows_of c.args.matches.now) _ c.has_flag.result
    (subcommand_named _ (codes "run") _ (c.in-Some.ensures.found.0 refl) c.in-Some.ensures.rows) c.has_flag.ensures

pub returns-in-None : goal.returns-in-None
returns-in-None c =
    no_stats (out-ArgMatches c.args.matches.now).subcommand (λ named. absurd cc (c.in-None.ensures.found.1 named))
