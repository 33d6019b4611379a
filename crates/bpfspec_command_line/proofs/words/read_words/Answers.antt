use Rattle.std.{proofs.Common.{inl, inr, refl, subst, List, Option, map}, specs.Prelude.{Ok, Err}}
use Rattle.clap.specs.{Words.{App, HasMatchesOf, Row, Text, fault_of}, declared.parser.matches.ArgMatches.{ArgMatches}}
use Rattle.bpfspec_command_line.specs.CommandLine.{AsksForJob, AsksForStats, bpfspec_app}
use Rattle.bpfspec_command_line.proofs.FaultLaws.{asked, fails_of, wrong}
use Rattle.bpfspec_command_line.proofs.words.read_words.Goals as goal

pub returns-in-Err-clause-help : goal.returns-in-Err-clause-help
returns-in-Err-clause-help g c = λ help.
    let words = map g.S.AsStr.text c.args.words.now in
    asked (fault_of bpfspec_app words) _
    (fails_of {T = ArgMatches} words (Err c.in-Err.error) c.in_ok-command.ensures.app_is refl c.in-Err.ensures.kinds)
    (c.in_ok-line_fault-in-Err.ensures.help help)

pub returns-in-Err-clause-usage : goal.returns-in-Err-clause-usage
returns-in-Err-clause-usage g c = λ usage.
    let words = map g.S.AsStr.text c.args.words.now in
    inl (wrong (fault_of bpfspec_app words) _
    (fails_of {T = ArgMatches} words (Err c.in-Err.error) c.in_ok-command.ensures.app_is refl c.in-Err.ensures.kinds)
    c.in_ok-line_fault-in-Err.ensures.memory (c.in_ok-line_fault-in-Err.ensures.usage usage))

pub returns-in-Some-clause-request : goal.returns-in-Some-clause-request
returns-in-Some-clause-request g c =
    let words = map g.S.AsStr.text c.args.words.now in
    let same = subst (λ (app : App). HasMatchesOf app words c.in-Ok.matches) c.in_ok-command.ensures.app_is
    c.in-Ok.ensures.ok.2 in
    record {
      taken = fails_of {T = ArgMatches} words (Ok c.in-Ok.matches) c.in_ok-command.ensures.app_is refl
          c.in-Ok.ensures.kinds;
      asked = subst (λ (named : Option (Text × List Row)). AsksForJob named c.in-Some.job) (same refl).1
          c.in-Some.ensures;
      stats = subst (λ (named : Option (Text × List Row)). AsksForStats named c.asks_for_stats-stats.result)
          (same refl).1 c.asks_for_stats-stats.ensures;
    }

pub returns-clause-usage : goal.returns-clause-usage
returns-clause-usage g c = λ usage.
    let words = map g.S.AsStr.text c.args.words.now in
    let same = subst (λ (app : App). HasMatchesOf app words c.in-Ok.matches) c.in_ok-command.ensures.app_is
    c.in-Ok.ensures.ok.2 in
    inr (
      fails_of {T = ArgMatches} words (Ok c.in-Ok.matches) c.in_ok-command.ensures.app_is refl c.in-Ok.ensures.kinds,
      λ job. subst (λ (named : Option (Text × List Row)). ¬ (AsksForJob named job)) (same refl).1
          (c.in-None.ensures job),
    )
