use Rattle.std.{proofs.Common.{ℕ, List, Result}, specs.declared.num.ParseIntError.{ParseIntError}}
use Rattle.std.specs.Str.Parse.{ParsesUnsigned, ExplainsUnsignedError, HasUnsignedDigitsIfOk}
use Rattle.clap.specs.Words.{found_of}
use Rattle.bpfspec_command_line.proofs.CommandLaws.{number_read}
use Rattle.bpfspec_command_line.proofs.values.number_of.Goals as goal

pub returns : goal.returns
returns c =
    number_read (λ (bytes : List ℕ) (r : Result ℕ ParseIntError). ParsesUnsigned 64 10 bytes r
    × ExplainsUnsignedError 10 bytes r × HasUnsignedDigitsIfOk bytes r)
    c.args.name.now (λ bytes r parsed. parsed.0) (found_of c.args.matches.now) c.get_one.result
    c.get_one.ensures.none c.get_one.ensures.value
