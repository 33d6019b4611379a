-- Why the words of a command line are no command.
use Rattle.std.specs.Prelude.{◌≡◌, ◌⊎◌, Bool, true, false, List, []}
use Rattle.clap.specs.{Words.{App, IsAmong, Text, fault_of, subcommand_of}, declared.error.kind.ErrorKind.{ErrorKind}}
use Rattle.clap.specs.declared.error.kind.ErrorKind.TheVariants.{DisplayHelp, DisplayVersion}
use Rattle.bpfspec_command_line.specs.CommandLine.{AsksForJob, bpfspec_app}
use Rattle.bpfspec_command_line.specs.declared.job.{Job.{Job}, LineFault.{LineFault}}
use Rattle.bpfspec_command_line.specs.declared.job.LineFault.TheVariants.{Help, Usage, Memory}

-- a text that words ask for, and no fault of theirs
abbrev pub is_help : LineFault → Bool
is_help (Help text) = true
is_help (Usage text) = false
is_help Memory = false

-- what is wrong with words
abbrev pub is_usage : LineFault → Bool
is_usage (Help text) = false
is_usage (Usage text) = true
is_usage Memory = false

-- clap shows help, or the version
abbrev pub Shows : ErrorKind → Type 0
Shows kind = (kind ≡ DisplayHelp) ⊎ (kind ≡ DisplayVersion)

-- the words ask for the help or the version of a command line
abbrev pub AsksForHelp : App → List Text → Type 0
AsksForHelp app words = IsAmong DisplayHelp (fault_of app words) ⊎ IsAmong DisplayVersion (fault_of app words)

-- words are no command of the program: clap finds them wrong; or it takes them, and they ask for no job
abbrev pub AreNoCommand : List Text → Type 0
AreNoCommand words = ((kind : ErrorKind) × IsAmong kind (fault_of bpfspec_app words) × ¬ (Shows kind))
    ⊎ ((fault_of bpfspec_app words ≡ []) × ((job : Job) → ¬ (AsksForJob (subcommand_of bpfspec_app words) job)))
