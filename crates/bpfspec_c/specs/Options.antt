-- What C asks of facts.
use Rattle.std.specs.Prelude.{if◌then◌else◌}
use Rattle.bpfspec_command_line.specs.declared.job.{Ask.{Ask}, UnitForm.TheVariants.{Assembler, Hex}}
use Rattle.loop_core_model.specs.declared.loop_test.Test.TheVariants.{Lrpd, Flow}
use Rattle.bpfspec_c.specs.declared.options.Options.{Options}

-- what the words of the command line ask for: --hex, --arg, --test, --states, --all and --grid
abbrev pub ask_of : Options → Ask
ask_of options = record {
  form = if options.hex then Hex else Assembler;
  arg = options.argument;
  test = if options.lrpd then Lrpd else Flow;
  states = options.states;
  all = options.all;
  grid = options.grid;
}
