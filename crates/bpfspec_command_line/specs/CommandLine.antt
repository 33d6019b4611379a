-- The program's command line, in clap's words, and what the words of one ask for.
use Rattle.std.specs.Prelude.{◌≡◌, ◌≢◌, ℕ, ◌^◌, ◌<◌, ◌≤◌, List, [], ◌∷◌, Option, Some, None, MatchOption, codes, Bool}
use Rattle.std.specs.{Prelude.{true, false}, List.{fold}, Str.Parse.{IsNumeral, digits_value, without_leading_plus}}
use Rattle.clap.specs.Words.{App, Row, Rule, Text, app_of, fault_of, first_of, new_app, new_rule, one_of, rule_of}
use Rattle.clap.specs.{Words.{subcommand_of, with_rule, with_subcommand}, declared.builder.arg.Arg.{Arg}}
use Rattle.clap.specs.declared.builder.command.Command.{Command, TheViews.{out-Command}}
use Rattle.clap.specs.declared.builder.ArgAction.TheVariants.{Set, SetTrue}
use Rattle.loop_core_model.specs.declared.loop_test.Test.{Test, TheVariants.{Lrpd, Flow}}
use Rattle.loop_core_split.specs.declared.plan.{Plan.{Plan}, Policy.{Policy, TheVariants.{Pays, Blocks}}}
use Rattle.loop_core_split.specs.Plans.{IsPlan}
use Rattle.bpfspec_command_line.specs.declared.job.{Ask.{Ask}, Job.{Job, TheVariants.{Serve, Run, Facts}}}
use Rattle.bpfspec_command_line.specs.declared.job.Mode.TheVariants.{Verify, Order, Replay, Asm, Disasm}
use Rattle.bpfspec_command_line.specs.declared.job.{Request.{Request}, UnitForm.{UnitForm}}
use Rattle.bpfspec_command_line.specs.declared.job.UnitForm.TheVariants.{Assembler, Hex}

-- a flag of this name
abbrev pub flag_rule : Text → Rule
flag_rule name = record (new_rule name) { long = Some name; action = Some SetTrue }

-- --hex
abbrev pub hex_rule : Rule
hex_rule = flag_rule (codes "hex")

-- an option of this name with a value, which is this where it isn't given
abbrev pub valued_rule : (name default : Text) → Rule
valued_rule name default = record (new_rule name) {
  long = Some name;
  action = Some Set;
  value_names = 1;
  defaults = default ∷ [];
}

-- --arg N and --test flow|lrpd
abbrev pub arg_rule : Rule
arg_rule = valued_rule (codes "arg") (codes "0")

abbrev pub test_rule : Rule
test_rule = valued_rule (codes "test") (codes "flow")

-- a command with this description, whose arguments are its own
pub record IsCommand (app : App) (command : Command) : Type 0 where
  pub app_is : app_of command ≡ app
  pub own : (out-Command command).has_globals ≡ false

-- an argument by this rule, which is its command's own
pub record IsArg (rule : Rule) (arg : Arg) : Type 0 where
  pub rule_is : rule_of arg ≡ rule
  pub own : arg.global ≡ false

-- verify [--hex], order [--hex] [--arg N], run [--hex] [--arg N] [--workers N] [--blocks N] [--test flow|lrpd]
-- [--way pays|blocks] [--stats], replay [--hex] [--arg N] [--test flow|lrpd], and facts [--hex] [--arg N]
-- [--test flow|lrpd] [--states] [--all] [--grid]
abbrev pub verify_app : App
verify_app = with_rule (new_app (codes "verify")) hex_rule

abbrev pub order_app : App
order_app = fold with_rule (new_app (codes "order")) (hex_rule ∷ arg_rule ∷ [])

abbrev pub run_app : App
run_app = fold with_rule (new_app (codes "run"))
    (hex_rule ∷ arg_rule ∷ valued_rule (codes "workers") (codes "2") ∷ valued_rule (codes "blocks") (codes "4")
    ∷ test_rule ∷ valued_rule (codes "way") (codes "pays") ∷ flag_rule (codes "stats") ∷ [])

abbrev pub replay_app : App
replay_app = fold with_rule (new_app (codes "replay")) (hex_rule ∷ arg_rule ∷ test_rule ∷ [])

abbrev pub facts_app : App
facts_app = fold with_rule (new_app (codes "facts"))
    (hex_rule ∷ arg_rule ∷ test_rule ∷ flag_rule (codes "states") ∷ flag_rule (codes "all") ∷ flag_rule (codes "grid")
    ∷ [])

-- the program without its subcommands, of which one is wanted; it has a version
abbrev pub top_app : App
top_app = record {
  top = record (new_app (codes "bpfspec")).top { has_version = true; subcommand_required = true };
  subs = [];
}

-- the program's command line
abbrev pub bpfspec_app : App
bpfspec_app = fold (λ (app sub : App). with_subcommand app sub.top) top_app
    (verify_app ∷ order_app ∷ run_app ∷ replay_app ∷ facts_app ∷ new_app (codes "asm") ∷ new_app (codes "disasm") ∷ [])

-- a value of which this holds, or None, and it holds of none
abbrev pub Finds : {A : Type 0} → (A → Type 0) → Option A → Type 0
Finds {A} Holds result = MatchOption result ((value : A) → ¬ (Holds value)) Holds

-- whether the arguments have the flag of this name
pub record HasFlag (name : Text) (rows : List Row) (given : Bool) : Type 0 where
  pub none : one_of name rows ≡ None → given ≡ false
  pub unset : one_of name rows ≡ Some (codes "false") → given ≡ false
  pub set : one_of name rows ≡ Some (codes "true") → given ≡ true

abbrev pub is_hex : UnitForm → Bool
is_hex Assembler = false
is_hex Hex = true

-- whether the arguments say hex: by the flag --hex
abbrev pub IsForm : List Row → UnitForm → Type 0
IsForm rows form = HasFlag (codes "hex") rows (is_hex form)

-- the number that an option of this name gives, below 2^64
pub record IsNumber (name : Text) (rows : List Row) (number : ℕ) : Type 0 where
  pub text : Text
  pub given : one_of name rows ≡ Some text
  pub numeral : IsNumeral 10 (without_leading_plus text)
  pub below : digits_value 10 (without_leading_plus text) < 2 ^ 64
  pub number_is : number ≡ digits_value 10 (without_leading_plus text)

-- a number that an option gives, from 1 to `most`
pub record IsNumberWithin (most : ℕ) (name : Text) (rows : List Row) (number : ℕ) : Type 0 where
  pub given : IsNumber name rows number
  pub positive : 0 < number
  pub within : number ≤ most

-- the word for a test
abbrev pub test_word : Test → Text
test_word Flow = codes "flow"
test_word Lrpd = codes "lrpd"

-- the test that --test names
abbrev pub IsTest : List Row → Test → Type 0
IsTest rows test = first_of (codes "test") rows ≡ Some (test_word test)

-- the word for a policy
abbrev pub policy_word : Policy → Text
policy_word Pays = codes "pays"
policy_word Blocks = codes "blocks"

-- the policy that --way names
abbrev pub IsPolicy : List Row → Policy → Type 0
IsPolicy rows policy = first_of (codes "way") rows ≡ Some (policy_word policy)

-- the plan of --workers, --blocks, --test and --way, within its limits
pub record IsPlanOf (rows : List Row) (plan : Plan) : Type 0 where
  pub workers : IsNumber (codes "workers") rows plan.workers
  pub blocks : IsNumber (codes "blocks") rows plan.blocks
  pub test : IsTest rows plan.test
  pub policy : IsPolicy rows plan.policy
  pub within : IsPlan plan

-- what arguments ask of facts: by --hex, --arg, --test, --states, --all and --grid
pub record IsAskOf (rows : List Row) (ask : Ask) : Type 0 where
  pub form : IsForm rows ask.form
  pub argument : IsNumber (codes "arg") rows ask.arg
  pub test : IsTest rows ask.test
  pub states : HasFlag (codes "states") rows ask.states
  pub all : HasFlag (codes "all") rows ask.all
  pub grid : HasFlag (codes "grid") rows ask.grid

-- the job that a subcommand of this name and its arguments ask for
abbrev pub Names : Text → List Row → Job → Type 0
Names name rows (Serve (Verify form)) = (name ≡ codes "verify") × IsForm rows form
Names name rows (Serve (Order form arg)) = (name ≡ codes "order") × IsForm rows form × IsNumber (codes "arg") rows arg
Names name rows (Serve (Replay form arg test)) = (name ≡ codes "replay") × IsForm rows form
    × IsNumber (codes "arg") rows arg × IsTest rows test
Names name rows (Serve Asm) = name ≡ codes "asm"
Names name rows (Serve Disasm) = name ≡ codes "disasm"
Names name rows (Run form arg plan) = (name ≡ codes "run") × IsForm rows form × IsNumber (codes "arg") rows arg
    × IsPlanOf rows plan
Names name rows (Facts ask) = (name ≡ codes "facts") × IsAskOf rows ask

-- the same of the subcommand that words name, if they name one
abbrev pub AsksForJob : Option (Text × List Row) → Job → Type 0
AsksForJob None job = ⊥
AsksForJob (Some named) job = Names named.0 named.1 job

-- whether stats are asked for: the subcommand run asks for them by its flag --stats, and no other does
abbrev pub AsksForStats : Option (Text × List Row) → Bool → Type 0
AsksForStats None stats = stats ≡ false
AsksForStats (Some named) stats = (named.0 ≡ codes "run" → HasFlag (codes "stats") named.1 stats)
    × (named.0 ≢ codes "run" → stats ≡ false)

-- what the words of a command line ask for: clap takes them
pub record WordsAskFor (words : List Text) (request : Request) : Type 0 where
  pub taken : fault_of bpfspec_app words ≡ []
  pub asked : AsksForJob (subcommand_of bpfspec_app words) request.job
  pub stats : AsksForStats (subcommand_of bpfspec_app words) request.stats
