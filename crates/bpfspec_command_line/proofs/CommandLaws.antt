-- What clap's builders make of a command, its getters read of an argument, and the subcommands ask for.
use Rattle.std.proofs.Common.{◌≡◌, ◌≢◌, ℕ, Bool, ◌||◌, T, ◌==◌, false, Option, Some, refl, sym, subst, None, Result}
use Rattle.std.{proofs.Common.{Ok, Err, List, [], ◌∷◌, length, codes, ap, ap₂, ◌∙◌}, specs.Prelude.{Box, option_map}}
use Rattle.std.specs.{Box.{box_value}, List.{AllZip, fold}, Borrow.{Bor}, Str.Parse.{ParsesUnsigned}}
use Rattle.clap.specs.Words.{AddsArg, AddsInTurn, AddsSubcommand, App, ReadsOne, Row, Rule, Text, first_of, one_of}
use Rattle.clap.specs.Words.{first_value, one_text, rows_of, subcommand_rows, with_rule, with_subcommand}
use Rattle.clap.specs.declared.{builder.{arg.Arg.{Arg}, command.Command.{Command}}, parser.matches.Found.{Found}}
use Rattle.clap.specs.declared.parser.matches.{ArgMatches.TheViews.{out-SubCommand}, SubCommand.{SubCommand}}
use Rattle.clap.proofs.WalkLemmas.{first_value-rows, one_text-rows}
use Rattle.loop_core_model.specs.declared.loop_test.Test.{Test, TheVariants.{Flow, Lrpd}}
use Rattle.loop_core_split.specs.declared.plan.{Plan.{Plan}, Policy.{Policy, TheVariants.{Pays, Blocks}}}
use Rattle.bpfspec_command_line.specs.CommandLine.{AsksForJob, AsksForStats, Finds, HasFlag, IsArg, IsAskOf, IsCommand}
use Rattle.bpfspec_command_line.specs.CommandLine.{IsNumber, IsNumberWithin, IsPlanOf, IsPolicy, IsTest, Names}
use Rattle.bpfspec_command_line.specs.declared.job.{Ask.{Ask}, Job.{Job, TheVariants.{Serve, Run, Facts}}}
use Rattle.bpfspec_command_line.specs.declared.job.Mode.TheVariants.{Verify, Order, Replay, Asm, Disasm}

-- the number that an option gives, or that it gives none
number_given : {E : Type 0} (gives : List ℕ → Result ℕ E → Type 0) (name : Text)
    → ((bytes : List ℕ) (r : Result ℕ E) → gives bytes r → ParsesUnsigned 64 10 bytes r) → (rows : List Row) (n : ℕ)
    → (given : Option Text) → given ≡ one_of name rows → (given ≡ None → Some n ≡ None)
    → ((text : Text) → given ≡ Some text → ReadsOne gives text (Some n)) → IsNumber name rows n
number_given gives name parses rows n None is none some =
    let other = none refl in
    absurd cc
number_given gives name parses rows n (Some text) is none some =
    let read = parses text (Ok n) (some text refl) in
    record { text = text; given = sym is; numeral = read.0.0; below = read.0.1; number_is = read.1 }

pub number_read : {E : Type 0} (gives : List ℕ → Result ℕ E → Type 0) (name : Text)
    → ((bytes : List ℕ) (r : Result ℕ E) → gives bytes r → ParsesUnsigned 64 10 bytes r)
    → (found : Found) (read : Option ℕ) → (one_text found name ≡ None → read ≡ None)
    → ((text : Text) → one_text found name ≡ Some text → ReadsOne gives text read)
    → Finds (IsNumber name (rows_of found)) read
number_read gives name parses found None none some = λ n is.
    let read = some is.text (one_text-rows found name ∙ is.given) in
    parses is.text (Err read.0) read.1 (is.numeral, is.below)
number_read gives name parses found (Some n) none some =
    number_given gives name parses (rows_of found) n (one_text found name) (one_text-rows found name) none some

-- the subcommand that was used, by its name and its rows
pub subcommand_named : {Z : Type 0} (used : Option (Box SubCommand Z)) (name : Text) (rows : List Row)
    → option_map (λ b. (out-SubCommand (box_value b)).name.now) used ≡ Some name
    → option_map (λ p. p.1) (subcommand_rows used) ≡ Some rows → subcommand_rows used ≡ Some (name, rows)
subcommand_named None name rows named given = absurd cc
subcommand_named (Some b) name rows named given = cc

-- what holds of none, where there is none
pub none_of : {A : Type 0} (Holds : A → Type 0) (value : Option A) → Finds Holds value → value ≡ None → (a : A)
    → ¬ (Holds a)
none_of Holds None finds is = finds
none_of Holds (Some x) finds is = absurd cc

pub finds_none : {A : Type 0} (Holds : A → Type 0) (result : Option A) → result ≡ None → ((a : A) → ¬ (Holds a))
    → Finds Holds result
finds_none Holds None is none = none
finds_none Holds (Some x) is none = absurd cc

-- an option that isn't there names no test
pub no_test : (rows : List Row) (result : Option Test) → first_of (codes "test") rows ≡ None → result ≡ None
    → Finds (IsTest rows) result
no_test rows result absent is = finds_none (IsTest rows) result is (λ test named. absurd cc)

-- the word that an option gives
pub first_given : (found : Found) (name : Text) (given : Option (Bor Text))
    → option_map (λ s. s.now) given ≡ first_value found name
    → first_of name (rows_of found) ≡ option_map (λ s. s.now) given
first_given found name given is = sym (first_value-rows found name) ∙ sym is

-- a word that is neither names none
same_word : (given : Option Text) (a b : Text) → given ≡ Some a → given ≡ Some b → a ≡ b
same_word given a b is_a is_b = cc

pub other_test : (rows : List Row) (word : Text) → first_of (codes "test") rows ≡ Some word → word ≢ codes "flow"
    → word ≢ codes "lrpd" → (test : Test) → ¬ (IsTest rows test)
other_test rows word is flow lrpd Flow named =
    flow (same_word (first_of (codes "test") rows) word (codes "flow") is named)
other_test rows word is flow lrpd Lrpd named =
    lrpd (same_word (first_of (codes "test") rows) word (codes "lrpd") is named)

-- an option that isn't there names no policy, and a word that is neither names none
pub no_policy : (rows : List Row) (result : Option Policy) → first_of (codes "way") rows ≡ None → result ≡ None
    → Finds (IsPolicy rows) result
no_policy rows result absent is = finds_none (IsPolicy rows) result is (λ policy named. absurd cc)

pub other_policy : (rows : List Row) (word : Text) → first_of (codes "way") rows ≡ Some word → word ≢ codes "pays"
    → word ≢ codes "blocks" → (policy : Policy) → ¬ (IsPolicy rows policy)
other_policy rows word is pays blocks Pays named =
    pays (same_word (first_of (codes "way") rows) word (codes "pays") is named)
other_policy rows word is pays blocks Blocks named =
    blocks (same_word (first_of (codes "way") rows) word (codes "blocks") is named)

pub ruleset word_laws = (first_given, no_test, other_test, no_policy, other_policy)

-- no number where an option gives none, and no plan where one of its numbers is missing
pub no_number : (most : ℕ) (name : Text) (rows : List Row) → ((n : ℕ) → ¬ (IsNumber name rows n)) → (n : ℕ)
    → ¬ (IsNumberWithin most name rows n)
no_number most name rows none n within = none n within.given

pub no_workers : (rows : List Row) → ((n : ℕ) → ¬ (IsNumberWithin 16 (codes "workers") rows n)) → (plan : Plan)
    → ¬ (IsPlanOf rows plan)
no_workers rows none plan is = none plan.workers (record {
  given = is.workers;
  positive = is.within.some_worker;
  within = is.within.few_workers;
})

pub no_blocks : (rows : List Row) → ((n : ℕ) → ¬ (IsNumberWithin 64 (codes "blocks") rows n)) → (plan : Plan)
    → ¬ (IsPlanOf rows plan)
no_blocks rows none plan is = none plan.blocks (record {
  given = is.blocks;
  positive = is.within.some_block;
  within = is.within.few_blocks;
})

-- the first letter of a name
abbrev initial : Text → ℕ
initial [] = 0
initial (letter ∷ rest) = letter

same_initial : {a b : Text} (letter : ℕ) → a ≡ b → T (initial a == letter) → T (initial b == letter)
same_initial letter same = subst (λ (name : Text). T (initial name == letter)) same

-- order asks for no job where its argument is no number
order_for : (rows : List Row) → ((n : ℕ) → ¬ (IsNumber (codes "arg") rows n)) → (job : Job)
    → ¬ (Names (codes "order") rows job)
order_for rows none (Serve (Verify form)) asks = same_initial 111 asks.0 tt
order_for rows none (Serve (Order form arg)) asks = none arg asks.2
order_for rows none (Serve (Replay form arg test)) asks = same_initial 111 asks.0 tt
order_for rows none (Serve Asm) asks = same_initial 111 asks tt
order_for rows none (Serve Disasm) asks = same_initial 111 asks tt
order_for rows none (Run form arg plan) asks = same_initial 111 asks.0 tt
order_for rows none (Facts ask) asks = same_initial 111 asks.0 tt

-- replay asks for none where its argument is no number, or its test is none
replay_for : (rows : List Row) → ((n : ℕ) (test : Test) → IsNumber (codes "arg") rows n → ¬ (IsTest rows test))
    → (job : Job) → ¬ (Names (codes "replay") rows job)
replay_for rows none (Serve (Verify form)) asks = same_initial 114 asks.0 tt
replay_for rows none (Serve (Order form arg)) asks = same_initial 114 asks.0 tt
replay_for rows none (Serve (Replay form arg test)) asks = none arg test asks.2 asks.3
replay_for rows none (Serve Asm) asks = same_initial 114 asks tt
replay_for rows none (Serve Disasm) asks = same_initial 114 asks tt
replay_for rows none (Run form arg plan) asks = subst (λ (name : Text). T (length name == 6)) asks.0 tt
replay_for rows none (Facts ask) asks = same_initial 114 asks.0 tt

-- run asks for none where its argument is no number, or it has no plan
run_for : (rows : List Row) → ((n : ℕ) (plan : Plan) → IsNumber (codes "arg") rows n → ¬ (IsPlanOf rows plan))
    → (job : Job) → ¬ (Names (codes "run") rows job)
run_for rows none (Serve (Verify form)) asks = same_initial 114 asks.0 tt
run_for rows none (Serve (Order form arg)) asks = same_initial 114 asks.0 tt
run_for rows none (Serve (Replay form arg test)) asks = subst (λ (name : Text). T (length name == 3)) asks.0 tt
run_for rows none (Serve Asm) asks = same_initial 114 asks tt
run_for rows none (Serve Disasm) asks = same_initial 114 asks tt
run_for rows none (Run form arg plan) asks = none arg plan asks.2 asks.3
run_for rows none (Facts ask) asks = same_initial 114 asks.0 tt

-- facts asks for none where its arguments ask for none
facts_for : (rows : List Row) → ((ask : Ask) → ¬ (IsAskOf rows ask)) → (job : Job)
    → ¬ (Names (codes "facts") rows job)
facts_for rows none (Serve (Verify form)) asks = same_initial 102 asks.0 tt
facts_for rows none (Serve (Order form arg)) asks = same_initial 102 asks.0 tt
facts_for rows none (Serve (Replay form arg test)) asks = same_initial 102 asks.0 tt
facts_for rows none (Serve Asm) asks = same_initial 102 asks tt
facts_for rows none (Serve Disasm) asks = same_initial 102 asks tt
facts_for rows none (Run form arg plan) asks = same_initial 102 asks.0 tt
facts_for rows none (Facts ask) asks = none ask asks.1

-- another name asks for none
other_for : (name : Text) (rows : List Row) → name ≢ codes "verify" → name ≢ codes "order" → name ≢ codes "run"
    → name ≢ codes "replay" → name ≢ codes "facts" → name ≢ codes "asm" → name ≢ codes "disasm" → (job : Job)
    → ¬ (Names name rows job)
other_for name rows verify order run replay facts asm disasm (Serve (Verify form)) asks = verify asks.0
other_for name rows verify order run replay facts asm disasm (Serve (Order form arg)) asks = order asks.0
other_for name rows verify order run replay facts asm disasm (Serve (Replay form arg test)) asks = replay asks.0
other_for name rows verify order run replay facts asm disasm (Serve Asm) asks = asm asks
other_for name rows verify order run replay facts asm disasm (Serve Disasm) asks = disasm asks
other_for name rows verify order run replay facts asm disasm (Run form arg plan) asks = run asks.0
other_for name rows verify order run replay facts asm disasm (Facts ask) asks = facts asks.0

-- what words ask for that name a subcommand
pub asks_as_named : {Z : Type 0} (used : Option (Box SubCommand Z)) (name : Text) (rows : List Row) (job : Job)
    → Some name ≡ option_map (λ b. (out-SubCommand (box_value b)).name.now) used
    → Some rows ≡ option_map (λ p. p.1) (subcommand_rows used) → Names name rows job
    → AsksForJob (subcommand_rows used) job
asks_as_named used name rows job named given is =
    subst (λ (n : Option (Text × List Row)). AsksForJob n job)
    (sym (subcommand_named used name rows (sym named) (sym given))) is

asks_for_none : {Z : Type 0} (used : Option (Box SubCommand Z)) (name other : Text) (rows : List Row)
    → Some name ≡ option_map (λ b. (out-SubCommand (box_value b)).name.now) used
    → Some rows ≡ option_map (λ p. p.1) (subcommand_rows used) → name ≡ other
    → ((job : Job) → ¬ (Names other rows job)) → (job : Job) → ¬ (AsksForJob (subcommand_rows used) job)
asks_for_none used name other rows named given is =
    subst (λ (n : Option (Text × List Row)). ((job : Job) → ¬ (Names other rows job))
    → (job : Job) → ¬ (AsksForJob n job))
    (sym (subcommand_named used name rows (sym named) (sym given)))
    (subst (λ (o : Text). ((job : Job) → ¬ (Names o rows job)) → (job : Job) → ¬ (Names name rows job)) is
    (λ none. none))

pub no_order : {Z : Type 0} (used : Option (Box SubCommand Z)) (name : Text) (rows : List Row)
    → Some name ≡ option_map (λ b. (out-SubCommand (box_value b)).name.now) used
    → Some rows ≡ option_map (λ p. p.1) (subcommand_rows used) → name ≡ codes "order"
    → ((n : ℕ) → ¬ (IsNumber (codes "arg") rows n)) → (job : Job) → ¬ (AsksForJob (subcommand_rows used) job)
no_order used name rows named given is none =
    asks_for_none used name (codes "order") rows named given is (order_for rows none)

pub no_replay : {Z : Type 0} (used : Option (Box SubCommand Z)) (name : Text) (rows : List Row)
    → Some name ≡ option_map (λ b. (out-SubCommand (box_value b)).name.now) used
    → Some rows ≡ option_map (λ p. p.1) (subcommand_rows used) → name ≡ codes "replay"
    → ((n : ℕ) (test : Test) → IsNumber (codes "arg") rows n → ¬ (IsTest rows test)) → (job : Job)
    → ¬ (AsksForJob (subcommand_rows used) job)
no_replay used name rows named given is none =
    asks_for_none used name (codes "replay") rows named given is (replay_for rows none)

pub no_run : {Z : Type 0} (used : Option (Box SubCommand Z)) (name : Text) (rows : List Row)
    → Some name ≡ option_map (λ b. (out-SubCommand (box_value b)).name.now) used
    → Some rows ≡ option_map (λ p. p.1) (subcommand_rows used) → name ≡ codes "run"
    → ((n : ℕ) (plan : Plan) → IsNumber (codes "arg") rows n → ¬ (IsPlanOf rows plan)) → (job : Job)
    → ¬ (AsksForJob (subcommand_rows used) job)
no_run used name rows named given is none =
    asks_for_none used name (codes "run") rows named given is (run_for rows none)

pub no_facts : {Z : Type 0} (used : Option (Box SubCommand Z)) (name : Text) (rows : List Row)
    → Some name ≡ option_map (λ b. (out-SubCommand (box_value b)).name.now) used
    → Some rows ≡ option_map (λ p. p.1) (subcommand_rows used) → name ≡ codes "facts"
    → ((ask : Ask) → ¬ (IsAskOf rows ask)) → (job : Job) → ¬ (AsksForJob (subcommand_rows used) job)
no_facts used name rows named given is none =
    asks_for_none used name (codes "facts") rows named given is (facts_for rows none)

pub no_other : {Z : Type 0} (used : Option (Box SubCommand Z)) (name : Text) (rows : List Row)
    → Some name ≡ option_map (λ b. (out-SubCommand (box_value b)).name.now) used
    → Some rows ≡ option_map (λ p. p.1) (subcommand_rows used) → name ≢ codes "verify" → name ≢ codes "order"
    → name ≢ codes "run" → name ≢ codes "replay" → name ≢ codes "facts" → name ≢ codes "asm" → name ≢ codes "disasm"
    → (job : Job) → ¬ (AsksForJob (subcommand_rows used) job)
no_other used name rows named given verify order run replay facts asm disasm =
    asks_for_none used name name rows named given refl
    (other_for name rows verify order run replay facts asm disasm)

pub ruleset job_laws = (asks_as_named, no_order, no_replay, no_run, no_facts, no_other)

-- the stats of run, and of any other subcommand
pub stats_of_run : (named : Option (Text × List Row)) (rows : List Row) (stats : Bool)
    → named ≡ Some (codes "run", rows) → HasFlag (codes "stats") rows stats → AsksForStats named stats
stats_of_run named rows stats is given =
    subst (λ (used : Option (Text × List Row)). AsksForStats used stats) (sym is)
    ((λ same. given), (λ other. absurd (other refl)))

pub no_stats : {Z : Type 0} (used : Option (Box SubCommand Z))
    → ¬ (option_map (λ b. (out-SubCommand (box_value b)).name.now) used ≡ Some (codes "run"))
    → AsksForStats (subcommand_rows used) false
no_stats None other = refl
no_stats (Some b) other = ((λ same. absurd (other (ap Some same))), (λ different. refl))

-- a command with one argument more, and with one subcommand more
pub with_arg : {app : App} {rule : Rule} {old new : Command} (arg : Arg) → IsCommand app old → IsArg rule arg
    → AddsArg old arg new
    → IsCommand (with_rule app rule) new
with_arg {app} {rule} {old} {new} arg is its adds = record {
  app_is = adds.shape its.own ∙ ap₂ with_rule is.app_is its.rule_is;
  own = adds.globals ∙ ap₂ (λ (b c : Bool). b || c) is.own its.own;
}

pub with_command : {app sub_app : App} {old sub new : Command} → IsCommand app old → IsCommand sub_app sub
    → AddsSubcommand old sub new
    → IsCommand (with_subcommand app sub_app.top) new
with_command {app} {sub_app} {old} {sub} {new} is its adds = record {
  app_is = adds.shape its.own ∙ ap₂ with_subcommand is.app_is (ap (λ (a : App). a.top) its.app_is);
  own = adds.globals ∙ ap₂ (λ (b c : Bool). b || c) is.own its.own;
}

-- a command with these arguments more, added in turn, and with these subcommands more
pub with_args : {app : App} {old new : Command} (rules : List Rule) (args : List Arg) → IsCommand app old
    → AllZip IsArg rules args → AddsInTurn AddsArg old args new → IsCommand (fold with_rule app rules) new
with_args [] [] is are same = subst (IsCommand _) same is
with_args [] (arg ∷ args) is are adds = absurd are
with_args (rule ∷ rules) [] is are adds = absurd are
with_args (rule ∷ rules) (arg ∷ args) is are adds =
    with_args rules args (with_arg arg is are.0 adds.1) are.1 adds.2

pub with_subcommands : {app : App} {old new : Command} (apps : List App) (subs : List Command) → IsCommand app old
    → AllZip IsCommand apps subs → AddsInTurn AddsSubcommand old subs new
    → IsCommand (fold (λ (made sub : App). with_subcommand made sub.top) app apps) new
with_subcommands [] [] is are same = subst (IsCommand _) same is
with_subcommands [] (sub ∷ subs) is are adds = absurd are
with_subcommands (first ∷ apps) [] is are adds = absurd are
with_subcommands (first ∷ apps) (sub ∷ subs) is are adds =
    with_subcommands apps subs (with_command is are.0 adds.1) are.1 adds.2
