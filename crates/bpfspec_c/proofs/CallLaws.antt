-- What calls give, by whether the handle held a machine.
use Rattle.std.proofs.Common.{◌≡◌, ◌≢◌, ℕ, ℤ, Bool, true, false, if◌then◌else◌, ◌==◌, List, length, Option, Some, None}
use Rattle.std.{proofs.Common.{refl, sym, ap, subst, ◌∙◌}, specs.Prelude.{Result, is_some}}
use Rattle.std.proofs.lemmas.Bool.{eq-eqb, ne_eqb}
use Rattle.bpfspec_machine.specs.{declared.load_error.LoadError.{LoadError}, Machines.{MachineState}}
use Rattle.bpfspec_machine.specs.Elements.{has_element, with_element_if, has_words, words_of, with_words_if}
use Rattle.bpfspec_c.specs.{declared.refusal.Refusal.{Refusal}, Calls.{SetsWords}}
use Rattle.bpfspec_c.specs.Calls.{LoadedAs, Loads, Ran, Runs, RanAll, RunsIf, RunsEach, Answers, Tells, words_at, Sets}
use Rattle.bpfspec_c.specs.Statuses as status

-- a machine that is there stays
pub held_stays : (meaning : Result MachineState LoadError) (old new : Option MachineState) (result : ℤ)
    (before after : Refusal) → is_some old ≡ true → result ≡ status.held → new ≡ old → after ≡ before
    → Loads meaning old new result before after
held_stays meaning (Some machine) new result before after is held same kept = (held, same, kept)
held_stays meaning None new result before after is held same kept = absurd (cc)

-- an empty handle is loaded
pub empty_loads : (meaning : Result MachineState LoadError) (old new : Option MachineState) (result : ℤ)
    (before after : Refusal) → is_some old ≡ false → LoadedAs meaning new result before after
    → Loads meaning old new result before after
empty_loads meaning None new result before after is loaded = loaded
empty_loads meaning (Some machine) new result before after is loaded = absurd (cc)

-- nothing there is none
pub is_empty : (old : Option MachineState) → is_some old ≡ false → old ≡ None
is_empty None is = refl
is_empty (Some machine) is = absurd (cc)

pub runs_none : (argument : ℕ) (old new : Option MachineState) (result : ℤ) (before after : ℕ)
    → old ≡ None → result ≡ status.empty → new ≡ None → after ≡ before → Runs argument old new result before after
runs_none argument None new result before after none is same kept = (is, same, kept)
runs_none argument (Some machine) new result before after none is same kept = absurd (cc)

pub runs_some : (argument : ℕ) (old new : Option MachineState) (result : ℤ) (before after : ℕ) (machine : MachineState)
    → old ≡ Some machine → Ran argument machine new result after → Runs argument old new result before after
runs_some argument old new result before after machine some ran =
    subst (λ (held : Option MachineState). Runs argument held new result before after) (sym some) ran

pub each_none : (arguments : List ℕ) (old new : Option MachineState) (result : ℤ) (before after : List ℕ)
    → old ≡ None → result ≡ status.empty → new ≡ None → after ≡ before
    → RunsEach arguments old new result before after
each_none arguments None new result before after none is same kept = (is, same, kept)
each_none arguments (Some machine) new result before after none is same kept = absurd (cc)

each : (arguments : List ℕ) (old new : Option MachineState) (result : ℤ) (before after : List ℕ) (machine : MachineState)
    → old ≡ Some machine → RunsEach arguments (Some machine) new result before after
    → RunsEach arguments old new result before after
each arguments old new result before after machine some ran =
    subst (λ (held : Option MachineState). RunsEach arguments held new result before after) (sym some) ran

each_if : (fits : Bool) (arguments : List ℕ) (machine : MachineState) (new : Option MachineState) (result : ℤ)
    (before after : List ℕ) → fits ≡ true → RanAll arguments machine new result after
    → RunsIf fits arguments machine new result before after
each_if true arguments machine new result before after is ran = ran
each_if false arguments machine new result before after is ran = absurd (cc)

pub each_ran : (arguments : List ℕ) (old new : Option MachineState) (result : ℤ) (before after : List ℕ)
    (machine : MachineState) → old ≡ Some machine → length arguments ≡ length before
    → RanAll arguments machine new result after → RunsEach arguments old new result before after
each_ran arguments old new result before after machine some fit ran =
    each arguments old new result before after machine some
    (each_if (length before == length arguments) arguments machine new result before after
    (eq-eqb (length before) (length arguments) (sym fit)) ran)

each_unless : (fits : Bool) (arguments : List ℕ) (machine : MachineState) (new : Option MachineState) (result : ℤ)
    (before after : List ℕ) → fits ≡ false → result ≡ status.out_of_range → new ≡ Some machine → after ≡ before
    → RunsIf fits arguments machine new result before after
each_unless true arguments machine new result before after is range same kept = absurd (cc)
each_unless false arguments machine new result before after is range same kept = (range, same, kept)

pub each_range : (arguments : List ℕ) (old new : Option MachineState) (result : ℤ) (before after : List ℕ)
    (machine : MachineState) → old ≡ Some machine → length arguments ≢ length before → result ≡ status.out_of_range
    → new ≡ Some machine → after ≡ before → RunsEach arguments old new result before after
each_range arguments old new result before after machine some differ range same kept =
    each arguments old new result before after machine some
    (each_unless (length before == length arguments) arguments machine new result before after
    (ne_eqb (length before) (length arguments) (λ same. differ (sym same))) range same kept)

pub tells_none : {X : Type 0} (question : MachineState → Option X) (old new : Option MachineState) (result : ℤ)
    (before after : X) → old ≡ None → result ≡ status.empty → new ≡ None → after ≡ before
    → Tells question old new result before after
tells_none question None new result before after none is same kept = (is, same, kept)
tells_none question (Some machine) new result before after none is same kept = absurd (cc)

tells : {X : Type 0} (question : MachineState → Option X) (old new : Option MachineState) (result : ℤ)
    (before after : X) (machine : MachineState) → old ≡ Some machine
    → Answers (question machine) result before after → new ≡ Some machine
    → Tells question old new result before after
tells question old new result before after machine some told same =
    subst (λ (held : Option MachineState). Tells question held new result before after) (sym some) (told, same)

abbrev or_else : {X : Type 0} → X → Option X → X
or_else y None = y
or_else y (Some x) = x

of_value : {X : Type 0} (found : Option X) (result : ℤ) (before after value : X) → found ≡ Some value
    → result ≡ status.done → after ≡ value → Answers found result before after
of_value (Some x) result before after value is done same = (done, same ∙ sym (ap (or_else value) is))
of_value None result before after value is done same = absurd (cc)

pub tells_value : {X : Type 0} (question : MachineState → Option X) (old new : Option MachineState) (result : ℤ)
    (before after : X) (machine : MachineState) (value : X) → old ≡ Some machine → question machine ≡ Some value
    → result ≡ status.done → after ≡ value → new ≡ Some machine → Tells question old new result before after
tells_value question old new result before after machine value some is done same kept =
    tells question old new result before after machine some
    (of_value (question machine) result before after value is done same) kept

of_none : {X : Type 0} (found : Option X) (result : ℤ) (before after : X) → found ≡ None
    → result ≡ status.out_of_range → after ≡ before → Answers found result before after
of_none None result before after is range same = (range, same)
of_none (Some x) result before after is range same = absurd (cc)

pub tells_range : {X : Type 0} (question : MachineState → Option X) (old new : Option MachineState) (result : ℤ)
    (before after : X) (machine : MachineState) → old ≡ Some machine → question machine ≡ None
    → result ≡ status.out_of_range → after ≡ before → new ≡ Some machine
    → Tells question old new result before after
tells_range question old new result before after machine some is range same kept =
    tells question old new result before after machine some
    (of_none (question machine) result before after is range same) kept

of_words : (there : Bool) (words : List ℕ) (result : ℤ) (before after : List ℕ)
    → result ≡ (if there then status.done else status.out_of_range) → after ≡ (if there then words else before)
    → Answers (if there then Some words else None) result before after
of_words true words result before after is same = (is, same)
of_words false words result before after is same = (is, same)

pub tells_words : (map count : ℕ) (old new : Option MachineState) (result : ℤ) (before after : List ℕ)
    (machine : MachineState) (there : Bool) → old ≡ Some machine → there ≡ has_words machine.maps.sizes map count
    → result ≡ (if there then status.done else status.out_of_range)
    → after ≡ (if there then words_of machine.maps map else before) → new ≡ Some machine
    → Tells (words_at map count) old new result before after
tells_words map count old new result before after machine there some is done same kept =
    let can = has_words machine.maps.sizes map count in
    tells (words_at map count) old new result before after machine some
    (of_words can (words_of machine.maps map) result before after
    (done ∙ ap (λ (b : Bool). if b then status.done else status.out_of_range) is)
    (same ∙ ap (λ (b : Bool). if b then words_of machine.maps map else before) is)) kept

pub sets_none : (map index value : ℕ) (old new : Option MachineState) (result : ℤ)
    → old ≡ None → result ≡ status.empty → new ≡ None → Sets map index value old new result
sets_none map index value None new result none is same = (is, same)
sets_none map index value (Some machine) new result none is same = absurd (cc)

pub sets_some : (map index value : ℕ) (old new : Option MachineState) (result : ℤ) (machine : MachineState) (there : Bool)
    → old ≡ Some machine → there ≡ has_element machine.maps.sizes map index
    → result ≡ (if there then status.done else status.out_of_range)
    → new ≡ Some (with_element_if there machine map index value) → Sets map index value old new result
sets_some map index value old new result machine there some is done set =
    subst (λ (held : Option MachineState). Sets map index value held new result) (sym some) (
      done ∙ ap (λ (b : Bool). if b then status.done else status.out_of_range) is,
      set ∙ ap (λ (b : Bool). Some (with_element_if b machine map index value)) is,
    )

pub sets_words_none : (map : ℕ) (values : List ℕ) (old new : Option MachineState) (result : ℤ)
    → old ≡ None → result ≡ status.empty → new ≡ None → SetsWords map values old new result
sets_words_none map values None new result none is same = (is, same)
sets_words_none map values (Some machine) new result none is same = absurd (cc)

pub sets_words_some : (map : ℕ) (values : List ℕ) (old new : Option MachineState) (result : ℤ) (machine : MachineState)
    (there : Bool) → old ≡ Some machine → there ≡ has_words machine.maps.sizes map (length values)
    → result ≡ (if there then status.done else status.out_of_range)
    → new ≡ Some (with_words_if there machine map values) → SetsWords map values old new result
sets_words_some map values old new result machine there some is done set =
    subst (λ (held : Option MachineState). SetsWords map values held new result) (sym some) (
      done ∙ ap (λ (b : Bool). if b then status.done else status.out_of_range) is,
      set ∙ ap (λ (b : Bool). Some (with_words_if b machine map values)) is,
    )

-- the laws of each kind of call
pub ruleset load_laws = (held_stays, empty_loads, is_empty)

pub ruleset run_laws = (runs_none, runs_some)

pub ruleset each_laws = (each_none, each_range, each_ran)

pub ruleset tell_laws = (tells_none, tells_value, tells_range)

pub ruleset words_laws = (tells_none, tells_words)

pub ruleset set_laws = (sets_none, sets_some)

pub ruleset set_words_laws = (sets_words_none, sets_words_some)
