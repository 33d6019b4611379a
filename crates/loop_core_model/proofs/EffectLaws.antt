-- The effects of lanes: one lane after another they are the loop in order, and sites that commute are applied one after
-- another.
use Rattle.std.proofs.Common.{◌≡◌, ◌≢◌, ℕ, zero, suc, ◌+◌, ◌<◌, ◌≤◌, true, false, List, [], ◌∷◌, refl, sym, ◌∙◌, ap}
use Rattle.std.{proofs.Common.{subst, arith}, specs.Prelude.{Option, Some, None, IfSome, ◌==◌}}
use Rattle.std.specs.List.{AllByRecursion}
use Rattle.array_maps.specs.{declared.access.{Half.{Half}, Op.{Op}, Part.TheVariants.{Half as Of}}, MapList.{AreWords}}
use Rattle.array_maps.specs.Accesses.{Access, left_by, words_after_all}
use Rattle.bpf_insn_types.specs.Program.{Program}
use Rattle.bpf_step_model.specs.{State.{LoopCall}, LoopInOrder.{loop_from}}
use Rattle.loop_core_model.{proofs.{OneElement.{same_op}, RunAgain.{iteration_local}}, specs.Kept.{OperatorsAssociate}}
use Rattle.loop_core_model.specs.{Kinds.{kind_leaves, by_one_operator}, Effects.{words_after_each_lane, LoadsSame}}
use Rattle.loop_core_model.specs.Effects.{Deed, Apply, action_on, kind_of_deed, deed_part, Effect, words_after_effect}
use Rattle.loop_core_model.specs.Effects.{words_after_effects, EffectLog, with_effect, effects_of}
use Rattle.loop_core_model.specs.Effects.{words_after_any_effect, words_after_lane_effects, words_after_site_effects}
use Rattle.loop_core_model.specs.LoopByEffects.{GoesOn, Leaves, LeavesInZero, LoopByEachLane}
use Rattle.loop_core_model.proofs.Swapping.{other_place, same_place, reduces_swap}
use Rattle.loop_core_model.proofs.LoopAgain.{step_again}
use Rattle.loop_core_model.proofs.Sparing.{keeps, accesses_leave, deeds_exchange}

-- two effects leave the same in either order
abbrev pub Exchange : Effect → Effect → Type 0
Exchange a b = (words : List ℕ) → words_after_effect a (words_after_effect b words)
    ≡ words_after_effect b (words_after_effect a words)

-- an effect that may change places with each of a list goes after them
past_all : (a : Effect) (others : List Effect) → AllByRecursion (Exchange a) others → (words : List ℕ)
    → words_after_effects others (words_after_effect a words) ≡ words_after_effect a (words_after_effects others words)
past_all a [] all words = refl
past_all a (other ∷ others) all words = ap (words_after_effects others) (sym (all.0 words))
    ∙ past_all a others all.1 (words_after_effect other words)

-- so of a lane's effects
with_swap : (a : Effect) (made : Option Effect) (rest : List Effect) → IfSome made (Exchange a)
    → AllByRecursion (Exchange a) rest → AllByRecursion (Exchange a) (with_effect made rest)
with_swap a None rest one all = all
with_swap a (Some other) rest one all = (one, all)

swap_each : (a : Effect) (log : EffectLog) (lane : ℕ)
    → AllByRecursion (λ (at : ℕ → Option Effect). IfSome (at lane) (Exchange a)) log
    → AllByRecursion (Exchange a) (effects_of log lane)
swap_each a [] lane all = tt
swap_each a (at ∷ log) lane all = with_swap a (at lane) (effects_of log lane) all.0 (swap_each a log lane all.1)

past_lanes : (a : Effect) (log : EffectLog) (lanes : ℕ)
    → ((lane : ℕ) → lane < lanes → AllByRecursion (λ (at : ℕ → Option Effect). IfSome (at lane) (Exchange a)) log)
    → (words : List ℕ) → words_after_each_lane log lanes (words_after_effect a words)
    ≡ words_after_effect a (words_after_each_lane log lanes words)
past_lanes a log zero each words = refl
past_lanes a log (suc lanes) each words =
    ap (words_after_effects (effects_of log lanes))
    (past_lanes a log lanes (λ lane within. each lane (omega arith)) words)
    ∙ past_all a (effects_of log lanes) (swap_each a log lanes (each lanes (omega arith))) (words_after_each_lane log
    lanes words)

-- each later lane's effect at a site may change places with earlier lanes' at the sites after it
abbrev pub GoesFirst : (ℕ → Option Effect) → EffectLog → ℕ → Type 0
GoesFirst at log lanes = (later earlier : ℕ) → earlier < later → later < lanes
    → IfSome (at later) (λ effect.
    AllByRecursion (λ (other : ℕ → Option Effect). IfSome (other earlier) (Exchange effect)) log)

-- a lane's effect at a site, if it made one, goes before those of earlier lanes at the sites after it
one_first : (made : Option Effect) (log : EffectLog) (lanes : ℕ)
    → ((lane : ℕ) → lane < lanes → IfSome made (λ effect.
    AllByRecursion (λ (other : ℕ → Option Effect). IfSome (other lane) (Exchange effect)) log)) → (words : List ℕ)
    → words_after_effects (effects_of log lanes) (words_after_each_lane log lanes (words_after_any_effect made words))
    ≡ words_after_effects (with_effect made (effects_of log lanes)) (words_after_each_lane log lanes words)
one_first None log lanes first words = refl
one_first (Some effect) log lanes first words =
    ap (words_after_effects (effects_of log lanes)) (past_lanes effect log lanes first words)

first_site : (at : ℕ → Option Effect) (log : EffectLog) (lanes : ℕ) → GoesFirst at log lanes → (words : List ℕ) →
    words_after_each_lane log lanes (words_after_lane_effects at lanes words)
    ≡ words_after_each_lane (at ∷ log) lanes words
first_site at log zero first words = refl
first_site at log (suc lanes) first words =
    one_first (at lanes) log lanes
    (λ lane within. first lanes lane within (omega arith)) (words_after_lane_effects at lanes words)
    ∙ ap (words_after_effects (with_effect (at lanes) (effects_of log lanes)))
    (first_site at log lanes (λ later earlier order within. first later earlier order (omega arith)) words)

-- no site, no effect
nothing_left : (lanes : ℕ) (words : List ℕ) → words ≡ words_after_each_lane [] lanes words
nothing_left zero words = refl
nothing_left (suc lanes) words = nothing_left lanes words

-- each site goes first among those after it
abbrev pub EachGoesFirst : EffectLog → ℕ → Type 0
EachGoesFirst [] lanes = Unit {0}
EachGoesFirst (at ∷ log) lanes = GoesFirst at log lanes × EachGoesFirst log lanes

pub site_by_site : (log : EffectLog) (lanes : ℕ) → EachGoesFirst log lanes → (words : List ℕ)
    → words_after_site_effects log lanes words ≡ words_after_each_lane log lanes words
site_by_site [] lanes each words = nothing_left lanes words
site_by_site (at ∷ log) lanes each words = site_by_site log lanes each.1 (words_after_lane_effects at lanes words)
    ∙ first_site at log lanes each.0 words

pub first_keeps : (a b : Effect) → kind_leaves (kind_of_deed a.deed) ≡ false → Exchange a b
first_keeps a b h words = keeps a h (words_after_effect b words) ∙ sym (ap (words_after_effect b) (keeps a h words))

pub second_keeps : (a b : Effect) → kind_leaves (kind_of_deed b.deed) ≡ false → Exchange a b
second_keeps a b h words = ap (words_after_effect a) (keeps b h words) ∙ sym (keeps b h (words_after_effect a words))

-- effects at different elements
pub apart_exchange : (a b : Effect) → a.element ≢ b.element → Exchange a b
apart_exchange a b apart words =
    other_place (λ (word : ℕ). left_by (action_on a.deed word) word)
    (λ (word : ℕ). left_by (action_on b.deed word) word) words a.element b.element apart

-- two that replace different halves of one element
pub halves_exchange : (a b : Effect) (half other : Half) → a.element ≡ b.element → half ≢ other
    → deed_part a.deed ≡ Of half → deed_part b.deed ≡ Of other → kind_leaves (kind_of_deed a.deed) ≡ true
    → kind_leaves (kind_of_deed b.deed) ≡ true → Exchange a b
halves_exchange a b half other same differ is other_is leaves other_leaves words =
    subst (λ (e : ℕ). words_after_effect (record { element = e; deed = a.deed }) (words_after_effect b words)
    ≡ words_after_effect b (words_after_effect (record { element = e; deed = a.deed }) words)) (sym same)
    (same_place (λ (word : ℕ). left_by (action_on a.deed word) word)
    (λ (word : ℕ). left_by (action_on b.deed word) word)
    (deeds_exchange a.deed b.deed half other differ is other_is leaves other_leaves) words b.element)

-- two by one operator
pub operators_exchange : OperatorsAssociate → (a b : Deed) (d e : ℕ)
    → by_one_operator (kind_of_deed a) (kind_of_deed b) ≡ true
    → Exchange (record { element = d; deed = a }) (record { element = e; deed = b })
operators_exchange laws (Apply op x) (Apply other y) d e h =
    subst (λ (o : Op). Exchange (record { element = d; deed = Apply op x })
    (record { element = e; deed = Apply o y })) (same_op op other h) (reduces_swap laws op d e x y)
operators_exchange laws _ _ d e h = absurd (cc)

-- one iteration of a loop in order, which goes on
one_iteration : (program : Program) (bound : ℕ) (call : LoopCall) (left index : ℕ) (now after : List ℕ)
    → LeavesInZero program bound call index now after
    → loop_from program bound call (suc left) index now ≡ loop_from program bound call left (index + 1) after
one_iteration program bound call left index now after on =
    step_again program bound call now left index now on.iterated false on.ended (ap (λ ret. ret == 1) on.returned) refl
    ((iteration_local program bound call index).saw now on.iterated on.ended)
    ∙ ap (loop_from program bound call left (index + 1)) on.leaves

-- one that goes on with effects leaves what they leave
pub goes_leaves : (program : Program) (bound : ℕ) (call : LoopCall) (index : ℕ) (now : List ℕ) (effects : List Effect)
    → GoesOn program bound call index now effects → Leaves program bound call index now effects
goes_leaves program bound call index now effects goes = record {
  ends = record {
    iterated = goes.ends.iterated;
    ended = goes.ends.ended;
    returned = goes.ends.returned;
    leaves = ap (λ (accesses : List Access). words_after_all accesses now) goes.ends.made ∙ accesses_leave effects now;
  };
  fit = goes.fit;
}

module _ (program : Program) (bound : ℕ) (call : LoopCall) (first lanes : ℕ) (words : List ℕ) (log : EffectLog)
    (fit : AreWords words)
    (goes_on : (lane : ℕ) → lane < lanes → (now : List ℕ) → AreWords now → LoadsSame words now (effects_of log lane)
    → Leaves program bound call (first + lane) now (effects_of log lane))
    (same : (lane : ℕ) → lane < lanes → LoadsSame words (words_after_each_lane log lane words) (effects_of log lane))
  where
    -- a lane goes on after those before it
    goes : (lane : ℕ) → lane < lanes → AreWords (words_after_each_lane log lane words)
        → Leaves program bound call (first + lane) (words_after_each_lane log lane words) (effects_of log lane)
    goes lane within fits = goes_on lane within (words_after_each_lane log lane words) fits
        (same lane within)

    fit_before : (lane : ℕ) → lane ≤ lanes → AreWords (words_after_each_lane log lane words)
    fit_before zero within = fit
    fit_before (suc lane) within = (goes lane (omega arith) (fit_before lane (omega arith))).fit

    lanes_done : (lane left : ℕ) → lane ≤ lanes →
        loop_from program bound call (lane + left) first words
        ≡ loop_from program bound call left (first + lane) (words_after_each_lane log lane words)
    lanes_done zero left within =
        let all : 0 + left ≡ left = omega arith in
        let here : first + 0 ≡ first = omega arith in
        rw (all, here) refl
    lanes_done (suc lane) left within =
        let one_less : suc lane + left ≡ lane + suc left = omega arith in
        let next : first + lane + 1 ≡ first + suc lane = omega arith in
        ap (λ (n : ℕ). loop_from program bound call n first words) one_less
        ∙ lanes_done lane (suc left) (omega arith)
        ∙ one_iteration program bound call left (first + lane) (words_after_each_lane log lane words)
        (words_after_each_lane log (suc lane) words) (goes lane (omega arith) (fit_before lane (omega arith))).ends
        ∙ ap (λ (index : ℕ). loop_from program bound call left index (words_after_each_lane log (suc lane) words)) next

pub loop_by_each_lane : LoopByEachLane
loop_by_each_lane program bound call first lanes left words log fit goes_on same =
    lanes_done program bound call first lanes words log fit goes_on same lanes left (omega arith)
