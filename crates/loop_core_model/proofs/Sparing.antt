-- What effects leave of an element, and of its halves.
use Rattle.std.proofs.Common.{◌≡◌, ◌≢◌, ℕ, zero, suc, ◌+◌, ◌*◌, ◌%◌, ◌/◌, ◌^◌, ◌<◌, true, false, List, length}
use Rattle.std.proofs.Common.{inl, inr, [], ◌∷◌, set, get_or, refl, sym, ◌∙◌, ap, subst, arith}
use Rattle.std.{specs.List.{AllByRecursion}, proofs.lemmas.Bool.{cases_eq, cases_Bool}}
use Rattle.std.proofs.lemmas.List.{get_or-set_other, set-get_or}
use Rattle.array_maps.specs.{declared.access.{Half.{Half, TheVariants.{Low, High}}, Part.{Part}}, MapList.{AreWords}}
use Rattle.array_maps.specs.{declared.access.Part.TheVariants.{Whole, Half as Of}, Halves.{half_of, with_half, part_of}}
use Rattle.array_maps.{specs.Accesses.{left_by, words_after_all}, proofs.ElementLaws.{length-words_after_all}}
use Rattle.loop_core_model.specs.{Kinds.{kind_leaves}, Effects.{effects_of, words_after_each_lane}}
use Rattle.loop_core_model.specs.Effects.{Deed, Load, Replace, action_on, kind_of_deed, deed_part}
use Rattle.loop_core_model.specs.Effects.{Effect, words_after_effect, accesses_on, words_after_effects, EffectLog}
use Rattle.loop_core_model.proofs.Swapping.{changed_at}

-- accesses leave what the effects leave
pub accesses_leave : (effects : List Effect) (words : List ℕ) → words_after_all (accesses_on words effects) words
    ≡ words_after_effects effects words
accesses_leave [] words = refl
accesses_leave (effect ∷ effects) words = accesses_leave effects (words_after_effect effect words)

pub length-after_effects : (effects : List Effect) (words : List ℕ) → length (words_after_effects effects words)
    ≡ length words
length-after_effects effects words =
    sym (ap length (accesses_leave effects words)) ∙ length-words_after_all (accesses_on words effects) words

-- what leaves no word by its kind leaves all as it was
kind_keeps : (deed : Deed) (word : ℕ) → kind_leaves (kind_of_deed deed) ≡ false → left_by (action_on deed word) word
    ≡ word
kind_keeps (Load part) word h = refl
kind_keeps _ word h = absurd (cc)

pub keeps : (a : Effect) → kind_leaves (kind_of_deed a.deed) ≡ false → (words : List ℕ)
    → words_after_effect a words ≡ words
keeps a h words = ap (set words a.element) (kind_keeps a.deed (get_or words a.element 0) h)
    ∙ set-get_or words a.element 0

-- an effect doesn't change an element
abbrev pub LeavesAlone : (element : ℕ) → Effect → Type 0
LeavesAlone element effect = kind_leaves (kind_of_deed effect.deed) ≡ true → effect.element ≢ element

still_one : (effect : Effect) (words : List ℕ) (element : ℕ) → LeavesAlone element effect
    → get_or (words_after_effect effect words) element 0 ≡ get_or words element 0
still_one effect words element alone = elim (cases_Bool (kind_leaves (kind_of_deed effect.deed))) [
  | inl leaves ↦ get_or-set_other words effect.element element _ 0 (λ same. alone leaves (sym same))
  | inr none ↦ ap (λ (ws : List ℕ). get_or ws element 0) (keeps effect none words)
]

pub still_after : (effects : List Effect) (words : List ℕ) (element : ℕ)
    → AllByRecursion (LeavesAlone element) effects
    → get_or (words_after_effects effects words) element 0 ≡ get_or words element 0
still_after [] words element all = refl
still_after (effect ∷ effects) words element all =
    still_after effects (words_after_effect effect words) element all.1 ∙ still_one effect words element all.0

-- before a lane an element is as it was, where no earlier one changes it
pub before_lane : (log : EffectLog) (words : List ℕ) (lane element : ℕ)
    → ((earlier : ℕ) → earlier < lane → AllByRecursion (LeavesAlone element) (effects_of log earlier))
    → get_or (words_after_each_lane log lane words) element 0 ≡ get_or words element 0
before_lane log words zero element alone = refl
before_lane log words (suc lane) element alone =
    still_after (effects_of log lane) (words_after_each_lane log lane words) element (alone lane (omega arith))
    ∙ before_lane log words lane element (λ earlier below. alone earlier (omega arith))

pub length-before : (log : EffectLog) (words : List ℕ) (lane : ℕ)
    → length (words_after_each_lane log lane words) ≡ length words
length-before log words zero = refl
length-before log words (suc lane) =
    length-after_effects (effects_of log lane) (words_after_each_lane log lane words) ∙ length-before log words lane

-- a word is below 2 ^ 64, where its upper half is spoken of
abbrev pub FitsFor : Part → ℕ → Type 0
FitsFor Whole word = Unit {0}
FitsFor (Of Low) word = Unit {0}
FitsFor (Of High) word = word < 2 ^ 64

pub fits_for : (part : Part) (word : ℕ) → word < 2 ^ 64 → FitsFor part word
fits_for Whole word below = tt
fits_for (Of Low) word below = tt
fits_for (Of High) word below = below

-- of such a word a part stays, and it stays one
abbrev pub Kept : (part : Part) (word left : ℕ) → Type 0
Kept part word left = (part_of part left ≡ part_of part word) × FitsFor part left

-- an effect spares a part of an element
abbrev pub Spares : (element : ℕ) → Part → Effect → Type 0
Spares element part effect = (words : List ℕ) → FitsFor part (get_or words element 0)
    → Kept part (get_or words element 0) (get_or (words_after_effect effect words) element 0)

pub alone_spares : (effect : Effect) (element : ℕ) (part : Part) → LeavesAlone element effect
    → Spares element part effect
alone_spares effect element part alone words below =
    let still = still_one effect words element alone in
    (ap (part_of part) still, subst (FitsFor part) (sym still) below)

-- a half is spared where the other one is replaced
low_replaced : (word number : ℕ) → word < 2 ^ 64 → Kept (Of High) word (with_half Low word number)
unfolding with_half half_of
low_replaced word number below =
    let same : (number % 2 ^ 32 + 2 ^ 32 * (word / 2 ^ 32 % 2 ^ 32)) / 2 ^ 32 ≡ word / 2 ^ 32 =
    omega (arith, below) in
    let fits : number % 2 ^ 32 + 2 ^ 32 * (word / 2 ^ 32 % 2 ^ 32) < 2 ^ 64 = omega arith in
    (same, fits)

high_replaced : (word number : ℕ) → Kept (Of Low) word (with_half High word number)
unfolding with_half half_of
high_replaced word number =
    let same : (word % 2 ^ 32 + 2 ^ 32 * (number % 2 ^ 32)) % 2 ^ 32 ≡ word % 2 ^ 32 = omega arith in
    (same, tt)

deed_spares : (deed : Deed) (half other : Half) → half ≢ other → deed_part deed ≡ Of half
    → kind_leaves (kind_of_deed deed) ≡ true → (word : ℕ) → FitsFor (Of other) word
    → Kept (Of other) word (left_by (action_on deed word) word)
deed_spares (Replace Low number fetches) half High differ is leaves word below = low_replaced word number below
deed_spares (Replace High number fetches) half Low differ is leaves word below = high_replaced word number
deed_spares _ half other differ is leaves word below = absurd (let same : half ≡ other = cc in differ same)

-- what is so of a word and of what it becomes is so where it stands in a list
pub at_place : (P : (word left : ℕ) → Type 0) (change : ℕ → ℕ) (words : List ℕ) (e : ℕ) → P 0 0
    → P (get_or words e 0) (change (get_or words e 0)) → P (get_or words e 0) (get_or (changed_at change e words) e 0)
at_place P change [] e none some = none
at_place P change (word ∷ words) zero none some = some
at_place P change (word ∷ words) (suc e) none some = at_place P change words e none some

pub half_spares : (effect : Effect) (element : ℕ) (half other : Half) → half ≢ other → deed_part effect.deed ≡ Of half
    → kind_leaves (kind_of_deed effect.deed) ≡ true → Spares element (Of other) effect
half_spares effect element half other differ is leaves words below = elim (cases_eq effect.element element) [
  | inr apart ↦ alone_spares effect element (Of other) (λ yes. apart) words below
  | inl same ↦
      let zero_fits : 0 < 2 ^ 64 = omega arith in
      subst (λ (e : ℕ). Kept (Of other) (get_or words e 0) (get_or (words_after_effect effect words) e 0)) same
      (at_place (Kept (Of other)) (λ (word : ℕ). left_by (action_on effect.deed word) word) words effect.element
      (refl, fits_for (Of other) 0 zero_fits)
      (deed_spares effect.deed half other differ is leaves (get_or words effect.element 0)
      (subst (λ (e : ℕ). FitsFor (Of other) (get_or words e 0)) (sym same) below)))
]

pub spared_after : (effects : List Effect) (words : List ℕ) (element : ℕ) (part : Part)
    → FitsFor part (get_or words element 0) → AllByRecursion (Spares element part) effects
    → Kept part (get_or words element 0) (get_or (words_after_effects effects words) element 0)
spared_after [] words element part below all = (refl, below)
spared_after (effect ∷ effects) words element part below all =
    let one = all.0 words below in
    let rest = spared_after effects (words_after_effect effect words) element part one.1 all.1 in
    (rest.0 ∙ one.0, rest.1)

-- before a lane a part is as it was, where each earlier one spares it
pub spared_before : (log : EffectLog) (words : List ℕ) (lane element : ℕ) (part : Part)
    → FitsFor part (get_or words element 0)
    → ((earlier : ℕ) → earlier < lane → AllByRecursion (Spares element part) (effects_of log earlier))
    → Kept part (get_or words element 0) (get_or (words_after_each_lane log lane words) element 0)
spared_before log words zero element part below spares = (refl, below)
spared_before log words (suc lane) element part below spares =
    let before = spared_before log words lane element part below (λ earlier order. spares earlier (omega arith)) in
    let one = spared_after (effects_of log lane) (words_after_each_lane log lane words) element part before.1
    (spares lane (omega arith)) in
    (one.0 ∙ before.0, one.1)

-- an element of words that fit does
pub word_fits : (words : List ℕ) (element : ℕ) → AreWords words → get_or words element 0 < 2 ^ 64
word_fits [] element fit = omega arith
word_fits (word ∷ words) zero fit = fit.0
word_fits (word ∷ words) (suc element) fit = word_fits words element fit.1

-- two halves that are replaced, in either order
both_replaced : (word low high : ℕ) → with_half Low (with_half High word high) low
    ≡ with_half High (with_half Low word low) high
unfolding with_half
both_replaced word low high =
    let of_low : (low % 2 ^ 32 + 2 ^ 32 * (word / 2 ^ 32 % 2 ^ 32)) % 2 ^ 32 ≡ low % 2 ^ 32 = omega arith in
    let of_high : (word % 2 ^ 32 + 2 ^ 32 * (high % 2 ^ 32)) / 2 ^ 32 % 2 ^ 32 ≡ high % 2 ^ 32 = omega arith in
    ap (λ (n : ℕ). low % 2 ^ 32 + 2 ^ 32 * n) of_high
    ∙ sym (ap (λ (n : ℕ). n + 2 ^ 32 * (high % 2 ^ 32)) of_low)

pub deeds_exchange : (a b : Deed) (half other : Half) → half ≢ other → deed_part a ≡ Of half → deed_part b ≡ Of other
    → kind_leaves (kind_of_deed a) ≡ true → kind_leaves (kind_of_deed b) ≡ true → (word : ℕ)
    → left_by (action_on a (left_by (action_on b word) word)) (left_by (action_on b word) word)
    ≡ left_by (action_on b (left_by (action_on a word) word)) (left_by (action_on a word) word)
deeds_exchange (Replace Low n f) (Replace High m g) half other differ is other_is leaves other_leaves word =
    both_replaced word n m
deeds_exchange (Replace High n f) (Replace Low m g) half other differ is other_is leaves other_leaves word =
    sym (both_replaced word m n)
deeds_exchange _ _ half other differ is other_is leaves other_leaves word =
    absurd (let same : half ≡ other = cc in differ same)
