-- What the lanes of a batch do on any words: each deed of a lane is at one element, and what is done there may depend on
-- the word that is there.
use Rattle.std.specs.Prelude.{◌≡◌, ℕ, zero, suc, ◌+◌, ◌*◌, Bool, true, false, List, [], ◌∷◌, length, slice_index}
use Rattle.std.specs.{Prelude.{Option, Some, None}, List.{AllByRecursion}}
use Rattle.array_maps.specs.declared.access.{Half.{Half, TheVariants.{Low, High}}, Op.{Op}, Part.{Part}}
use Rattle.array_maps.specs.{declared.access.Part.TheVariants.{Whole, Half as Of}, Halves.{part_of, with_half}}
use Rattle.array_maps.specs.Accesses.{Action, Read, Write, ReadWrite, Reduce as Reduces, Access, words_after}
use Rattle.loop_core_model.specs.declared.access.Access.{Access as Kind}
use Rattle.loop_core_model.specs.declared.access.Access.TheVariants.{Read as Reads, Write as Writes, Both, Reduce}

-- the word of an element is loaded, or a half of it; another is stored; it is loaded and another stored, as by a fetch;
-- a half of it is replaced, which a fetch loads; or an operator is applied to it
pub data Deed : Type 0 where
  Load : (part : Part) → Deed
  Store : (left : ℕ) → Deed
  Fetch : (left : ℕ) → Deed
  Replace : (half : Half) (number : ℕ) (fetches : Bool) → Deed
  Apply : (op : Op) (operand : ℕ) → Deed

-- the action that it is, by the word there
abbrev pub action_on : Deed → (word : ℕ) → Action
action_on (Load part) word = Read word
action_on (Store left) word = Write left
action_on (Fetch left) word = ReadWrite word left
action_on (Replace half number fetches) word = ReadWrite word (with_half half word number)
action_on (Apply op operand) word = Reduces op operand

-- its kind
abbrev pub kind_of_deed : Deed → Kind
kind_of_deed (Load part) = Reads
kind_of_deed (Store left) = Writes
kind_of_deed (Fetch left) = Both
kind_of_deed (Replace half number fetches) = Both
kind_of_deed (Apply op operand) = Reduce op

-- a deed at an element
pub record Effect : Type 0 where
  pub element : ℕ
  pub deed : Deed

-- the access that it is on some words, and the words after it
abbrev pub access_on : List ℕ → Effect → Access
access_on words effect = record {
  element = effect.element;
  action = action_on effect.deed (slice_index words effect.element);
}

abbrev pub words_after_effect : Effect → List ℕ → List ℕ
words_after_effect effect words = words_after (access_on words effect) words

-- the accesses of several, one after another from some words on, and the words after them
abbrev pub accesses_on : List ℕ → List Effect → List Access
accesses_on words [] = []
accesses_on words (effect ∷ effects) = access_on words effect ∷ accesses_on (words_after_effect effect words) effects

abbrev pub words_after_effects : List Effect → List ℕ → List ℕ
words_after_effects [] words = words
words_after_effects (effect ∷ effects) words = words_after_effects effects (words_after_effect effect words)

-- what lanes do: at each site each lane's effect, by its number, if it has one
abbrev pub EffectLog : Type 0
EffectLog = List (ℕ → Option Effect)

-- an effect, if there is one, and others after it
abbrev pub with_effect : Option Effect → List Effect → List Effect
with_effect None effects = effects
with_effect (Some effect) effects = effect ∷ effects

-- a lane's effects, site by site
abbrev pub effects_of : EffectLog → ℕ → List Effect
effects_of [] lane = []
effects_of (site ∷ sites) lane = with_effect (site lane) (effects_of sites lane)

-- the words after an effect, if there is one
abbrev pub words_after_any_effect : Option Effect → List ℕ → List ℕ
words_after_any_effect None words = words
words_after_any_effect (Some effect) words = words_after_effect effect words

-- the words after one site's effects of n lanes, some of which have one
abbrev pub words_after_lane_effects : (site : ℕ → Option Effect) (lanes : ℕ) → List ℕ → List ℕ
words_after_lane_effects site zero words = words
words_after_lane_effects site (suc lanes) words =
    words_after_any_effect (site lanes) (words_after_lane_effects site lanes words)

-- the words after all sites, one after another
abbrev pub words_after_site_effects : EffectLog → (lanes : ℕ) → List ℕ → List ℕ
words_after_site_effects [] lanes words = words
words_after_site_effects (site ∷ sites) lanes words =
    words_after_site_effects sites lanes (words_after_lane_effects site lanes words)

-- it loads the word: what it leads to depends on it
abbrev pub deed_loads : Deed → Bool
deed_loads (Load part) = true
deed_loads (Store left) = false
deed_loads (Fetch left) = true
deed_loads (Replace half number fetches) = fetches
deed_loads (Apply op operand) = false

-- the part of the word that it is of
abbrev pub deed_part : Deed → Part
deed_part (Load part) = part
deed_part (Store left) = Whole
deed_part (Fetch left) = Whole
deed_part (Replace half number fetches) = Of half
deed_part (Apply op operand) = Whole

-- the words after the effects of n lanes, one lane after another
abbrev pub words_after_each_lane : EffectLog → (lanes : ℕ) → List ℕ → List ℕ
words_after_each_lane log zero words = words
words_after_each_lane log (suc lanes) words =
    words_after_effects (effects_of log lanes) (words_after_each_lane log lanes words)

-- on other words the same is loaded: where it loads a half of a word, that half alone has to be the same
abbrev pub SameIfLoaded : (words now : List ℕ) → Effect → Type 0
SameIfLoaded words now effect = deed_loads effect.deed ≡ true
    → part_of (deed_part effect.deed) (slice_index now effect.element)
    ≡ part_of (deed_part effect.deed) (slice_index words effect.element)

-- so of several, on words that are as many
pub record LoadsSame (words now : List ℕ) (effects : List Effect) : Type 0 where
  pub count : length now ≡ length words
  pub loads : AllByRecursion (SameIfLoaded words now) effects

-- halves are numbered: an element's lower one has twice its number, and the upper one is the next
abbrev pub half_number : (element : ℕ) → Half → ℕ
half_number element Low = 2 * element
half_number element High = 2 * element + 1
