-- What a program does to the elements of its maps. The maps are one list of words: the elements of map 0, then
-- those of map 1, and so on.
use Rattle.std.specs.Prelude.{◌≡◌, ℕ, zero, suc, ◌+◌, ◌<◌, ◌==◌, if◌then◌else◌, List, [], ◌∷◌, length, slice_index}
use Rattle.std.specs.Prelude.{slice_set}
use Rattle.bpf_insn_types.specs.{declared.insn.{Width.TheVariants.{W64}, AluOp.{AluOp}}, Words.{alu}}
use Rattle.array_maps.specs.declared.access.{Op.{Op, TheVariants.{Add, Or, And, Xor, AddH}}, Rmw.{Rmw}, Part.{Part}}
use Rattle.array_maps.specs.declared.access.{Rmw.TheVariants.{Op as Applies, Xchg, CmpXchg}, Half.TheVariants.{Low}}
use Rattle.array_maps.specs.declared.access.Part.TheVariants.{Whole, Half as Of}
use Rattle.array_maps.specs.Halves.{half_of, with_half, halves_added}

-- what one access did at its element: the word that it saw there, the word that it left, or both; or an operator
-- and an operand, where it saw nothing
pub data Action : Type 0 where
  Read : (saw : ℕ) → Action
  Write : (left : ℕ) → Action
  ReadWrite : (saw left : ℕ) → Action
  Reduce : (op : Op) (operand : ℕ) → Action

-- an access is an element and what was done there
pub record Access : Type 0 where
  pub element : ℕ
  pub action : Action

-- all operators of reduces
abbrev pub operators : List Op
operators = Add ∷ Or ∷ And ∷ Xor ∷ AddH ∷ []

-- a word with an operand applied to it (RFC 9669, section 5.3)
unfoldable pub combined : Op → ℕ → ℕ → ℕ
combined Add word operand = alu W64 AluOp.Add word operand
combined Or word operand = alu W64 AluOp.Or word operand
combined And word operand = alu W64 AluOp.And word operand
combined Xor word operand = alu W64 AluOp.Xor word operand
combined AddH word operand = halves_added word operand

-- what a change that returns what was there leaves of a number (RFC 9669, section 5.3)
abbrev pub changed : Rmw → (old value compare : ℕ) → ℕ
changed (Applies op) old value compare = combined op old value
changed Xchg old value compare = value
changed CmpXchg old value compare = if old == compare then value else old

-- what it leaves of a word, at a part of it: at a half the lower halves of the operands count
abbrev pub exchanged : Part → Rmw → (word value compare : ℕ) → ℕ
exchanged Whole rmw word value compare = changed rmw word value compare
exchanged (Of half) rmw word value compare =
    with_half half word (changed rmw (half_of half word) (half_of Low value) (half_of Low compare))

-- what an action leaves, where a word stood
abbrev pub left_by : Action → ℕ → ℕ
left_by (Read saw) word = word
left_by (Write left) word = left
left_by (ReadWrite saw left) word = left
left_by (Reduce op operand) word = combined op word operand

-- the action saw this word, if it saw one
abbrev pub Saw : Action → ℕ → Type 0
Saw (Read saw) word = saw ≡ word
Saw (Write left) word = Unit {0}
Saw (ReadWrite saw left) word = saw ≡ word
Saw (Reduce op operand) word = Unit {0}

-- what a list of actions at one element leaves there
abbrev pub left_by_all : List Action → ℕ → ℕ
left_by_all [] word = word
left_by_all (action ∷ actions) word = left_by_all actions (left_by action word)

-- each action at one element saw what was there
abbrev pub SawEach : List Action → ℕ → Type 0
SawEach [] word = Unit {0}
SawEach (action ∷ actions) word = Saw action word × SawEach actions (left_by action word)

-- the actions at one element, in order
abbrev pub actions_at : ℕ → List Access → List Action
actions_at element [] = []
actions_at element (access ∷ accesses) =
    if access.element == element then access.action ∷ actions_at element accesses else actions_at element accesses

-- the words after an access
abbrev pub words_after : Access → List ℕ → List ℕ
words_after access words = slice_set words access.element (left_by access.action (slice_index words access.element))

-- the words after a list of accesses
abbrev pub words_after_all : List Access → List ℕ → List ℕ
words_after_all [] words = words
words_after_all (access ∷ accesses) words = words_after_all accesses (words_after access words)

-- the words after an action at each of the elements that follow on a first one, as many as are counted
abbrev pub words_after_run : (first : ℕ) → (action : ℕ → Action) → (count : ℕ) → List ℕ → List ℕ
words_after_run first action zero words = words
words_after_run first action (suc count) words =
    words_after (record { element = first + count; action = action count }) (words_after_run first action count words)

-- a list of accesses acts on each element by itself, and makes no element and loses none
pub record EachElement : Type 0 where
  pub element : (accesses : List Access) (words : List ℕ) (e : ℕ) → e < length words →
      slice_index (words_after_all accesses words) e ≡ left_by_all (actions_at e accesses) (slice_index words e)
  pub count : (accesses : List Access) (words : List ℕ) → length (words_after_all accesses words) ≡ length words
