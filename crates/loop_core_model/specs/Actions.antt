-- What an iteration did at one element. It is the list of its actions there, in order.
use Rattle.std.specs.Prelude.{ℕ, Bool, true, false, not, List, [], ◌∷◌, ◌++◌, Option, Some, None, if◌then◌else◌}
use Rattle.std.specs.List.{list_any, list_all, filter_map}
use Rattle.array_maps.specs.declared.access.Op.{Op, TheVariants.{Add, Or, And, Xor, AddH}}
use Rattle.array_maps.specs.Accesses.{Action, Read, Write, ReadWrite, Reduce}

-- an action that leaves a word: a plain write or a reduce
abbrev pub is_write : Action → Bool
is_write (Read saw) = false
is_write (Write left) = true
is_write (ReadWrite saw left) = true
is_write (Reduce op operand) = true

-- the iteration writes the element
abbrev pub writes : List Action → Bool
writes actions = list_any is_write actions

-- an action that neither reads nor reduces
abbrev pub is_plain_write : Action → Bool
is_plain_write (Read saw) = false
is_plain_write (Write left) = true
is_plain_write (ReadWrite saw left) = false
is_plain_write (Reduce op operand) = false

-- the iteration has an exposed read of the element: it reads or reduces it before it wrote or reduced it itself, which
-- is to say that its first action there isn't a plain write
abbrev pub exposed : List Action → Bool
exposed [] = false
exposed (action ∷ actions) = not (is_plain_write action)

-- one and the same operator
abbrev pub is_same : Op → Op → Bool
is_same Add Add = true
is_same Or Or = true
is_same And And = true
is_same Xor Xor = true
is_same AddH AddH = true
is_same _ _ = false

-- a reduce by this operator
abbrev pub reduces_by : Op → Action → Bool
reduces_by op (Read saw) = false
reduces_by op (Write left) = false
reduces_by op (ReadWrite saw left) = false
reduces_by op (Reduce other operand) = is_same op other

-- the actions of several iterations, one iteration after the other
abbrev pub joined {ℓ} : {A : Type ℓ} → List (List A) → List A
joined [] = []
joined (xs ∷ rest) = xs ++ joined rest

-- an element is reduction-only where it has actions and each is a reduce, all by one operator: this one
abbrev pub only_operator : List Action → Option Op
only_operator [] = None
only_operator (Read saw ∷ actions) = None
only_operator (Write left ∷ actions) = None
only_operator (ReadWrite saw left ∷ actions) = None
only_operator (Reduce op operand ∷ actions) = if list_all (reduces_by op) actions then Some op else None

-- the operand of a reduce
abbrev pub operand_of : Action → Option ℕ
operand_of (Read saw) = None
operand_of (Write left) = None
operand_of (ReadWrite saw left) = None
operand_of (Reduce op operand) = Some operand

-- the operands of reduces, in order
abbrev pub operands : List Action → List ℕ
operands actions = filter_map operand_of actions
