-- What the kind of an access says.
use Rattle.std.specs.Prelude.{Bool, true, false}
use Rattle.loop_core_model.specs.declared.access.Access.{Access as Kind, TheVariants.{Read, Write, Both, Reduce}}
use Rattle.loop_core_model.specs.Actions.{is_same}

-- accesses of this kind leave a word
abbrev pub kind_leaves : Kind → Bool
kind_leaves Read = false
kind_leaves Write = true
kind_leaves Both = true
kind_leaves (Reduce op) = true

-- both kinds are reduces, by one operator
abbrev pub by_one_operator : Kind → Kind → Bool
by_one_operator (Reduce op) (Reduce other) = is_same op other
by_one_operator _ _ = false
