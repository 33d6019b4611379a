-- What an iteration did at one element so far, as flags. They follow from the kinds of its actions, without a word.
use Rattle.std.specs.{Prelude.{◌≡◌, Bool, true, false, not, ◌||◌, List, [], ◌∷◌, ◌++◌}, List.{list_any}}
use Rattle.array_maps.specs.{declared.access.Op.{Op}, Accesses.{Action, Read, Write, ReadWrite, Reduce}}
use Rattle.loop_core_model.specs.Actions.{writes, exposed, is_same, reduces_by}
use Rattle.loop_core_model.specs.declared.access.Access.{Access as Kind, TheVariants.{Reduce as Reduces}}
use Rattle.loop_core_model.specs.declared.access.Access.TheVariants.{Read as Reads, Write as Writes, Both}

-- the kind of an action
abbrev pub kind_of : Action → Kind
kind_of (Read saw) = Reads
kind_of (Write left) = Writes
kind_of (ReadWrite saw left) = Both
kind_of (Reduce op operand) = Reduces op

-- a plain access, which is no reduce
abbrev pub is_plain : Action → Bool
is_plain (Read saw) = true
is_plain (Write left) = true
is_plain (ReadWrite saw left) = true
is_plain (Reduce op operand) = false

-- wrote: the iteration writes the element; looked: it has an exposed read of it; plain: it makes a plain access; by: it
-- reduces by this operator
pub record Flags : Type 0 where
  pub wrote : Bool
  pub looked : Bool
  pub plain : Bool
  pub by : Op → Bool

-- the flags of an iteration's actions
abbrev pub flags_of : List Action → Flags
flags_of actions = record {
  wrote = writes actions;
  looked = exposed actions;
  plain = list_any is_plain actions;
  by = λ op. list_any (reduces_by op) actions;
}

-- the flags of no access
abbrev pub no_flags : Flags
no_flags = record { wrote = false; looked = false; plain = false; by = λ op. false }

-- the flags after one access more, by its kind: a look counts where the iteration hasn't written yet
abbrev pub flagged : Flags → Kind → Flags
flagged flags Reads = record {
  wrote = flags.wrote;
  looked = flags.looked || not flags.wrote;
  plain = true;
  by = flags.by;
}
flagged flags Writes = record { wrote = true; looked = flags.looked; plain = true; by = flags.by }
flagged flags Both = record { wrote = true; looked = flags.looked || not flags.wrote; plain = true; by = flags.by }
flagged flags (Reduces op) = record {
  wrote = true;
  looked = flags.looked || not flags.wrote;
  plain = flags.plain;
  by = λ other. flags.by other || is_same other op;
}

-- the flags begin empty, and each action changes them by its kind alone
pub record FlagsFollowKinds : Type 0 where
  pub start : flags_of [] ≡ no_flags
  pub next : (actions : List Action) (action : Action) → flags_of (actions ++ action ∷ []) ≡ flagged (flags_of actions)
      (kind_of action)
