-- What is true of everything that is known: ranges are spans, and there are eleven registers and 512 bytes.
use Rattle.std.specs.{Prelude.{◌≡◌, Bool, List, length, Option, Some, None}, List.{AllByRecursion}}
use Rattle.value_range.specs.Spans.{IsSpan}
use Rattle.bpf_verify_model.specs.declared.{abstract_value.AbstractValue.{AbstractValue}, state.State.{State}}
use Rattle.bpf_verify_model.specs.declared.abstract_value.AbstractValue.TheVariants.{Number, Area, AreaOrNull}

-- the range of a value, if it has one, is a span
abbrev pub HasSpan : AbstractValue → Type 0
HasSpan (Number range) = IsSpan range
HasSpan (Area map range) = IsSpan range
HasSpan (AreaOrNull map range) = IsSpan range
HasSpan _ = Unit {0}

abbrev pub HasCallerCount : Option (List Bool) → Type 0
HasCallerCount None = Unit {0}
HasCallerCount (Some marks) = length marks ≡ 512

pub record IsWellFormedState (state : State) : Type 0 where
  pub count : length state.registers ≡ 11
  pub spans : AllByRecursion HasSpan state.registers
  pub own : length state.own ≡ 512
  pub caller : HasCallerCount state.caller

-- the same where something is known
abbrev pub IfReachedWellFormed : Option State → Type 0
IfReachedWellFormed None = Unit {0}
IfReachedWellFormed (Some state) = IsWellFormedState state
