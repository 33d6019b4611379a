-- The join of two abstract states contains a machine that one of them contains.
use Rattle.bpf_verify_sound.proofs.Tests.{if-either}
use Rattle.std.proofs.Common.{◌≡◌, ℕ, Bool, true, false, ◌&&◌, List, [], ◌∷◌, Option, Some, None, subst, arith}
use Rattle.std.{specs.Prelude.{◌==◌, if◌then◌else◌}, proofs.lemmas.Bool.Decides.{nat_tests}}
use Rattle.value_range.{specs.Spans.{Span, Contains, join}, proofs.SpanLaws.{join-first, join-second}}
use Rattle.bpf_verify_model.specs.{Written.{joined_written}, declared.abstract_value.AbstractValue.{AbstractValue}}
use Rattle.bpf_verify_model.specs.declared.state.State.{State}
use Rattle.bpf_verify_model.specs.States.{joined_values, joined_registers, joined_callers, joined_states}
use Rattle.bpf_verify_model.specs.declared.abstract_value.AbstractValue.TheVariants as known
use Rattle.bpf_step_model.specs.State.{Value, Word, Area, Bytes, Machine}
use Rattle.bpf_verify_sound.specs.Containment.{ContainsValue, ContainEach, IsWritten, AreWritten, AreWrittenByCaller}
use Rattle.bpf_verify_sound.specs.Containment.{Contained}

-- a wider range
number-wider : (a b : Span) (v : Value) → ((n : ℕ) → Contains a n → Contains b n) → ContainsValue (known.Number a) v
    → ContainsValue (known.Number b) v
number-wider a b (Word n) wider c = wider n c
number-wider a b v wider c = c

area-wider : (m : ℕ) (a b : Span) (v : Value) → ((n : ℕ) → Contains a n → Contains b n)
    → ContainsValue (known.Area m a) v → ContainsValue (known.Area m b) v
area-wider m a b (Area n o) wider c = (c.0, wider o c.1)
area-wider m a b v wider c = c

null-wider : (m : ℕ) (a b : Span) (v : Value) → ((n : ℕ) → Contains a n → Contains b n)
    → ContainsValue (known.AreaOrNull m a) v → ContainsValue (known.AreaOrNull m b) v
null-wider m a b (Area n o) wider c = (c.0, wider o c.1)
null-wider m a b v wider c = c

-- an address may be one that may be null
area-null : (m : ℕ) (a : Span) (v : Value) → ContainsValue (known.Area m a) v → ContainsValue (known.AreaOrNull m a) v
area-null m a (Word n) c = absurd c
area-null m a v c = c

-- what is kept only where two numbers are the same, the other one on the right and on the left
both-kept : (m n : ℕ) (right left : ℕ → AbstractValue) (v : Value) → ContainsValue (right m) v
    → ContainsValue (left m) v
    → ContainsValue (if m == n then right m else known.Unwritten) v
    × ContainsValue (if n == m then left n else known.Unwritten) v
both-kept m n right left v c d = (
  if-either (λ (x : AbstractValue). ContainsValue x v) (m == n) (λ e. c) (λ e. tt),
  if-either (λ (x : AbstractValue). ContainsValue x v) (n == m) (λ e.
      let same : m ≡ n = grind (arith, nat_tests) in
      subst (λ (k : ℕ). ContainsValue (left k) v) same d) (λ e. tt),
)

module _ (v : Value) where
  either-area : (m n : ℕ) (a b : Span) → ContainsValue (known.AreaOrNull m a) v
      → ContainsValue (if m == n then known.AreaOrNull m (join a b) else known.Unwritten) v
      × ContainsValue (if n == m then known.AreaOrNull n (join b a) else known.Unwritten) v
  either-area m n a b c = both-kept m n (λ k. known.AreaOrNull k (join a b)) (λ k. known.AreaOrNull k (join b a)) v
      (null-wider m a (join a b) v (join-first a b) c) (null-wider m a (join b a) v (join-second b a) c)

  -- of a value's two, on the left and on the right
  either-value : (x y : AbstractValue) → ContainsValue x v
      → ContainsValue (joined_values x y) v × ContainsValue (joined_values y x) v
  either-value known.Unwritten known.Unwritten c = (tt, tt)
  either-value (known.Number a) (known.Number b) c =
      (number-wider a (join a b) v (join-first a b) c, number-wider a (join b a) v (join-second b a) c)
  either-value (known.Frame p) (known.Frame q) c = both-kept p q known.Frame known.Frame v c c
  either-value (known.Ctx p) (known.Ctx q) c = both-kept p q known.Ctx known.Ctx v c c
  either-value (known.Map m) (known.Map n) c = both-kept m n known.Map known.Map v c c
  either-value (known.Code s) (known.Code t) c = both-kept s t known.Code known.Code v c c
  either-value (known.Area m a) (known.Area n b) c =
      both-kept m n (λ k. known.Area k (join a b)) (λ k. known.Area k (join b a)) v
      (area-wider m a (join a b) v (join-first a b) c) (area-wider m a (join b a) v (join-second b a) c)
  either-value (known.Area m a) (known.AreaOrNull n b) c = either-area m n a b (area-null m a v c)
  either-value (known.AreaOrNull m a) (known.Area n b) c = either-area m n a b c
  either-value (known.AreaOrNull m a) (known.AreaOrNull n b) c = either-area m n a b c
  either-value _ _ c = (tt, tt)

-- of each register
registers-either : (xs ys : List AbstractValue) (vs : List Value) → ContainEach xs vs
    → ContainEach (joined_registers xs ys) vs × ContainEach (joined_registers ys xs) vs
registers-either (x ∷ xs) (y ∷ ys) [] c = (c, c)
registers-either (x ∷ xs) (y ∷ ys) (v ∷ vs) c =
    let here = either-value v x y c.0 in
    let rest = registers-either xs ys vs c.1 in
    ((here.0, rest.0), (here.1, rest.1))
registers-either [] [] vs c = (tt, tt)
registers-either xs ys vs c = (tt, tt)

-- of each byte
byte-either : (x y : Bool) (b : Option ℕ) → IsWritten x b → IsWritten (x && y) b × IsWritten (y && x) b
byte-either true true b c = (c, c)
byte-either false true b c = (tt, tt)
byte-either x y b c = (tt, tt)

written-either : (xs ys : List Bool) (bytes : Bytes) → AreWritten xs bytes
    → AreWritten (joined_written xs ys) bytes × AreWritten (joined_written ys xs) bytes
written-either [] [] bytes c = (tt, tt)
written-either (x ∷ xs) (y ∷ ys) [] c = (c, c)
written-either (x ∷ xs) (y ∷ ys) (b ∷ bytes) c =
    let here = byte-either x y b c.0 in
    let rest = written-either xs ys bytes c.1 in
    ((here.0, rest.0), (here.1, rest.1))
written-either xs ys bytes c = (tt, tt)

callers-either : (x y : Option (List Bool)) (caller : Option Bytes) → AreWrittenByCaller x caller
    → AreWrittenByCaller (joined_callers x y) caller × AreWrittenByCaller (joined_callers y x) caller
callers-either None None caller c = (tt, tt)
callers-either (Some xs) (Some ys) None c = (c, c)
callers-either (Some xs) (Some ys) (Some bytes) c = written-either xs ys bytes c
callers-either x y caller c = (tt, tt)

-- of a machine
pub states-first : (a b : State) (m : Machine) → Contained a m → Contained (joined_states a b) m
unfolding joined_states
states-first a b m c = record {
  registers = (registers-either a.registers b.registers m.registers c.registers).0;
  own = (written-either a.own b.own m.frame c.own).0;
  caller = (callers-either a.caller b.caller m.caller c.caller).0;
}

pub states-second : (a b : State) (m : Machine) → Contained b m → Contained (joined_states a b) m
unfolding joined_states
states-second a b m c = record {
  registers = (registers-either b.registers a.registers m.registers c.registers).1;
  own = (written-either b.own a.own m.frame c.own).1;
  caller = (callers-either b.caller a.caller m.caller c.caller).1;
}
