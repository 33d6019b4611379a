-- The law of what makes a span: each is one, and contains what it is made of.
use Rattle.std.specs.Prelude.{◌≡◌, ℕ, ◌%◌, ◌^◌, ◌<◌, ◌≤◌}
use Rattle.bpf_insn_types.specs.{declared.insn.Width.{Width}, Words.{modulus}}
use Rattle.value_range.specs.Spans.{Span, IsSpan, Contains, exact, top, norm, join}

-- norm wants a multiple between its bounds, here x
pub record SpanLaw : Type 0 where
  pub exact_is_span : (n : ℕ) → n < 2 ^ 64 → IsSpan (exact n)
  pub exact_contains : (n : ℕ) → Contains (exact n) n
  pub top_is_span : (width : Width) → IsSpan (top width)
  pub top_contains : (width : Width) (x : ℕ) → x < modulus width → Contains (top width) x
  pub norm_is_span : (lo hi zeros x : ℕ) → zeros ≤ 64 → hi < 2 ^ 64 → lo ≤ x → x ≤ hi → x % 2 ^ zeros ≡ 0
      → IsSpan (norm lo hi zeros)
  pub norm_contains : (lo hi zeros x : ℕ) → lo ≤ x → x ≤ hi → x % 2 ^ zeros ≡ 0 → Contains (norm lo hi zeros) x
  pub join_is_span : (a b : Span) → IsSpan a → IsSpan b → IsSpan (join a b)
  pub join_contains_first : (a b : Span) (x : ℕ) → Contains a x → Contains (join a b) x
  pub join_contains_second : (a b : Span) (y : ℕ) → Contains b y → Contains (join a b) y
