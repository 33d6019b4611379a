-- Which iterations and elements of a loop call are shown: at most 64 of each.
use Rattle.std.specs.Prelude.{ℕ, ◌+◌, ◌-◌, ◌/◌, min, max, Bool, ◌&&◌, nat_lt, nat_le, if◌then◌else◌, List, length}
use Rattle.std.specs.{Prelude.{slice_range, Option, Some, None}, List.{count_by, range_with_len}}
use Rattle.loop_core_witness.specs.declared.{choosing.Span.{Span}, focus.Focus.{Focus}}

-- where `most` of `count` begin that have an index in their middle, if that can be
abbrev pub start_around : (index count most : ℕ) → ℕ
start_around index count most = min (index - most / 2) (count - most)

-- `most` of `count` from there on, or as many as there are
abbrev pub span_around : (index count most : ℕ) → Span
span_around index count most = record {
  from = start_around index count most;
  past = start_around index count most + min most (count - start_around index count most);
}

-- the lesser of a focus' iterations and the greater one; without a focus the first
abbrev pub ends_of : Option Focus → ℕ × ℕ
ends_of None = (0, 0)
ends_of (Some at) = (min at.first at.second, max at.first at.second)

-- two of `count` iterations are too far apart for one span
abbrev pub are_apart : (low high count : ℕ) → Bool
are_apart low high count = nat_le 64 (high - low) && nat_lt high count

-- a span, and no iterations after it
abbrev pub alone : Span → Span × Span
alone span = (span, record { from = span.past; past = span.past })

-- the spans of `count` iterations that are shown: 32 around each end of a focus, if the ends are too far apart for one
-- span; or the one that has both in its middle
abbrev pub spans_between : (count : ℕ) → ℕ × ℕ → Span × Span
spans_between count (low, high) =
    if are_apart low high count then (span_around low count 32, span_around high count 32)
    else alone (span_around (low + (high - low) / 2) count 64)

abbrev pub spans_of : (count : ℕ) → Option Focus → Span × Span
spans_of count focus = spans_between count (ends_of focus)

-- a span's indices
abbrev pub indices_of : Span → List ℕ
indices_of span = range_with_len span.from (span.past - span.from)

-- how many of some elements are less than that of a focus
abbrev pub less_than : Option Focus → List ℕ → ℕ
less_than None elements = 0
less_than (Some at) elements = count_by (λ (element : ℕ). nat_lt element at.element) elements

-- those in a span of their places
abbrev pub in_span : Span → List ℕ → List ℕ
in_span span elements = slice_range elements span.from span.past

-- of elements, which rise, those that are shown: 64 with that of the focus in their middle, or as many as there are
abbrev pub shown_elements : Option Focus → List ℕ → List ℕ
shown_elements focus elements = in_span (span_around (less_than focus elements) (length elements) 64) elements
