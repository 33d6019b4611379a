-- The elements that lanes may access at sites, by what is known of their bytes.
use Rattle.std.specs.Prelude.{◌≡◌, ℕ, ◌/◌, ◌<◌, ◌≤◌, ◌⊎◌, List, Some, slice_get}
use Rattle.value_range.specs.Spans.{Contains}
use Rattle.row_facts.specs.{declared.site.Site.{Site}, Facts.{IsSure}, Meetings.{ReduceAlike}}
use Rattle.loop_inspector.specs.declared.reach.Span.{Span}

-- an element is in a span
pub record IsIn (span : Span) (e : ℕ) : Type 0 where
  pub from : span.first ≤ e
  pub upto : e ≤ span.last

-- all bytes of a site are of elements in a span
pub record IsSpanOf (site : Site) (span : Span) : Type 0 where
  pub each : (byte : ℕ) → Contains site.byte.range byte → IsIn span (byte / 8)

-- no byte of a site is of an element
abbrev pub Misses : Site → (e : ℕ) → Type 0
Misses site e = (byte : ℕ) → Contains site.byte.range byte → byte / 8 ≡ e → ⊥

-- no element is in two spans
abbrev pub AreApart : (one other : Span) → Type 0
AreApart one other = (e : ℕ) → IsIn one e → IsIn other e → ⊥

-- lanes, of indexes below n, name no bytes of a common element at two sites
pub record AreSitesApart (at by : Site) (n : ℕ) : Type 0 where
  pub never : (index other x y : ℕ) → index < n → other < n → IsSure at.byte index x → IsSure by.byte other y →
      x / 8 ≡ y / 8 → ⊥

-- each site reduces by the operator of one, or is apart from it
abbrev pub AreAlone : List Site → (by : Site) → (n : ℕ) → Type 0
AreAlone sites by n = (k : ℕ) (at : Site) → slice_get sites k ≡ Some at →
    ReduceAlike by.op at.op ⊎ AreSitesApart at by n
