-- Elements that are open: iterations may conflict there.
use Rattle.std.specs.Prelude.{◌≡◌, ℕ, ◌/◌, ◌<◌, ◌≤◌, ◌⊎◌, true, List, Some, length, slice_get}
use Rattle.loop_core_model.specs.Planes.{bit_of}
use Rattle.row_facts.specs.{declared.site.Site.{Site}, Facts.{IsSure}, Elements.{reads}}
use Rattle.row_facts.specs.Meetings.{leaves, ReduceAlike}
use Rattle.loop_inspector.specs.{declared.reach.Span.{Span}, Reach.{IsIn, AreAlone}}

-- an element is in one of some spans
pub record IsInSome (spans : List Span) (e : ℕ) : Type 0 where
  pub k : ℕ
  pub span : Span
  pub there : slice_get spans k ≡ Some span
  pub within : IsIn span e

-- lanes, of indexes below n, name no byte of an element at a site, if an earlier one does at another
pub record LaterMisses (at by : Site) (n e : ℕ) : Type 0 where
  pub never : (earlier later x y : ℕ) → earlier < later → later < n → IsSure at.byte later x →
      IsSure by.byte earlier y → x / 8 ≡ e → y / 8 ≡ e → ⊥

-- at an element, lanes don't read at a site what earlier ones leave at another, but where all that touch it reduce by
-- one operator
abbrev pub IsApartAt : List Site → (at by : Site) → (n e : ℕ) → Type 0
IsApartAt sites at by n e = LaterMisses at by n e ⊎ (ReduceAlike by.op at.op × AreAlone sites by n)

-- an element is open, or so it is of a site and the first others
pub record OpenAt (sites : List Site) (at : Site) (n count : ℕ) (spans : List Span) : Type 0 where
  pub each : (e k : ℕ) (by : Site) → k < count → slice_get sites k ≡ Some by → leaves by.op ≡ true →
      IsInSome spans e ⊎ IsApartAt sites at by n e

-- so of the first sites with all
pub record OpenUpto (sites : List Site) (n count : ℕ) (spans : List Span) : Type 0 where
  pub each : (j : ℕ) (at : Site) → j < count → slice_get sites j ≡ Some at → reads at.op ≡ true →
      OpenAt sites at n (length sites) spans

-- what is in spans is in others
abbrev pub AreKept : (old new : List Span) → Type 0
AreKept old new = (e : ℕ) → IsInSome old e → IsInSome new e

-- a plane has the bits of the elements, of so many, that are in spans
pub record IsPlaneOf (spans : List Span) (elements : ℕ) (plane : List ℕ) : Type 0 where
  pub few : elements ≤ 65536 → length plane ≤ 1024
  pub set : (e : ℕ) → e < elements → IsInSome spans e → bit_of plane e ≡ true
  pub only : (e : ℕ) → bit_of plane e ≡ true → IsInSome spans e × (e < elements)

-- bits after those of the elements of a span, of so many, are set
pub record SetsSpan (span : Span) (elements : ℕ) (old new : List ℕ) : Type 0 where
  pub count : length new ≡ length old
  pub bits : (e : ℕ) → bit_of new e ≡ true → bit_of old e ≡ true ⊎ (IsIn span e × (e < elements))
  pub kept : (e : ℕ) → bit_of old e ≡ true → bit_of new e ≡ true
  pub set : (e : ℕ) → e < elements → IsIn span e → bit_of new e ≡ true
