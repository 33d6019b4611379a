-- Slices of lists: what says where iterations access open elements, and what they return.
use Rattle.std.specs.Prelude.{◌≡◌, ℕ, ◌⊎◌, Bool, true, List, Some, length, slice_get, take}
use Rattle.std.specs.List.{AllByRecursion}
use Rattle.row_list.specs.declared.row_op.RowOp.{RowOp, TheVariants.{Number, Load, Store, Reduce}}
use Rattle.row_list.specs.Places.{is_access, taken_by}
use Rattle.row_facts.specs.{declared.{fact.Fact.{Fact}, site.Site.{Site}}, Facts.{AreFacts}, Lists.{AreListSites}}
use Rattle.row_facts.specs.{Meetings.{LoadsNoneOwn}, Sites.{AreSites, sites_of}}
use Rattle.loop_inspector.specs.declared.{reach.Span.{Span}, slice.Slice.{Slice}}
use Rattle.loop_inspector.specs.{Reach.{Misses}, Open.{IsInSome}}

-- a value is needed
abbrev pub IsNeeded : List Bool → (k : ℕ) → Type 0
IsNeeded needed k = slice_get needed k ≡ Some true

-- a store or a reduction of another number at the same place
abbrev pub with_number : RowOp → (number : ℕ) → RowOp
with_number (Store place value) number = Store place number
with_number (Reduce place op value) number = Reduce place op number
with_number op number = op

-- an operation is an access, and what says where it is made is needed
abbrev pub IsChangeAt : List Bool → RowOp → Type 0
IsChangeAt needed (Load place extension) = IsNeeded needed place.mask × IsNeeded needed place.address
IsChangeAt needed (Store place value) = IsNeeded needed place.mask × IsNeeded needed place.address
IsChangeAt needed (Reduce place op value) = IsNeeded needed place.mask × IsNeeded needed place.address
IsChangeAt needed op = ⊥

-- no byte of a site is of an open element
abbrev pub AvoidsOpen : List Span → Site → Type 0
AvoidsOpen spans site = (e : ℕ) → IsInSome spans e → Misses site e

-- an operation is an access at a site that avoids open elements
pub record IsClosed (sites : List Site) (spans : List Span) (op : RowOp) : Type 0 where
  pub k : ℕ
  pub site : Site
  pub there : slice_get sites k ≡ Some site
  pub same : site.op ≡ op
  pub avoids : AvoidsOpen spans site

-- what a slice has for an operation: itself, where its value is needed; else the access, with any number for what it
-- leaves; and nothing where it is no access, or a closed one
pub record IsWhole (needed : List Bool) (op cut : RowOp) : Type 0 where
  pub same : cut ≡ op
  pub takes : AllByRecursion (IsNeeded needed) (taken_by op)

pub record IsChange (needed : List Bool) (k number : ℕ) (op cut : RowOp) : Type 0 where
  pub same : cut ≡ with_number op number
  pub change : IsChangeAt needed op
  pub unneeded : IsNeeded needed k → ⊥

pub record IsNothing (sites : List Site) (spans : List Span) (needed : List Bool) (k : ℕ) (op cut : RowOp) : Type 0 where
  pub same : cut ≡ Number 0
  pub unneeded : IsNeeded needed k → ⊥
  pub closed : is_access op ≡ true → IsClosed sites spans op

abbrev pub IsCut : List Site → List Span → List Bool → (k number : ℕ) → (op cut : RowOp) → Type 0
IsCut sites spans needed k number op cut =
    IsWhole needed op cut ⊎ (IsChange needed k number op cut ⊎ IsNothing sites spans needed k op cut)

-- flags say which operations may access an open element
abbrev pub AreOpens : List Site → List Span → List RowOp → List Bool → Type 0
AreOpens sites spans ops opens = (k : ℕ) (op : RowOp) → slice_get ops k ≡ Some op → is_access op ≡ true
    → slice_get opens k ≡ Some true ⊎ IsClosed sites spans op

-- operations are those of a list, each cut
pub record AreCuts (sites : List Site) (spans : List Span) (needed : List Bool) (number : ℕ) (list cuts : List RowOp)
    : Type 0 where
  pub count : length cuts ≡ length list
  pub each : (k : ℕ) (op cut : RowOp) → slice_get list k ≡ Some op → slice_get cuts k ≡ Some cut →
      IsCut sites spans needed k number op cut

-- no lane loads what it left itself, at an access whose value is needed
abbrev pub NeedsNoOwn : List Site → List RowOp → List Bool → Type 0
NeedsNoOwn sites list needed = (facts : List Fact) → AreFacts list facts → AreSites list facts list sites
    → (k : ℕ) (op : RowOp) → slice_get list k ≡ Some op → is_access op ≡ true → IsNeeded needed k
    → LoadsNoneOwn list (length (sites_of (take k list)))

-- a slice of a list for open elements: its operations are cut, and the result is needed
pub record IsSlice (sites : List Site) (spans : List Span) (list : List RowOp) (result : ℕ) (slice : Slice) : Type 0 where
  pub needed : List Bool
  pub result_needed : IsNeeded needed result
  pub own : NeedsNoOwn sites list needed
  pub cuts : AreCuts sites spans needed result list slice.list.list.items
  pub result_is : slice.list.result ≡ result
  pub listed : AreListSites slice.list.list.items slice.sites
