-- Marks of the lanes of a batch, which are iterations from an index on.
use Rattle.std.specs.{Prelude.{◌≡◌, ℕ, ◌+◌, ◌<◌, List, map}, List.{filter, range_with_len}}
use Rattle.array_maps.specs.{declared.access.Op.TheVariants.{AddH}, Accesses.{Access}}
use Rattle.loop_core_model.specs.declared.access.Access.{Access as AccessKind, TheVariants.{Read, Write, Both, Reduce}}
use Rattle.loop_core_model.specs.{Effects.{EffectLog, effects_of}, Planes.{elements_in_plane}}
use Rattle.loop_core_model.specs.Marks.{Visit, marks_of, marked_conflict}
use Rattle.lane_stamps.specs.declared.kind.Kind.{Kind, TheVariants.{Apply}}
use Rattle.lane_stamps.specs.declared.kind.Kind.TheVariants.{Load, LoadHalf, Store, Fetch, Replace, FetchHalf, AddHalf}
use Rattle.shadow_marks.specs.{declared.planes.Planes.{Planes}, Standing.{StandFor, test_of}}
use Rattle.loop_marks.specs.{Touches.{Touch, touch_by, touches_of}, Visits.{visits_below}}

-- what is done at a site of a kind, as far as marks go: where a half is replaced its word is read and written
abbrev pub access_kind : Kind → AccessKind
access_kind Load = Read
access_kind LoadHalf = Read
access_kind Store = Write
access_kind Fetch = Both
access_kind Replace = Both
access_kind FetchHalf = Both
access_kind AddHalf = Reduce AddH
access_kind (Apply op) = Reduce op

-- what a lane touches
abbrev pub lane_touches : EffectLog → (lane : ℕ) → List Touch
lane_touches log lane = map touch_by (effects_of log lane)

-- iterations from an index on touch what the lanes do
abbrev pub LanesTouch : EffectLog → (index lanes : ℕ) → (made : ℕ → List Access) → Type 0
LanesTouch log index lanes made = (lane : ℕ) → lane < lanes → touches_of (made (index + lane)) ≡ lane_touches log lane

-- planes that have the marks of the iterations below an index get those of the lanes too
abbrev pub LanesMarked : EffectLog → (index lanes : ℕ) → (old new : Planes) → Type 0
LanesMarked log index lanes old new = (made : ℕ → List Access) → LanesTouch log index lanes made →
    StandFor old (visits_below made index) → StandFor new (visits_below made (index + lanes))

-- the bits of a plane are those of the elements that conflict by the marks that planes have, of whichever iterations
abbrev pub AreConflicts : Planes → (plane : List ℕ) → Type 0
AreConflicts planes plane = (visits : ℕ → List Visit) → StandFor planes visits → elements_in_plane plane
    ≡ filter (λ e. marked_conflict (test_of planes.tested) (marks_of (visits e))) (range_with_len 0 planes.elements)
