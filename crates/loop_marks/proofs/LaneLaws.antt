-- What lanes touch, as flags, and what planes keep.
use Rattle.std.proofs.Common.{◌≡◌, ℕ, ◌==◌, if◌then◌else◌, Bool, true, false, List, [], ◌∷◌, ◌++◌, refl, sym, ◌∙◌, ap}
use Rattle.std.proofs.{Common.{append_assoc}, lemmas.List.{append-nil}}
use Rattle.array_maps.specs.{declared.access.Half.{Half}, Accesses.{Action, Access, actions_at}}
use Rattle.loop_core_model.specs.{Flags.{Flags, flags_of, flagged, kind_of}, Effects.{kind_of_deed}}
use Rattle.loop_core_model.proofs.FlagLaws.{flags_follow_kinds}
use Rattle.lane_stamps.specs.{declared.kind.Kind.{Kind, TheVariants.{Apply}}, Sites.{deed_by}}
use Rattle.lane_stamps.specs.declared.kind.Kind.TheVariants.{Load, LoadHalf, Store, Fetch, Replace, FetchHalf, AddHalf}
use Rattle.shadow_marks.specs.{declared.planes.Planes.{Planes}, Ending.{KeepsShape}}
use Rattle.loop_marks.specs.{Touches.{flags_after, touches_of}, LaneMarks.{access_kind}}

-- the flags of actions at an element, by what is touched
pub flags_more : (done : List Action) (e : ℕ) (accesses : List Access)
    → flags_after (flags_of done) e (touches_of accesses) ≡ flags_of (done ++ actions_at e accesses)
flags_more done e [] = ap flags_of (sym (append-nil done))
flags_more done e (access ∷ accesses) = go (access.element == e) (λ before. flags_more before e accesses)
  where
    go : (here : Bool)
        → ((before : List Action) → flags_after (flags_of before) e (touches_of accesses)
        ≡ flags_of (before ++ actions_at e accesses))
        → flags_after (if here then flagged (flags_of done) (kind_of access.action) else flags_of done) e
        (touches_of accesses)
        ≡ flags_of (done ++ (if here then access.action ∷ actions_at e accesses else actions_at e accesses))
    go true others =
        ap (λ (flags : Flags). flags_after flags e (touches_of accesses))
        (sym (flags_follow_kinds.next done access.action))
        ∙ others (done ++ access.action ∷ [])
        ∙ ap flags_of (append_assoc done (access.action ∷ []) (actions_at e accesses))
    go false others = others done

-- what an effect of a kind touches
pub kinds_are : (kind : Kind) (half : Half) (value : ℕ) → access_kind kind ≡ kind_of_deed (deed_by kind half value)
kinds_are Load half value = refl
kinds_are LoadHalf half value = refl
kinds_are Store half value = refl
kinds_are Fetch half value = refl
kinds_are Replace half value = refl
kinds_are FetchHalf half value = refl
kinds_are AddHalf half value = refl
kinds_are (Apply op) half value = refl

-- one change of planes after another keeps their shape
pub shape_both : (a b c : Planes) → KeepsShape a b → KeepsShape b c → KeepsShape a c
shape_both a b c first second = record {
  whole = second.whole;
  elements = second.elements ∙ first.elements;
  test = second.test ∙ first.test;
}
