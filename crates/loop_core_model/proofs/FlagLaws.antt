-- Each action changes an iteration's flags by its kind alone.
use Rattle.std.proofs.Common.{◌≡◌, not, ◌&&◌, ◌||◌, List, [], ◌∷◌, ◌++◌, refl}
use Rattle.std.{proofs.lemmas.List.Folds.{list_any-append}}
use Rattle.std.proofs.Math.Bool.{or-true, or-false, and-true, and-false}
use Rattle.array_maps.specs.{declared.access.Op.{Op}, Accesses.{Action, Read, Reduce}}
use Rattle.loop_core_model.specs.Actions.{writes, is_plain_write, exposed}
use Rattle.loop_core_model.specs.Flags.{kind_of, Flags, flags_of, flagged, FlagsFollowKinds}

-- flags that agree are the same
pub record FlagsAgree (a b : Flags) : Type 0 where
  pub wrote : a.wrote ≡ b.wrote
  pub looked : a.looked ≡ b.looked
  pub plain : a.plain ≡ b.plain
  pub by : (op : Op) → a.by op ≡ b.by op

pub same_flags : (a b : Flags) → FlagsAgree a b → a ≡ b
same_flags a b h = λ i. record { wrote = h.wrote i; looked = h.looked i; plain = h.plain i; by = λ op. h.by op i }

-- an iteration that did something wrote or looked; so a look counts where it hasn't written yet
looked_more : (actions : List Action) (action : Action) →
    exposed (actions ++ action ∷ []) ≡ (exposed actions || (not (writes actions) && not (is_plain_write action)))
looked_more [] action = refl
looked_more (Read saw ∷ actions) action = refl
looked_more (_ ∷ actions) action = refl

-- tests over one action more
ruleset one_more = (list_any-append, looked_more, or-true, or-false, and-true, and-false)

flags_next : (actions : List Action) (action : Action) → flags_of (actions ++ action ∷ []) ≡ flagged (flags_of actions)
    (kind_of action)
flags_next actions (Reduce op operand) = same_flags _ _ (record {
  wrote = simp one_more;
  looked = simp one_more;
  plain = simp one_more;
  by = λ other. simp one_more;
})
flags_next actions action = same_flags _ _ (record {
  wrote = simp one_more;
  looked = simp one_more;
  plain = simp one_more;
  by = λ op. simp one_more;
})

pub flags_follow_kinds : FlagsFollowKinds
flags_follow_kinds = record { start = refl; next = flags_next }
