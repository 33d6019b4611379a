-- What the accesses of a lane do, whatever they find.
use Rattle.std.proofs.Common.{◌≡◌, ℕ, suc, true, List, [], ◌∷◌, ◌++◌, slice_index, refl, ap}
use Rattle.std.specs.Prelude.{◌/◌, slice_get, Option, Some, None}
use Rattle.std.proofs.{Common.{inl, inr}, lemmas.Bool.{cases_Bool}}
use Rattle.array_maps.specs.Accesses.{Access, Action}
use Rattle.array_maps.specs.declared.access.Part.{Part, TheVariants.{Whole, Half as Of}}
use Rattle.bpf_insn_types.specs.declared.insn.SimpleOp.{SimpleOp}
use Rattle.bpf_step_model.specs.{Step.{Request, store_of, update_of}, AreaWords.{part_named}, Run.{action_of}}
use Rattle.loop_core_model.specs.Effects.{accesses_on, action_on}
use Rattle.row_list.specs.declared.row_op.RowOp.{RowOp, TheVariants.{Load, Store, Reduce, Fetch}}
use Rattle.row_list.specs.Rows.{RowAccess, access_effects, byte_at, deed_of, effects_by, is_in, row_access, row_effects}
use Rattle.row_list.specs.{Lanes.{accesses_of, row_accesses, run_accesses}, Places.{is_access}}
use Rattle.row_list.proofs.EffectLaws.{accesses_both}
use Rattle.row_facts.specs.SiteKinds.{HasSite}

-- an access of a site acts as its deed, whatever it finds
abbrev ActsAlike : Request → Type 0
ActsAlike request = (word on : ℕ) → action_of request on ≡ action_on (deed_of request word) on

abbrev AnyActsAlike : Option RowAccess → Type 0
AnyActsAlike None = Unit {0}
AnyActsAlike (Some access) = ActsAlike access.request

any_alike : (o : Option RowAccess) (values words now : List ℕ) → AnyActsAlike o
    → accesses_of o values now ≡ accesses_on now (access_effects o values words)
any_alike None values words now acts = refl
any_alike (Some access) values words now acts = elim (cases_Bool (is_in values access.mask)) [
  | inl there ↦ rw there (ap (λ (action : Action). record { element = access.byte / 8; action = action } ∷ [])
      (acts (slice_index words (access.byte / 8)) (slice_index now (access.byte / 8))))
  | inr out ↦ rw out refl
]

stores_alike : (n : ℕ) (part : Part) → ActsAlike (store_of part n)
stores_alike n Whole word on = refl
stores_alike n (Of half) word on = refl

updates_alike : (op : SimpleOp) (n : ℕ) (part : Part) → ActsAlike (update_of part op n)
updates_alike op n Whole word on = refl
updates_alike op n (Of half) word on = refl

-- an operation that is an access has a kind
abbrev pub KindIfAccess : RowOp → Type 0
KindIfAccess op = is_access op ≡ true → HasSite op

kind_alike : (op : RowOp) → KindIfAccess op → (values : List ℕ) → AnyActsAlike (row_access op values)
kind_alike (Load place extension) has values = λ word on. refl
kind_alike (Store place value) has values =
    stores_alike (slice_index values value) (part_named place.width (byte_at values place))
kind_alike (Reduce place op value) has values =
    updates_alike op (slice_index values value) (part_named place.width (byte_at values place))
kind_alike (Fetch place op value compare) has values = absurd (has refl)
kind_alike _ has values = tt

pub acts_alike : (op : RowOp) → KindIfAccess op → (values words now : List ℕ)
    → row_accesses op values now ≡ accesses_on now (row_effects op values words)
acts_alike op has values words now = any_alike (row_access op values) values words now (kind_alike op has values)

-- so do all those of a list
pub run_acts : (list : List RowOp) → ((k : ℕ) (op : RowOp) → slice_get list k ≡ Some op → KindIfAccess op)
    → (values words now : List ℕ) → run_accesses list values now ≡ accesses_on now (effects_by list values words)
run_acts [] has values words now = refl
run_acts (op ∷ list) has values words now =
    rw (acts_alike op (has 0 op refl) values words now, accesses_both now (row_effects op values words) _)
    (ap (λ (rest : List Access). accesses_on now (row_effects op values words) ++ rest)
    (run_acts list (λ k o there. has (suc k) o there) values words _))
