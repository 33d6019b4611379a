-- What the lanes of a list do at an element.
use Rattle.std.proofs.Common.{◌≡◌, ℕ, suc, ◌+◌, ◌/◌, ◌^◌, ◌<◌, ◌≤◌, Bool, true, false, ◌==◌, arith}
use Rattle.std.proofs.Common.{if◌then◌else◌, inl, inr, List, [], ◌∷◌, ◌++◌, slice_index, refl, subst}
use Rattle.std.specs.{Prelude.{slice_get, Some, ◌%◌}, List.{list_all, AllByRecursion}}
use Rattle.std.proofs.lemmas.{Bool.{and_from, cases_Bool, or_cases, eqb-true, not-true}, Nat.{mod_below}}
use Rattle.array_maps.specs.declared.access.{Op.{Op, TheVariants.{Add}}}
use Rattle.array_maps.specs.{declared.access.Part.{Part}, Accesses.{Action, actions_at}}
use Rattle.bpf_insn_types.specs.declared.insn.{SimpleOp.{SimpleOp}, Width.{Width, TheVariants.{W32, W64}}}
use Rattle.bpf_insn_types.specs.Words.{word_of}
use Rattle.bpf_step_model.specs.Step.{Request, Load as Loads, store_of, update_of, request_of, map_operator}
use Rattle.bpf_step_model.specs.Step.{half_operator}
use Rattle.bpf_step_model.specs.AreaWords.{part_named}
use Rattle.loop_core_model.specs.Actions.{is_write, writes, is_plain_write, exposed, reduces_by}
use Rattle.loop_core_model.{specs.Effects.{accesses_on}, proofs.OneElement.{is_same-refl}}
use Rattle.loop_core_model.specs.Effects.{Deed, Effect, action_on, words_after_effect}
use Rattle.row_list.specs.declared.row_op.{Place.{Place}, RowOp.{RowOp, TheVariants.{Load, Store, Reduce, Fetch}}}
use Rattle.row_list.specs.Rows.{access_at, access_effects, byte_at, deed_of, effects_by, is_in, row_effects}
use Rattle.row_list.specs.Places.{place_in}
use Rattle.row_facts.specs.Sites.{bytes_in}
use Rattle.row_facts.specs.{Meetings.{leaves, ReducesBy, ReduceAlike}, Elements.{Touches, is_half, reads}}

-- what holds of all items of one list makes something hold of them, and it holds of those of another
pub all_then : {X : Type 0} {P Q : X → Type 0} (xs ys : List X) → ((x : X) → P x → Q x) → AllByRecursion P xs
    → AllByRecursion Q ys → AllByRecursion Q (xs ++ ys)
all_then [] ys f all rest = rest
all_then (x ∷ xs) ys f all rest = (f x all.0, all_then xs ys f all.1 rest)

-- the operator by which accesses of so many bytes reduce, and a site does
abbrev operator_in : (bytes : ℕ) → SimpleOp → Op
operator_in bytes op = if bytes == 8 then map_operator op else half_operator op

abbrev pub operator_of : RowOp → Op
operator_of (Reduce place op value) = operator_in (bytes_in place.width) op
operator_of _ = Add

-- what is done at an operation's place says of what kind it is
pub record IsDeed (op : RowOp) (deed : Deed) : Type 0 where
  pub reading : (on : ℕ) → is_plain_write (action_on deed on) ≡ false → reads op ≡ true
  pub leaving : (on : ℕ) → is_write (action_on deed on) ≡ true → leaves op ≡ true
  pub reducing : (bytes : ℕ) (by : SimpleOp) → ReducesBy bytes by op → (on : ℕ)
      → reduces_by (operator_in bytes by) (action_on deed on) ≡ true

pub record IsDone (op : RowOp) (values : List ℕ) (effect : Effect) : Type 0 where
  pub touches : Touches op values effect.element
  pub deed : IsDeed op effect.deed

-- a site that reduces as another does so by the operator of that one
pub alike_acts : (by at : RowOp) (deed : Deed) → IsDeed at deed → ReduceAlike by at → (on : ℕ)
    → reduces_by (operator_of by) (action_on deed on) ≡ true
alike_acts (Reduce place op value) at deed is alike on = is.reducing (bytes_in place.width) op alike on
alike_acts _ at deed is alike on = absurd alike

-- a store of a whole word doesn't read its element
store_reads : (width : Width) (byte n word on : ℕ)
    → is_plain_write (action_on (deed_of (store_of (part_named width byte) n) word) on) ≡ false → is_half width ≡ true
store_reads W64 byte n word on h = absurd (cc)
store_reads W32 byte n word on h = refl

part_reduces : (width : Width) (byte : ℕ) (op : SimpleOp) (n word on : ℕ) → reduces_by (operator_in (bytes_in width) op)
    (action_on (deed_of (update_of (part_named width byte) op n) word) on) ≡ true
part_reduces W64 byte op n word on = is_same-refl (map_operator op)
part_reduces W32 byte op n word on = elim (cases_Bool (byte % 8 == 0)) [
  | inl low ↦ rw low (is_same-refl (half_operator op))
  | inr high ↦ rw high (is_same-refl (half_operator op))
]

module _ (values words : List ℕ) where
  -- an access at an operation's place has one effect, if the lane makes it
  at_place : (op : RowOp) (place : Place) (request : Part → Request) → place_in op ≡ Some place
      → IsDeed op (deed_of (request (part_named place.width (byte_at values place)))
      (slice_index words (byte_at values place / 8)))
      → AllByRecursion (IsDone op values) (access_effects (access_at values place request) values words)
  at_place op place request is deed = elim (cases_Bool (is_in values place.mask)) [
    | inl there ↦ rw there (
      record { touches = record { place = place; is = is; there = there; at = refl }; deed = deed },
      tt,
    )
    | inr out ↦ rw out tt
  ]

  pub all_done : (op : RowOp) → AllByRecursion (IsDone op values) (row_effects op values words)
  all_done (Load place extension) = at_place _ place (λ part. Loads part extension 0) refl (record {
    reading = λ on h. refl;
    leaving = λ on h. absurd (cc);
    reducing = λ bytes by never. absurd never;
  })
  all_done (Store place value) = at_place _ place (λ part. store_of part (slice_index values value)) refl (record {
    reading = store_reads place.width (byte_at values place) (slice_index values value) _;
    leaving = λ on h. refl;
    reducing = λ bytes by never. absurd never;
  })
  all_done (Reduce place op value) = at_place _ place (λ part. update_of part op (slice_index values value)) refl
      (record {
        reading = λ on h. refl;
        leaving = λ on h. refl;
        reducing = λ bytes by alike on.
            rw (← alike.0, ← alike.1) (part_reduces place.width (byte_at values place) op (slice_index values value) _
            on);
      })
  all_done (Fetch place op value compare) =
      at_place _ place (λ part. request_of part op 0 (slice_index values value) (slice_index values compare)) refl
      (record { reading = λ on h. refl; leaving = λ on h. refl; reducing = λ bytes by never. absurd never })
  all_done _ = tt

  -- so it is of each effect of a list
  pub each_effect : (P : Effect → Type 0) (list : List RowOp) → ((k : ℕ) (op : RowOp) → slice_get list k ≡ Some op
      → (effect : Effect) → IsDone op values effect → P effect) → AllByRecursion P (effects_by list values words)
  each_effect P [] each = tt
  each_effect P (op ∷ list) each =
      all_then (row_effects op values words) (effects_by list values words) (each 0 op refl)
      (all_done op) (each_effect P list (λ k o there. each (suc k) o there))

  -- all elements are among those that a byte's number may name
  pub all_inside : (list : List RowOp) (n : ℕ) → 2 ^ 29 ≤ n
      → AllByRecursion (λ effect. effect.element < n) (effects_by list values words)
  all_inside list n room = each_effect (λ effect. effect.element < n) list (λ k op there effect done.
      let place = done.touches.place in
      let below : byte_at values place < 2 ^ 32 =
      mod_below (slice_index values place.address + word_of place.offset) (2 ^ 32) (omega arith) in
      omega (arith, below, done.touches.at, room))

  module _ (e : ℕ) (Q : Action → Type 0) where
    -- what effects do at an element, whatever they find
    pub each_action : (P : Effect → Type 0)
        → ((effect : Effect) → P effect → effect.element ≡ e → (on : ℕ) → Q (action_on effect.deed on))
        → (effects : List Effect) (now : List ℕ) → AllByRecursion P effects
        → AllByRecursion Q (actions_at e (accesses_on now effects))
    each_action P f [] now all = tt
    each_action P f (effect ∷ effects) now all =
        let rest = each_action P f effects (words_after_effect effect now) all.1 in
        elim (cases_Bool (effect.element == e)) [
          | inl here ↦ rw here
              (f effect all.0 (eqb-true effect.element e here) (slice_index now effect.element), rest)
          | inr other ↦ rw other rest
        ]

    -- so of a list's
    pub each_act : (list : List RowOp) (now : List ℕ) → ((k : ℕ) (op : RowOp) → slice_get list k ≡ Some op
        → Touches op values e → (deed : Deed) → IsDeed op deed → (on : ℕ) → Q (action_on deed on))
        → AllByRecursion Q (actions_at e (accesses_on now (effects_by list values words)))
    each_act list now each = each_action
        (λ effect. effect.element ≡ e → (on : ℕ) → Q (action_on effect.deed on)) (λ effect does. does)
        (effects_by list values words) now (each_effect _ list (λ k op there effect done here.
        each k op there (subst (Touches op values) here done.touches) effect.deed done.deed))

-- who writes an element leaves something there, who has an exposed read of it reads there, and all pass where each does
pub some_write : (W : Type 0) (actions : List Action) → AllByRecursion (λ action. is_write action ≡ true → W) actions
    → writes actions ≡ true → W
some_write W [] all h = absurd (cc)
some_write W (action ∷ actions) all h = elim (or_cases (is_write action) (writes actions) h) [
  | inl here ↦ all.0 here
  | inr rest ↦ some_write W actions all.1 rest
]

pub first_read : (R : Type 0) (actions : List Action)
    → AllByRecursion (λ action. is_plain_write action ≡ false → R) actions → exposed actions ≡ true → R
first_read R [] all h = absurd (cc)
first_read R (action ∷ actions) all h = all.0 (not-true (is_plain_write action) h)

pub all_pass : (test : Action → Bool) (actions : List Action) → AllByRecursion (λ action. test action ≡ true) actions
    → list_all test actions ≡ true
all_pass test [] all = refl
all_pass test (action ∷ actions) all =
    and_from (test action) (list_all test actions) all.0 (all_pass test actions all.1)
