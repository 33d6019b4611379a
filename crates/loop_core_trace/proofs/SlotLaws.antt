-- The slots at an element after one access more.
use Rattle.std.proofs.Common.{◌≡◌, ℕ, Bool, true, false, ◌||◌, List, [], ◌∷◌, ◌++◌, Option, Some, None, refl, ap}
use Rattle.std.{proofs.{Common.{◌∙◌, eqb-true}, Math.Bool.{or-false}, lemmas.{Bool.{not-true}, List.{append-nil}}}}
use Rattle.std.specs.{Prelude.{◌==◌, not, if◌then◌else◌}, Bool.{then_some}, Option.{option_or}}
use Rattle.std.proofs.lemmas.List.Folds.{list_any-append}
use Rattle.array_maps.specs.Accesses.{Action, Read, Write, ReadWrite, Reduce, Access, actions_at}
use Rattle.bpf_insn_types.specs.Program.{Program}
use Rattle.bpf_step_model.specs.State.{LoopCall}
use Rattle.loop_core_model.{specs.Actions.{is_write, writes, is_plain_write, exposed}, proofs.Turns.{actions_at-append}}
use Rattle.loop_core_trace.specs.{declared.slots.Slots.{Slots}, Operators.{operator_of}}
use Rattle.loop_core_trace.specs.Touches.{no_slots, exposed_read_after, slots_after, slots_here}
use Rattle.loop_core_trace.specs.{Places.{AccessesAt}, Traced.{WriteIs, ReadIs, AreSlots}}
use Rattle.loop_core_trace.proofs.{TouchLaws.{seen_as}, OperatorLaws.{reduce_next, other_next, other_same}}

-- with no write and no exposed read there is no action
none_there : (xs : List Action) → writes xs ≡ false → exposed xs ≡ false → xs ≡ []
none_there [] w e = refl
none_there (Read saw ∷ xs) w e = absurd cc
none_there (Write left ∷ xs) w e = absurd cc
none_there (ReadWrite saw left ∷ xs) w e = absurd cc
none_there (Reduce op operand ∷ xs) w e = absurd cc

-- where a test holds that fails for none, there is an action
some_there : (test : List Action → Bool) (xs : List Action) → test [] ≡ false → test xs ≡ true → xs ≡ [] → ⊥
some_there test xs fails holds none = cc

exposed_last : (xs : List Action) (a : Action) → (xs ≡ [] → ⊥) → exposed (xs ++ a ∷ []) ≡ exposed xs
exposed_last [] a some = absurd (some refl)
exposed_last (x ∷ xs) a some = refl

-- the actions at an element
at_last : (e : ℕ) (xs : List Access) (access : Access) (here : Bool) → (access.element == e) ≡ here →
    actions_at e (xs ++ access ∷ []) ≡ actions_at e xs ++ (if here then access.action ∷ [] else [])
at_last e xs access here is =
    actions_at-append e xs (access ∷ []) ∙ ap (λ (b : Bool). actions_at e xs ++ (if b then access.action ∷ [] else []))
    is

module _ (program : Program) (call : LoopCall) (index : ℕ) (words : List ℕ) (element : ℕ) where
  pub no_slots_yet : AreSlots program call index words element [] no_slots
  no_slots_yet = record { write = refl; read = refl; reduce = tt; other = refl }

  -- where the same test holds of the actions, what is read stays
  read_kept : (before after : List Access) → exposed (actions_at element after) ≡ exposed (actions_at element before)
      → (old : Option ℕ) → ReadIs program call index words element before old
      → ReadIs program call index words element after old
  read_kept before after same None was = same ∙ was
  read_kept before after same (Some first) was = (same ∙ was.0, was.1)

  module _ (before : List Access) (access : Access) (slot : ℕ) (made : AccessesAt program call index words slot before
      access) (here : access.element ≡ element)
      (now : actions_at element (before ++ access ∷ []) ≡ actions_at element before ++ access.action ∷ []) where
    wrote : (did : Bool) → writes (actions_at element before) ≡ did
        → writes (actions_at element (before ++ access ∷ [])) ≡ (did || is_write access.action)
    wrote did was =
        ap writes now ∙ list_any-append is_write (actions_at element before) (access.action ∷ [])
        ∙ rw (was, or-false (is_write access.action)) refl

    written : (may : Bool) → is_write access.action ≡ may → writes (actions_at element before) ≡ false →
        WriteIs program call index words element (before ++ access ∷ []) (then_some may slot)
    written true is nothing = (
      wrote false nothing ∙ is,
      record { before = before; access = access; made = made; here = here; writing = is; first = nothing },
    )
    written false is nothing = wrote false nothing ∙ is

    write_next : (old : Option ℕ) → WriteIs program call index words element before old →
        WriteIs program call index words element (before ++ access ∷ [])
        (option_or old (then_some (is_write access.action) slot))
    write_next None was = written (is_write access.action) refl was
    write_next (Some first) was = (wrote true was.0, was.1)

    seen : (may : Bool) → not (is_plain_write access.action) ≡ may → actions_at element before ≡ [] →
        ReadIs program call index words element (before ++ access ∷ []) (then_some may slot)
    seen true is nothing = (
      ap exposed (now ∙ ap (λ (xs : List Action). xs ++ access.action ∷ []) nothing) ∙ is,
      record {
        before = before;
        access = access;
        made = made;
        here = here;
        looking = not-true (is_plain_write access.action) is;
        first = nothing;
      },
    )
    seen false is nothing = ap exposed (now ∙ ap (λ (xs : List Action). xs ++ access.action ∷ []) nothing) ∙ is

    stays : (actions_at element before ≡ [] → ⊥) → (old : Option ℕ) → ReadIs program call index words element before old
        → ReadIs program call index words element (before ++ access ∷ []) old
    stays some = read_kept before (before ++ access ∷ [])
        (ap exposed now ∙ exposed_last (actions_at element before) access.action some)

    read_next : (write read : Option ℕ) → WriteIs program call index words element before write →
        ReadIs program call index words element before read → ReadIs program call index words element (before ++ access
        ∷ []) (exposed_read_after write read (seen_as access.element access.action) slot)
    read_next None None wrote_none was =
        seen (not (is_plain_write access.action)) refl (none_there (actions_at element before) wrote_none was)
    read_next (Some first) read wrote_some was =
        stays (some_there writes (actions_at element before) refl wrote_some.0) read was
    read_next None (Some first) wrote_none was =
        stays (some_there exposed (actions_at element before) refl was.0) (Some first) was

  -- an access of another element changes nothing
  same_actions : (before after : List Access) (slots : Slots) → actions_at element after ≡ actions_at element before
      → AreSlots program call index words element before slots →
      AreSlots program call index words element after slots
  same_actions before after slots same are = record {
    write = write_same slots.write are.write;
    read = read_kept before after (ap exposed same) slots.read are.read;
    reduce = are.reduce;
    other = other_same program call index words element before after same slots.reduce slots.other are.other;
  }
    where
      write_same : (old : Option ℕ) → WriteIs program call index words element before old
          → WriteIs program call index words element after old
      write_same None was = ap writes same ∙ was
      write_same (Some first) was = (ap writes same ∙ was.0, was.1)

  pub slots_next : (before : List Access) (access : Access) (slots : Slots) (slot : ℕ)
      → AccessesAt program call index words slot before access → AreSlots program call index words element before slots
      → AreSlots program call index words element (before ++ access ∷ [])
      (slots_here (Some (seen_as access.element access.action)) element slot slots)
  slots_next before access slots slot made are = go (access.element == element) refl
    where
      go : (here : Bool) → (access.element == element) ≡ here → AreSlots program call index words element (before
          ++ access ∷ []) (if here then slots_after slots (seen_as access.element access.action) slot else slots)
      go true is =
          let at : access.element ≡ element = eqb-true access.element element is in
          let now = at_last element before access true is in
          record {
            write = write_next before access slot made at now slots.write are.write;
            read = read_next before access slot made at now slots.write slots.read are.write are.read;
            reduce = reduce_next program call index words element before access slot made at now slots.reduce
                slots.other (operator_of access.action) refl are.reduce are.other;
            other = other_next program call index words element before access slot made at now slots.reduce
                slots.other (operator_of access.action) refl are.other;
          }
      go false is =
          same_actions before (before ++ access ∷ []) slots
          (at_last element before access false is ∙ append-nil (actions_at element before)) are
