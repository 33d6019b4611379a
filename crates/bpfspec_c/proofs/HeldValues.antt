-- The machine value of a `Held`.
use Rattle.std.proofs.Common.{◌≡◌, List, [], ◌∷◌, ◌++◌, refl, subst}
use seplogic.Ra.Ura.{Ura}
use mir.Val.{Val, vstruct, vcons, vnil, of_list}
use types.Logic.{Logic}
use types.Kit.{Item, Goal, Seq, Step, step, ‵, ◌$◌, drop, fsplit, fjoin, fpick, fpack, feq_i, feq_l}
use denote.RattleType.{RattleType, Valss}
use denote.Builtin.{RawPtr}
use denote.RawPtr.{Ptr, ptr_val}
use denote.Steps.{nothing}
use denote.Struct.Struct.{within}
use denote.Struct.Owning.{shape}
use Rattle.std.specs.{Prelude.{true, is_some}, declared.option.Option.{Option, TheVariants.{None, Some}}}
use Rattle.bpfspec_machine.specs.contracts.machine.Machine.{the_row as machine_row}
use Rattle.bpfspec_c.specs.Holding.{holds}
use Rattle.bpfspec_c.specs.contracts.held.Held as held

abbrev pub Held : RattleType
Held = held.the_row

-- a struct of one field
abbrev pub alone : Val → Val
alone v = vstruct (vcons v vnil)

-- what is there
pub held_value : {A : Type 0} → (m : Option A) → is_some m ≡ true → (x : A) × (m ≡ Some x)
held_value None e = absurd (cc)
held_value (Some x) e = (x, refl)

module _ {M : Type 1} {𝓤 : Ura M} {𝓛 : Logic 𝓤} {K : Type 0} {Γ : List (Item 𝓤)} {G : Goal 𝓤 𝓛.H} where
  pub held_out : K → (d : Held.Denot) (vs : List Val)
      → (vs ≡ alone (ptr_val d.at) ∷ [] → Seq K 𝓛 (‵ (holds machine_row d.at d.machine) ∷ Γ) G)
      → Seq K 𝓛 (‵ (Held.own_val d vs) ∷ Γ) G
  held_out t d vs k =
      fsplit t $ fpick t (λ vss. fsplit t $ feq_l t (λ ev. fsplit t $ feq_l t (λ ep. drop t $
      k (subst (λ (ps : List Val). vs ≡ vstruct (of_list (ps ++ [])) ∷ []) ep ev))))

  pub held_in : K → (p : Ptr) (machine : Option machine_row.Denot)
      → Step K 𝓛 (‵ (Held.own_val (record { at = p; machine = machine }) (alone (ptr_val p) ∷ [])) ∷ Γ) G (‵ (holds machine_row p machine) ∷ Γ) G
  held_in t p machine = step (λ s. let v : Val = alone (ptr_val p) in
      nothing t $ feq_i t (List Val) (ptr_val p ∷ []) (ptr_val p ∷ []) refl $ fjoin t $ feq_i t (List Val) (v ∷ []) (v ∷ []) refl $ fjoin t $
      fpack t (Valss (RawPtr ∷ [])) (within (shape held.the_type) (p, tt) (v ∷ [])) (ptr_val p ∷ [], tt) $ fjoin t $ s)
