use Rattle.std.proofs.Common.{◌≡◌, ℕ, List, [], ◌∷◌, ◌++◌, refl, length, set, sym, ◌∙◌, subst, arith}
use Rattle.shadow_marks.specs.{declared.element_flags.ElementFlags.{ElementFlags}, Kept.{nothing_kept}}
use Rattle.shadow_marks.proofs.TouchLaws.{Covers, nothing_flagged, last_within, covers_rest, none_touched}
use Rattle.shadow_marks.proofs.iter_flags.IterFlags.take.Goals as goal

covers_emptied : (touched rest : List ℕ) (e : ℕ) (cells : List ElementFlags) (kept : ElementFlags) → touched ≡ rest ++ e
    ∷ [] → Covers touched cells →
    kept ≡ nothing_kept → Covers rest (set cells e kept)
covers_emptied touched rest e cells kept is covers nothing =
    subst (λ (k : ElementFlags). Covers rest (set cells e k)) (sym nothing) (covers_rest touched rest e cells is covers)

pub returns-in_default : goal.returns-in_default
returns-in_default c =
    let old : length c.args.self.now.touched.items ≡ 0 = sym c.args.self.now.touched.ok.0 ∙ c.in_default.ensures.cases.0
    in
    let new : length c.pop.new.self.items ≡ 0 = sym c.pop.new.self.ok.0 ∙ c.in_default.ensures.cases.1 in
    record {
      was = record { count = old; each = λ e. nothing_flagged _ (c.args.self.now.covered e (none_touched _ e old)) };
      still = record { count = new; each = λ e. nothing_flagged _ (c.args.self.now.covered e (none_touched _ e old)) };
      elements = refl;
    }

pub index-flags-requires : goal.index-flags-requires
index-flags-requires c =
    let covers : Covers c.args.self.now.touched.items c.args.self.now.cells.items =
    record { within = c.args.self.now.within; covered = c.args.self.now.covered } in
    omega (
      arith,
      last_within _ c.pop.new.self.items c.in-Some.e _ c.in-Some.ensures.items covers,
      c.args.self.now.cells.ok.0,
    )

pub invariant_of-self-2-clause-within : goal.invariant_of-self-2-clause-within
invariant_of-self-2-clause-within c =
    let covers : Covers c.args.self.now.touched.items c.args.self.now.cells.items =
    record { within = c.args.self.now.within; covered = c.args.self.now.covered } in
    (covers_emptied _ _ _ _ _ c.in-Some.ensures.items covers refl).within

pub invariant_of-self-2-clause-covered : goal.invariant_of-self-2-clause-covered
invariant_of-self-2-clause-covered c =
    let covers : Covers c.args.self.now.touched.items c.args.self.now.cells.items =
    record { within = c.args.self.now.within; covered = c.args.self.now.covered } in
    (covers_emptied _ _ _ _ _ c.in-Some.ensures.items covers refl).covered
