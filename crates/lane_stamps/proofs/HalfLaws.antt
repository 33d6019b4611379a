-- Places that share no half.
use Rattle.std.proofs.Common.{◌≡◌, ◌≢◌, ℕ, ◌+◌, ◌*◌, ◌/◌, ◌%◌, ◌^◌, ◌<◌, Bool, true, false, inl, inr, slice_index, refl}
use Rattle.std.{proofs.Common.{sym, ◌∙◌, ap, subst, arith}, specs.Prelude.{◌==◌, if◌then◌else◌}}
use Rattle.std.proofs.lemmas.Bool.{cases_eq, eqb-true, eqb-false}
use Rattle.array_maps.specs.declared.access.{Half.{Half, TheVariants.{Low, High}}, Op.TheVariants.{AddH}, Part.{Part}}
use Rattle.array_maps.specs.{declared.access.Part.TheVariants.{Half as Of}, Accesses.{combined, left_by}}
use Rattle.array_maps.specs.Halves.{half_of, halves_added, with_half}
use Rattle.loop_core_model.specs.{Kept.{OperatorsAssociate}, Effects.{action_on, deed_part, half_number}}
use Rattle.loop_core_model.proofs.Swapping.{same_place}
use Rattle.loop_core_model.proofs.Sparing.{FitsFor, Kept, Spares, alone_spares, at_place, fits_for, half_spares}
use Rattle.loop_core_model.proofs.EffectLaws.{Exchange, apart_exchange, halves_exchange, operators_exchange}
use Rattle.lane_stamps.{proofs.BlendLaws.{half_counts}, specs.declared.{kind.Kind.{Kind}, site.Site.{Site}}}
use Rattle.lane_stamps.specs.declared.kind.Kind.TheVariants.{LoadHalf, Replace, FetchHalf, AddHalf}
use Rattle.lane_stamps.specs.Sites.{Covers, deed_by, element_named, half_named, is_of_halves, leaves, loads, LaneRows}
use Rattle.lane_stamps.specs.Sites.{done_by, place_of, value_of}

-- the half that a number names has that number
named : (place : ℕ) → half_number (place / 2) (half_named place) ≡ place
named place = go (place % 2 == 0) refl
  where
    go : (low : Bool) → (place % 2 == 0) ≡ low → half_number (place / 2) (if low then Low else High) ≡ place
    go true is = let zero : place % 2 ≡ 0 = eqb-true (place % 2) 0 is in omega (arith, zero)
    go false is = let some : place % 2 ≢ 0 = eqb-false (place % 2) 0 is in omega (arith, some)

-- places of one element that share no half are two halves
pub record TwoHalves (halves others : Bool) (place other : ℕ) : Type 0 where
  pub first : halves ≡ true
  pub second : others ≡ true
  pub differ : half_named place ≢ half_named other

two_halves : (halves others : Bool) (place other : ℕ) → element_named halves place ≡ element_named others other
    → ((half : ℕ) → Covers halves place half → Covers others other half → ⊥) → TwoHalves halves others place other
two_halves false false place other same none =
    let here : 2 * place / 2 ≡ place = omega arith in
    absurd (none (2 * place) here (here ∙ same))
two_halves false true place other same none = absurd (none other (sym same) refl)
two_halves true false place other same none = absurd (none place refl same)
two_halves true true place other same none = record {
  first = refl;
  second = refl;
  differ = λ alike. none place refl (sym (named place)
      ∙ ap (λ (half : Half). half_number (place / 2) half) alike
      ∙ ap (λ (e : ℕ). half_number e (half_named other)) same ∙ named other);
}

-- where a number is added to a half, the other one stays
operand_low : (value : ℕ) → with_half Low 0 value ≡ value % 2 ^ 32
unfolding with_half
operand_low value = omega arith

operand_high : (value : ℕ) → with_half High 0 value ≡ 2 ^ 32 * (value % 2 ^ 32)
unfolding with_half
operand_high value = omega arith

add_low : (word value : ℕ) → combined AddH word (with_half Low 0 value)
    ≡ (word % 2 ^ 32 + value) % 2 ^ 32 + 2 ^ 32 * (word / 2 ^ 32 % 2 ^ 32)
unfolding combined halves_added half_of
add_low word value =
    let operand = operand_low value in
    let low : with_half Low 0 value % 2 ^ 32 ≡ value % 2 ^ 32 = omega (arith, operand) in
    let high : with_half Low 0 value / 2 ^ 32 ≡ 0 = omega (arith, operand) in
    let sum : (word % 2 ^ 32 + with_half Low 0 value % 2 ^ 32) % 2 ^ 32 ≡ (word % 2 ^ 32 + value) % 2 ^ 32 =
    omega (arith, low) in
    let kept : (word / 2 ^ 32 + with_half Low 0 value / 2 ^ 32) % 2 ^ 32 ≡ word / 2 ^ 32 % 2 ^ 32 =
    omega (arith, high) in
    ap (λ (n : ℕ). n + 2 ^ 32 * ((word / 2 ^ 32 + with_half Low 0 value / 2 ^ 32) % 2 ^ 32)) sum
    ∙ ap (λ (n : ℕ). (word % 2 ^ 32 + value) % 2 ^ 32 + 2 ^ 32 * n) kept

add_high : (word value : ℕ) → combined AddH word (with_half High 0 value)
    ≡ word % 2 ^ 32 + 2 ^ 32 * ((word / 2 ^ 32 + value) % 2 ^ 32)
unfolding combined halves_added half_of
add_high word value =
    let operand = operand_high value in
    let low : with_half High 0 value % 2 ^ 32 ≡ 0 = omega (arith, operand) in
    let high : with_half High 0 value / 2 ^ 32 ≡ value % 2 ^ 32 = omega (arith, operand) in
    let kept : (word % 2 ^ 32 + with_half High 0 value % 2 ^ 32) % 2 ^ 32 ≡ word % 2 ^ 32 = omega (arith, low) in
    let sum : (word / 2 ^ 32 + with_half High 0 value / 2 ^ 32) % 2 ^ 32 ≡ (word / 2 ^ 32 + value) % 2 ^ 32 =
    omega (arith, high) in
    ap (λ (n : ℕ). n + 2 ^ 32 * ((word / 2 ^ 32 + with_half High 0 value / 2 ^ 32) % 2 ^ 32)) kept
    ∙ ap (λ (n : ℕ). word % 2 ^ 32 + 2 ^ 32 * n) sum

add_keeps : (half other : Half) (word value : ℕ) → half ≢ other → FitsFor (Of other) word
    → Kept (Of other) word (combined AddH word (with_half half 0 value))
unfolding half_of
add_keeps Low Low word value differ below = absurd (differ refl)
add_keeps High High word value differ below = absurd (differ refl)
add_keeps Low High word value differ below =
    let is = add_low word value in
    let same : combined AddH word (with_half Low 0 value) / 2 ^ 32 ≡ word / 2 ^ 32 = omega (arith, is, below) in
    let fits : combined AddH word (with_half Low 0 value) < 2 ^ 64 = omega (arith, is) in
    (same, fits)
add_keeps High Low word value differ below =
    let is = add_high word value in
    let same : combined AddH word (with_half High 0 value) % 2 ^ 32 ≡ word % 2 ^ 32 = omega (arith, is) in
    (same, tt)

add_and_replace : (half other : Half) (value number word : ℕ) → half ≢ other →
    combined AddH (with_half other word number) (with_half half 0 value)
    ≡ with_half other (combined AddH word (with_half half 0 value)) number
unfolding with_half
add_and_replace Low Low value number word differ = absurd (differ refl)
add_and_replace High High value number word differ = absurd (differ refl)
add_and_replace Low High value number word differ =
    omega (arith, add_low (with_half High word number) value, add_low word value)
add_and_replace High Low value number word differ =
    omega (arith, add_high (with_half Low word number) value, add_high word value)

add_spares : (e : ℕ) (half other : Half) (value : ℕ) → half ≢ other
    → Spares e (Of other) (record { element = e; deed = deed_by AddHalf half value })
add_spares e half other value differ words below =
    let zero_fits : 0 < 2 ^ 64 = omega arith in
    at_place (Kept (Of other)) (λ (word : ℕ). combined AddH word (with_half half 0 value)) words e
    (refl, fits_for (Of other) 0 zero_fits)
    (add_keeps half other (slice_index words e) value differ below)

-- what is left at one half spares what is loaded at the other
load_part : (kind : Kind) (half : Half) (value : ℕ) → is_of_halves kind ≡ true → loads kind ≡ true
    → deed_part (deed_by kind half value) ≡ Of half
load_part LoadHalf half value of_half load = refl
load_part FetchHalf half value of_half load = refl
load_part _ half value of_half load = absurd (cc)

left_spares : (kind : Kind) (e : ℕ) (half other : Half) (value : ℕ) → is_of_halves kind ≡ true → leaves kind ≡ true
    → half ≢ other → Spares e (Of other) (record { element = e; deed = deed_by kind half value })
left_spares Replace e half other value of_half left differ =
    half_spares (record { element = e; deed = deed_by Replace half value }) e half other differ refl refl
left_spares FetchHalf e half other value of_half left differ =
    half_spares (record { element = e; deed = deed_by FetchHalf half value }) e half other differ refl refl
left_spares AddHalf e half other value of_half left differ = add_spares e half other value differ
left_spares _ e half other value of_half left differ = absurd (cc)

-- what is left at two halves may change places
module _ (laws : OperatorsAssociate) where
  add_exchange : (kind : Kind) (e : ℕ) (half other : Half) (value number : ℕ) → half ≢ other
      → ((word : ℕ) → left_by (action_on (deed_by kind other number) word) word ≡ with_half other word number)
      → Exchange (record { element = e; deed = deed_by AddHalf half value })
      (record { element = e; deed = deed_by kind other number })
  add_exchange kind e half other value number differ left words =
      same_place (λ (word : ℕ). combined AddH word (with_half half 0 value))
      (λ (word : ℕ). left_by (action_on (deed_by kind other number) word) word)
      (λ word. ap (λ (w : ℕ). combined AddH w (with_half half 0 value)) (left word)
      ∙ add_and_replace half other value number word differ
      ∙ sym (left (combined AddH word (with_half half 0 value)))) words e

  left_exchange : (one two : Kind) (e : ℕ) (half other : Half) (value number : ℕ) → is_of_halves one ≡ true
      → is_of_halves two ≡ true → leaves one ≡ true → leaves two ≡ true → half ≢ other
      → Exchange (record { element = e; deed = deed_by one half value })
      (record { element = e; deed = deed_by two other number })
  left_exchange AddHalf AddHalf e half other value number of_half is_half left leave differ =
      operators_exchange laws (deed_by AddHalf half value) (deed_by AddHalf other number) e e refl
  left_exchange AddHalf Replace e half other value number of_half is_half left leave differ =
      add_exchange Replace e half other value number differ (λ word. half_counts other word number)
  left_exchange AddHalf FetchHalf e half other value number of_half is_half left leave differ =
      add_exchange FetchHalf e half other value number differ (λ word. half_counts other word number)
  left_exchange Replace AddHalf e half other value number of_half is_half left leave differ =
      λ words. sym (add_exchange Replace e other half number value (λ same. differ (sym same))
      (λ word. half_counts half word value) words)
  left_exchange FetchHalf AddHalf e half other value number of_half is_half left leave differ =
      λ words. sym (add_exchange FetchHalf e other half number value (λ same. differ (sym same))
      (λ word. half_counts half word value) words)
  left_exchange Replace Replace e half other value number of_half is_half left leave differ =
      halves_exchange (record { element = e; deed = deed_by Replace half value })
      (record { element = e; deed = deed_by Replace other number }) half other refl differ refl refl refl refl
  left_exchange Replace FetchHalf e half other value number of_half is_half left leave differ =
      halves_exchange (record { element = e; deed = deed_by Replace half value })
      (record { element = e; deed = deed_by FetchHalf other number }) half other refl differ refl refl refl refl
  left_exchange FetchHalf Replace e half other value number of_half is_half left leave differ =
      halves_exchange (record { element = e; deed = deed_by FetchHalf half value })
      (record { element = e; deed = deed_by Replace other number }) half other refl differ refl refl refl refl
  left_exchange FetchHalf FetchHalf e half other value number of_half is_half left leave differ =
      halves_exchange (record { element = e; deed = deed_by FetchHalf half value })
      (record { element = e; deed = deed_by FetchHalf other number }) half other refl differ refl refl refl refl
  left_exchange _ _ e half other value number of_half is_half left leave differ = absurd (cc)

-- two lanes access no half in common
abbrev pub Apart : LaneRows → (at : Site) (later : ℕ) (by : Site) (earlier : ℕ) → Type 0
Apart lanes at later by earlier = (half : ℕ) → Covers (is_of_halves at.kind) (place_of lanes at later) half
    → Covers (is_of_halves by.kind) (place_of lanes by earlier) half → ⊥

-- then what one leaves spares what the other loads
pub apart_spares : (lanes : LaneRows) (at by : Site) (later earlier : ℕ) → loads at.kind ≡ true → leaves by.kind ≡ true
    → Apart lanes at later by earlier
    → Spares (done_by lanes at later).element (deed_part (done_by lanes at later).deed) (done_by lanes by earlier)
apart_spares lanes at by later earlier load left apart =
    elim (cases_eq (done_by lanes by earlier).element (done_by lanes at later).element) [
      | inr other ↦ alone_spares (done_by lanes by earlier) (done_by lanes at later).element
          (deed_part (done_by lanes at later).deed) (λ h. other)
      | inl same ↦
          let two = two_halves (is_of_halves at.kind) (is_of_halves by.kind) (place_of lanes at later) (place_of lanes
          by earlier)
          (sym same) apart in
          subst (λ (p : Part). Spares (done_by lanes at later).element p (done_by lanes by earlier))
          (sym (load_part at.kind (half_named (place_of lanes at later)) (value_of lanes at later) two.first load))
          (subst (λ (e : ℕ). Spares e (Of (half_named (place_of lanes at later))) (done_by lanes by earlier)) same
          (left_spares by.kind (done_by lanes by earlier).element (half_named (place_of lanes by earlier))
          (half_named (place_of lanes at later)) (value_of lanes by earlier) two.second left
          (λ alike. two.differ (sym alike))))
    ]

-- and what both leave may change places
pub apart_places : OperatorsAssociate → (lanes : LaneRows) (at by : Site) (later earlier : ℕ) → leaves at.kind ≡ true
    → leaves by.kind ≡ true → Apart lanes at later by earlier
    → Exchange (done_by lanes at later) (done_by lanes by earlier)
apart_places laws lanes at by later earlier left leave apart =
    elim (cases_eq (done_by lanes at later).element (done_by lanes by earlier).element) [
      | inr other ↦ apart_exchange (done_by lanes at later) (done_by lanes by earlier) other
      | inl same ↦
          let two = two_halves (is_of_halves at.kind) (is_of_halves by.kind) (place_of lanes at later) (place_of lanes
          by earlier)
          same apart in
          subst (λ (e : ℕ). Exchange (done_by lanes at later) (record {
            element = e;
            deed = (done_by lanes by
                earlier).deed;
          })) same
          (left_exchange laws at.kind by.kind (done_by lanes at later).element (half_named (place_of lanes at later))
          (half_named (place_of lanes by earlier)) (value_of lanes at later) (value_of lanes by earlier) two.first
          two.second left leave two.differ)
    ]
