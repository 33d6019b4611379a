-- A flag that is set in a byte of flags.
use Rattle.std.proofs.Common.{◌≡◌, ◌≢◌, ℕ, ◌^◌, ◌<◌, min, true, false, not, ◌||◌, eqb, refl, sym, ◌∙◌, ap, arith}
use Rattle.std.{proofs.{Common.{eq-eqb, ne_eqb}, Math.Bool.{or-false, or-true}}, specs.{Prelude.{bit_and, bit_or}, Int.{bit_at}}}
use Rattle.std.proofs.lemmas.Nat.Bits.{bit_at_and, bit_at-zero}
use Rattle.array_maps.specs.declared.access.Op.{Op, TheVariants.{Add, Or, And, Xor, AddH}}
use Rattle.loop_core_model.{specs.Flags.{Flags}, proofs.FlagLaws.{same_flags}}
use Rattle.shadow_marks.specs.declared.element_flags.Flag.{Flag, TheVariants.{Wrote, Looked, Plain, By}}
use Rattle.shadow_marks.specs.declared.element_flags.ElementFlags.{ElementFlags}
use Rattle.shadow_marks.specs.Kept.{place_by, bit_place, flags_in, with_flag, with_read}
use Rattle.shadow_marks.proofs.BitLaws.{bit_ored, same_place}

-- operators stand after the other flags
apart : (n : ℕ) (op : Op) → n < 3 → n ≢ place_by op
apart n Add h same = omega (arith, h, same)
apart n Or h same = omega (arith, h, same)
apart n And h same = omega (arith, h, same)
apart n Xor h same = omega (arith, h, same)
apart n AddH h same = omega (arith, h, same)

behind : (n : ℕ) (op : Op) → n < 3 → eqb n (place_by op) ≡ false
behind n op h = ne_eqb n (place_by op) (apart n op h)

before : (op : Op) (n : ℕ) → n < 3 → eqb (place_by op) n ≡ false
before op n h = ne_eqb (place_by op) n (λ same. apart n op h (sym same))

-- a bit of the flags with one more
unchanged : (bits mask place k : ℕ) → mask ≡ 2 ^ place → eqb k place ≡ false → eqb (bit_at (bit_or bits mask) k) 1
    ≡ eqb (bit_at bits k) 1
unchanged bits mask place k m other = bit_ored bits mask place k m ∙ ap (λ b. eqb (bit_at bits k) 1 || b) other
    ∙ or-false (eqb (bit_at bits k) 1)

changed : (bits mask place : ℕ) → mask ≡ 2 ^ place → eqb (bit_at (bit_or bits mask) place) 1 ≡ true
changed bits mask place m =
    bit_ored bits mask place place m ∙ ap (λ b. eqb (bit_at bits place) 1 || b) (eq-eqb place place refl)
    ∙ or-true (eqb (bit_at bits place) 1)

pub flag_ored : (kept : ElementFlags) (flag : Flag) (mask : ℕ) → mask ≡ 2 ^ bit_place flag →
    flags_in (record { bits = bit_or kept.bits mask }) ≡ with_flag flag (flags_in kept)
flag_ored kept Wrote mask m = same_flags _ _ (record {
  wrote = changed kept.bits mask 0 m;
  looked = unchanged kept.bits mask 0 1 m refl;
  plain = unchanged kept.bits mask 0 2 m refl;
  by = λ op. unchanged kept.bits mask 0 (place_by op) m (before op 0 (omega arith));
})
flag_ored kept Looked mask m = same_flags _ _ (record {
  wrote = unchanged kept.bits mask 1 0 m refl;
  looked = changed kept.bits mask 1 m;
  plain = unchanged kept.bits mask 1 2 m refl;
  by = λ op. unchanged kept.bits mask 1 (place_by op) m (before op 1 (omega arith));
})
flag_ored kept Plain mask m = same_flags _ _ (record {
  wrote = unchanged kept.bits mask 2 0 m refl;
  looked = unchanged kept.bits mask 2 1 m refl;
  plain = changed kept.bits mask 2 m;
  by = λ op. unchanged kept.bits mask 2 (place_by op) m (before op 2 (omega arith));
})
flag_ored kept (By op) mask m = same_flags _ _ (record {
  wrote = unchanged kept.bits mask (place_by op) 0 m (behind 0 op (omega arith));
  looked = unchanged kept.bits mask (place_by op) 1 m (behind 1 op (omega arith));
  plain = unchanged kept.bits mask (place_by op) 2 m (behind 2 op (omega arith));
  by = λ other.
      bit_ored kept.bits mask (place_by op) (place_by other) m
      ∙ ap (λ b. eqb (bit_at kept.bits (place_by other)) 1 || b) (same_place other op);
})

-- a look
pub look_after_write : (flags : Flags) → flags.wrote ≡ true → flags ≡ with_read flags
look_after_write flags wrote = same_flags _ _ (record {
  wrote = refl;
  looked = sym (ap (λ b. flags.looked || not b) wrote ∙ or-false flags.looked);
  plain = refl;
  by = λ op. refl;
})

pub look_before_write : (flags : Flags) → flags.wrote ≡ false → with_flag Looked flags ≡ with_read flags
look_before_write flags none = same_flags _ _ (record {
  wrote = refl;
  looked = sym (ap (λ b. flags.looked || not b) none ∙ or-true flags.looked);
  plain = refl;
  by = λ op. refl;
})

-- where no operator's bit is set there is no reduce
masked : (bits mask k : ℕ) → bit_and bits mask ≡ 0 → bit_at mask k ≡ 1 → eqb (bit_at bits k) 1 ≡ false
masked bits mask k none one =
    let met : min (bit_at bits k) (bit_at mask k) ≡ 0 = sym (bit_at_and bits mask k) ∙ ap (λ n. bit_at n k) none
    ∙ bit_at-zero k in
    ne_eqb (bit_at bits k) 1 (λ set. absurd (omega arith))

pub no_reduce : (bits : ℕ) (op : Op) → bit_and bits 248 ≡ 0 → eqb (bit_at bits (place_by op)) 1 ≡ false
no_reduce bits Add none = masked bits 248 3 none refl
no_reduce bits Or none = masked bits 248 4 none refl
no_reduce bits And none = masked bits 248 5 none refl
no_reduce bits Xor none = masked bits 248 6 none refl
no_reduce bits AddH none = masked bits 248 7 none refl
