use Rattle.std.proofs.Common.{◌≡◌, ◌∙◌, ℕ, ◌+◌, ◌%◌, ◌^◌, ℤ, w16, w64, to_z, of_z, ap, subst}
use Rattle.std.proofs.Math.Facts.{to_z-of_z, sfits_widen}
use Rattle.bpf_insn_types.specs.{declared.insn.{Width.TheVariants.{W64}, AluOp.TheVariants.{Add}}, Words.{alu}}
use Rattle.bpf_step_model.specs.AreaWords.{byte_named}
use Rattle.row_facts.{specs.Facts.{IsSure}, proofs.OperatorLaws.{alu-add, half, twice}}
use Rattle.row_facts.proofs.site.byte_of.Goals as goal

pub returns : goal.returns
returns c index x sure =
    let o = c.cast_unsigned.result in
    let m = alu W64 Add x o in
    let moved : IsSure c.computed-moved.result index m =
    c.computed-moved.ensures index x o sure (c.number-distance.ensures index) in
    let narrow : to_z w16 (of_z w16 c.args.offset) ≡ c.args.offset = to_z-of_z c.ranges.offset in
    let wide : to_z w64 (of_z w64 c.args.offset) ≡ c.args.offset = to_z-of_z {w = w64} (sfits_widen {w = w16} {w' =
    w64} (tt {0}) c.ranges.offset) in
    let distance : o ≡ of_z w64 c.args.offset =
    c.cast_unsigned.ensures ∙ ap (λ (z : ℤ). of_z w64 (to_z w64 (of_z w64 z))) narrow ∙ ap (λ (z : ℤ). of_z w64 z)
    wide in
    let same : m % 2 ^ 32 ≡ byte_named x c.args.offset =
    ap (λ (n : ℕ). n % 2 ^ 32) (alu-add x o) ∙ half (x + o) ∙ ap (λ (n : ℕ). (x + n) % 2 ^ 32) distance in
    subst (λ (n : ℕ). IsSure c.within.result index n) same
    (c.within.ensures index (m % 2 ^ 32) (c.in_area.ensures m moved.in_range)
    (c.cut.ensures index m (m % 2 ^ 32) moved.on_line (twice m)))
