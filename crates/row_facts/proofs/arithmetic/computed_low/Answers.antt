use Rattle.std.proofs.{Common.{ℕ, ◌≡◌, ◌∙◌, ◌%◌, ◌^◌, ◌<◌, arith, ap, refl}, Math.Nat.{mod-eq_of_lt}}
use Rattle.bpf_insn_types.specs.{declared.insn.Width.TheVariants.{W32, W64}, Words.{alu}}
use Rattle.value_range.specs.Spans.{Contains}
use Rattle.row_facts.proofs.OperatorLaws.{twice}
use Rattle.row_facts.proofs.arithmetic.computed_low.Goals as goal

pub returns-then-hi-lt4294967296 : goal.returns-then-hi-lt4294967296
returns-then-hi-lt4294967296 c index x y first second line =
    let n = alu W64 c.args.op x y in
    let lower : alu W32 c.args.op x y ≡ n % 2 ^ 32 = c.if-not-is_lower_half.ensures refl x y second in
    let wide : Contains c.alu-wide.result n = c.alu-wide.ensures.contains x y first second in
    let small : n < 2 ^ 32 = omega (arith, wide.below, c.hi.ensures.number) in
    rw (lower ∙ mod-eq_of_lt small) (c.within-then-hi-lt4294967296.ensures index n wide line)

pub returns-else-hi-lt4294967296 : goal.returns-else-hi-lt4294967296
returns-else-hi-lt4294967296 c index x y first second line =
    let n = alu W64 c.args.op x y in
    let lower : alu W32 c.args.op x y ≡ n % 2 ^ 32 = c.if-not-is_lower_half.ensures refl x y second in
    c.within-else-hi-lt4294967296.ensures index (alu W32 c.args.op x y) (c.alu-range.ensures.contains x y first second)
    (c.cut.ensures index n (alu W32 c.args.op x y) line (ap (λ (k : ℕ). k % 2 ^ 32) lower ∙ twice n))
