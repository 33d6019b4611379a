-- What a condition says of the spans of its operands, a definition a row.
use Rattle.std.specs.Prelude.{ℕ, ◌+◌, ◌-◌, ◌^◌, min, max, Bool, not, ◌&&◌, ◌==◌, nat_lt, nat_le, if◌then◌else◌}
use Rattle.std.specs.declared.option.Option.{Option, TheVariants.{Some, None}}
use Rattle.bpf_insn_types.specs.declared.insn.{Width.{Width, TheVariants.{W32, W64}}, Compare.{Compare}}
use Rattle.bpf_insn_types.specs.declared.insn.Compare.TheVariants.{Eq, Gt, Ge, Set, Ne, Sgt, Sge, Lt, Le, Slt, Sle}
use Rattle.bpf_insn_types.specs.Words.{holds}
use Rattle.value_range.specs.Spans.{Span, is_exact, rounded_up, rounded_down, norm}
use Rattle.value_range.specs.declared.condition.Condition.{Condition, TheVariants.{Holds, NotSet}}

-- whether two words meet a condition
abbrev pub says : Condition → Width → ℕ → ℕ → Bool
says (Holds compare) width a b = holds width compare a b
says NotSet width a b = not (holds width Set a b)

-- the condition where a comparison doesn't hold
abbrev pub opposite : Compare → Condition
opposite Eq = Holds Ne
opposite Gt = Holds Le
opposite Ge = Holds Lt
opposite Set = NotSet
opposite Ne = Holds Eq
opposite Sgt = Holds Sle
opposite Sge = Holds Slt
opposite Lt = Holds Ge
opposite Le = Holds Gt
opposite Slt = Holds Sge
opposite Sle = Holds Sgt

-- both operands' new spans, or None where no pair meets the condition
abbrev pub Refined : Type 0
Refined = Option (Span × Span)

-- both spans are what lies between the bounds, where it isn't empty
abbrev pub within : ℕ → ℕ → ℕ → Refined
within lo hi zeros = if nat_lt hi lo then None else Some (norm lo hi zeros, norm lo hi zeros)

-- EQ: the greater lo and the lesser hi, rounded inward to the greater zeros
unfoldable pub equal : Span → Span → Refined
equal a b =
    within (rounded_up (max a.zeros b.zeros) (max a.lo b.lo)) (rounded_down (max a.zeros b.zeros) (min a.hi b.hi))
    (max a.zeros b.zeros)

-- a span without a number at one of its ends
unfoldable pub without : ℕ → Span → Span
without number r =
    if r.lo == number then norm (r.lo + 2 ^ r.zeros) r.hi r.zeros
    else if r.hi == number then norm r.lo (r.hi - 2 ^ r.zeros) r.zeros
    else r

-- two exact spans, where they differ
abbrev pub apart : Span → Span → Refined
apart a b = if a.lo == b.lo then None else Some (a, b)

-- NE: of two exact spans whether they differ; else an exact one is cut off the other
unfoldable pub different : Span → Span → Refined
different a b =
    if is_exact a && is_exact b then apart a b
    else if is_exact a then Some (a, without a.lo b)
    else if is_exact b then Some (without b.lo a, b)
    else Some (a, b)

-- GT
unfoldable pub greater : Span → Span → Refined
greater a b =
    if nat_le a.hi b.lo then None
    else Some (norm (max a.lo (b.lo + 1)) a.hi a.zeros, norm b.lo (min b.hi (a.hi - 1)) b.zeros)

-- GE
unfoldable pub not_less : Span → Span → Refined
not_less a b =
    if nat_lt a.hi b.lo then None
    else Some (norm (max a.lo b.lo) a.hi a.zeros, norm b.lo (min b.hi a.hi) b.zeros)

-- the operands exchanged
abbrev pub swapped : Refined → Refined
swapped None = None
swapped (Some pair) = Some (pair.1, pair.0)

-- all others: of two exact spans whether the condition is met
unfoldable pub tested : Condition → Width → Span → Span → Refined
tested condition width a b =
    if is_exact a && is_exact b && not (says condition width a.lo b.lo) then None else Some (a, b)

-- the row of a condition
abbrev pub refine_row : Condition → Width → Span → Span → Refined
refine_row (Holds Eq) width a b = equal a b
refine_row (Holds Ne) width a b = different a b
refine_row (Holds Gt) width a b = greater a b
refine_row (Holds Ge) width a b = not_less a b
refine_row (Holds Lt) width a b = swapped (greater b a)
refine_row (Holds Le) width a b = swapped (not_less b a)
refine_row (Holds Set) width a b = tested (Holds Set) width a b
refine_row NotSet width a b = tested NotSet width a b
refine_row (Holds Sgt) width a b = tested (Holds Sgt) width a b
refine_row (Holds Sge) width a b = tested (Holds Sge) width a b
refine_row (Holds Slt) width a b = tested (Holds Slt) width a b
refine_row (Holds Sle) width a b = tested (Holds Sle) width a b

-- at 32 bits the rows are for spans of 32 bits; of others it is seen whether two exact ones meet the condition
unfoldable pub refined : Condition → Width → Span → Span → Refined
refined condition W64 a b = refine_row condition W64 a b
refined condition W32 a b =
    if nat_lt a.hi (2 ^ 32) && nat_lt b.hi (2 ^ 32) then refine_row condition W32 a b
    else tested condition W32 a b
