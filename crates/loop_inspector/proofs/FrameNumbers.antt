-- Numbers that bytes of a frame spell are words.
use Rattle.std.proofs.Common.{◌≡◌, ℕ, zero, suc, ◌+◌, ◌-◌, ◌*◌, ◌^◌, ◌<◌, ◌≤◌, Bool, true, false, if◌then◌else◌, List}
use Rattle.std.{proofs.Common.{[], ◌∷◌, map, Some, arith}, specs.{Prelude.{nat_lt, take, drop}, List.{AllByRecursion}}}
use Rattle.std.proofs.Math.Nat.{pow-succ'}
use Rattle.bpf_insn_types.specs.declared.{insn.Size.{Size, TheVariants.{B}}, extension.Extension.{Extension}}
use Rattle.bpf_insn_types.specs.{declared.extension.Extension.TheVariants.{Zeros, Signs}, Sizes.{bytes_of}}
use Rattle.bpf_step_model.specs.{Step.{extended}, SoundMachine.{SoundByte}}
use Rattle.bpf_step_ir.specs.Plain.{plain_number, plain_number_at}
use Rattle.row_run.proofs.LoadLaws.{extended_fits}

-- bytes, each below 256
abbrev pub AreBytes : List ℕ → Type 0
AreBytes bytes = AllByRecursion (λ byte. byte < 256) bytes

past_some : (count : ℕ) → 0 < 256 ^ count
past_some zero = omega arith
past_some (suc count) = omega (arith, pow-succ' 256 count, past_some count)

-- at most so many of them spell no more than as many can
taken_below : (count : ℕ) (bytes : List ℕ) → AreBytes bytes → plain_number (take count bytes) < 256 ^ count
taken_below zero bytes fit = omega arith
taken_below (suc count) [] fit = past_some (suc count)
taken_below (suc count) (byte ∷ bytes) fit =
    let low : byte < 256 = fit.0 in
    omega (arith, low, pow-succ' 256 count, taken_below count bytes fit.1)

dropped_fit : (count : ℕ) (bytes : List ℕ) → AreBytes bytes → AreBytes (drop count bytes)
dropped_fit zero bytes fit = fit
dropped_fit (suc count) [] fit = tt
dropped_fit (suc count) (byte ∷ bytes) fit = dropped_fit count bytes fit.1

number_below : (frame : List ℕ) (position count : ℕ) → AreBytes frame
    → plain_number_at frame position count < 256 ^ count
number_below frame position count fit =
    let many : position + count - position ≡ count = omega arith in
    rw many (taken_below count (drop position frame) (dropped_fit position frame fit))

few_bytes : (size : Size) → 256 ^ bytes_of size ≤ 2 ^ 64
few_bytes B = omega arith
few_bytes _ = omega arith

pub frame_number : (frame : List ℕ) → AreBytes frame → (size : Size) (extension : Extension) (position : ℕ)
    → extended extension (bytes_of size) (plain_number_at frame position (bytes_of size)) < 2 ^ 64
frame_number frame fit size extension position =
    extended_fits extension (bytes_of size) _ (number_below frame position (bytes_of size) fit) (few_bytes size)

pub filled_fit : (bytes : List ℕ) → AllByRecursion SoundByte (map Some bytes) → AreBytes bytes
filled_fit [] fit = tt
filled_fit (byte ∷ bytes) fit = (fit.0, filled_fit bytes fit.1)
