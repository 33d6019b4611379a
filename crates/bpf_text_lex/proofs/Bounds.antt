-- Signed numbers within a bound on both sides.
use Rattle.std.{proofs.Common.{ℕ, ℤ, pos, negsuc, ◌<◌, ◌^◌}, specs.{Prelude.{FitsSigned}, Int.{w16, w32}}}

-- at least -bound and below bound
abbrev pub InBound : ℕ → ℤ → Type 0
InBound bound (pos n) = n < bound
InBound bound (negsuc n) = n < bound

pub near_bound : (z : ℤ) → FitsSigned w16 z → InBound (2 ^ 15) z
near_bound (pos n) fits = fits.sfits
near_bound (negsuc n) fits = fits.sfits

pub far_bound : (z : ℤ) → FitsSigned w32 z → InBound (2 ^ 31) z
far_bound (pos n) fits = fits.sfits
far_bound (negsuc n) fits = fits.sfits
