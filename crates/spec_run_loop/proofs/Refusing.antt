-- Operations that add up by no operator.
use Rattle.std.{proofs.Common.{◌≡◌, Bool, true, false}, specs.Prelude.{IsTrue}}

-- a test that was false told that something isn't so
pub refused : (P : Type 0) (b : Bool) → (P → IsTrue b) → b ≡ false → P → ⊥
refused P true tells h p = absurd (cc)
refused P false tells h p = absurd (let told = tells p in cc)
