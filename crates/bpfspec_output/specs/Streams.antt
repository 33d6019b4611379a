-- What reads and writes of whole streams do to the bytes that are known of them, and what is counted.
use Rattle.std.specs.{Prelude.{◌≢◌, ℕ, ◌≤◌, List, Option, length, take}, Io.KnownBytes.{Appends, Consumes, IsAtEnd}}
use Rattle.bpfspec_output.specs.declared.counting.Counted.{Counted}

-- known bytes grow by a beginning of bs
abbrev pub AppendsBeginning : Option (List ℕ) → Option (List ℕ) → List ℕ → Type 0
AppendsBeginning old new bs = (n : ℕ) × (n ≤ length bs) × Appends old new (take n bs)

-- known bytes lose some from the front, at most limit of them
abbrev pub ConsumesAtMost : Option (List ℕ) → Option (List ℕ) → ℕ → Type 0
ConsumesAtMost old new limit = (bs : List ℕ) × (length bs ≤ limit) × Consumes old new bs

-- bytes are read to the end, or up to a limit where that comes first
pub record ReadsToEnd (old new : Option (List ℕ)) (limit : ℕ) (bytes : List ℕ) : Type 0 where
  pub consumed : Consumes old new bytes
  pub within : length bytes ≤ limit
  pub ended : length bytes ≢ limit → IsAtEnd new

-- the reader or writer of a `Counted`
abbrev pub inner_of : {T : Type 0} → Counted T → T
inner_of c = c.inner

-- how many of its calls failed
abbrev pub failures_of : {T : Type 0} → Counted T → ℕ
failures_of c = c.failures
