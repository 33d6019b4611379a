-- What a call answers that may run out of memory. Its error is a refusal or the want of memory.
use Rattle.std.specs.Prelude.{◌≡◌, Option, Some, None, Result, Ok, Err}

-- a refusal is the one that is meant; where memory ran out there is none
abbrev pub RefusalMatches : {F Y : Type 0} → Option F → Result Y F → Type 0
RefusalMatches None meaning = Unit {0}
RefusalMatches (Some refusal) meaning = meaning ≡ Err refusal

-- the value, seen by `view`, or the refusal that the error has is what is meant, unless memory ran out
abbrev pub MatchesUnlessMemory : {X Y E F : Type 0} → (E → Option F) → (X → Y) → Result X E → Result Y F → Type 0
MatchesUnlessMemory refusal view (Ok x) meaning = meaning ≡ Ok (view x)
MatchesUnlessMemory refusal view (Err e) meaning = RefusalMatches (refusal e) meaning
