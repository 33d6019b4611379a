-- How a copy follows an iteration's accesses.
use Rattle.std.specs.Prelude.{◌≡◌, ◌+◌, List, ◌++◌, length}
use Rattle.array_maps.specs.{Accesses.{Access}, Store.{Effects}}
use Rattle.private_copy.specs.{declared.private.Private.{Private}, Copies.{Accessed, CopyRecordsWithin}}
use Rattle.private_copy.specs.Shown.{copy_of}

-- what an access does to a copy
abbrev pub AccessEffect : Private → Access → Private → Type 0
AccessEffect old access new = Accessed (copy_of old) access (copy_of new)

-- accesses, each by its effect, lead to a copy that records the iteration with those accesses more
pub record AccessesFollow : Type 0 where
  pub records : (old new : Private) (runs : List (List Access)) (before more : List Access) →
      CopyRecordsWithin (copy_of old) runs before → Effects AccessEffect old more new
      → CopyRecordsWithin (copy_of new) runs (before ++ more)
  pub start : (old new : Private) (more : List Access) → Effects AccessEffect old more new
      → (copy_of new).start ≡ (copy_of old).start
  pub begun : (old new : Private) (more : List Access) → Effects AccessEffect old more new
      → (copy_of new).begun ≡ (copy_of old).begun
  pub serves : (old new : Private) (more : List Access) → Effects AccessEffect old more new
      → (copy_of new).serves + length more ≡ (copy_of old).serves
