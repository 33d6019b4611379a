-- The fields of records, and the object of JSON that a record is: ASCII, with no blanks and no escapes.
use Rattle.std.specs.Prelude.{ℕ, ℤ, Bool, true, false, List, ◌++◌, codes, Option, Some, None}
use Rattle.std.specs.Fmt.{decimal, signed_decimal}

-- a field's name, after the comma that separates it from the field before
abbrev pub key : List ℕ → List ℕ
key name = codes ",\"" ++ name ++ codes "\":"

-- a number of at most 32 bits
unfoldable pub number : List ℕ → ℕ → List ℕ
number name n = key name ++ decimal n

-- one that may be negative
unfoldable pub signed : List ℕ → ℤ → List ℕ
signed name n = key name ++ signed_decimal n

-- a number, if there is one; else the field doesn't apply
unfoldable pub optional : List ℕ → Option ℕ → List ℕ
optional name None = key name ++ codes "null"
optional name (Some n) = number name n

-- a word of 64 bits: its digits as a string
unfoldable pub wide : List ℕ → ℕ → List ℕ
wide name n = key name ++ codes "\"" ++ decimal n ++ codes "\""

-- a fixed word
unfoldable pub word : List ℕ → List ℕ → List ℕ
word name text = key name ++ codes "\"" ++ text ++ codes "\""

-- whether something holds
unfoldable pub flag : List ℕ → Bool → List ℕ
flag name true = key name ++ codes "true"
flag name false = key name ++ codes "false"

-- a record's kind is its first field
unfoldable pub object_start : List ℕ → List ℕ
object_start kind = codes "{\"record\":\"" ++ kind ++ codes "\""

-- the end of a record's line
unfoldable pub object_end : List ℕ
object_end = codes "}\n"

-- a record of this kind with these fields
abbrev pub object : (kind fields : List ℕ) → List ℕ
object kind fields = object_start kind ++ fields ++ object_end
