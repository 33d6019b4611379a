-- A map list: the words of array maps of given sizes.
use Rattle.std.specs.{Prelude.{ℕ, ◌<◌, ◌^◌, List, Vec, length, map, take, replicate}, declared.alloc.Global.{Global}}
use Rattle.std.specs.List.{AllByRecursion, concat, sum}

-- the sizes of maps, and their words: those of map 0, then those of map 1, and so on
pub record MapList : Type 0 where
  pub sizes : List ℕ
  pub words : List ℕ

-- each is below 2 ^ 64
abbrev pub AreWords : List ℕ → Type 0
AreWords words = AllByRecursion (λ word. word < 2 ^ 64) words

-- where the words of a map begin
abbrev pub base_of : List ℕ → ℕ → ℕ
base_of sizes map = sum (take map sizes)

-- new maps of these sizes, all zero
abbrev pub zero_maps : List ℕ → MapList
zero_maps sizes = record { sizes = sizes; words = replicate (sum sizes) 0 }

-- the values of maps without where they lie in memory
abbrev pub lists : List (Vec ℕ Global) → List (List ℕ)
lists maps = map (λ (values : Vec ℕ Global). values.items) maps

-- how many values each has
abbrev pub lengths : List (List ℕ) → List ℕ
lengths values = map length values

-- the maps that have these values
abbrev pub maps_of : List (List ℕ) → MapList
maps_of values = record { sizes = lengths values; words = concat values }
