-- The pages that accesses touch, in order of their first access. A page is 64 elements.
use Rattle.std.specs.{Prelude.{ℕ, ◌/◌, Bool, ◌==◌, if◌then◌else◌, List, [], ◌∷◌, ◌++◌}, List.{list_any}}
use Rattle.array_maps.specs.Accesses.{Access}

-- the page of an element
abbrev pub page_of : ℕ → ℕ
page_of e = e / 64

-- whether a page is in a list
abbrev pub has_page : List ℕ → ℕ → Bool
has_page pages page = list_any (λ other. page == other) pages

-- a page goes last, unless it is there
abbrev pub with_page : List ℕ → ℕ → List ℕ
with_page pages page = if has_page pages page then pages else pages ++ page ∷ []

-- the pages after a list of accesses
abbrev pub pages_after : List ℕ → List Access → List ℕ
pages_after pages [] = pages
pages_after pages (access ∷ accesses) = pages_after (with_page pages (page_of access.element)) accesses
