-- The sites of a list, with what is known of the bytes that lanes access there.
use Rattle.std.specs.Prelude.{◌≡◌, ℕ, true, List, map, slice_index, Some}
use Rattle.std.specs.List.{filter, All}
use Rattle.bpf_insn_types.specs.declared.insn.Width.{Width, TheVariants.{W32, W64}}
use Rattle.row_list.specs.declared.row_op.RowOp.{RowOp}
use Rattle.row_list.specs.{Places.{is_access, place_in}, Rows.{AreValuesOn, byte_at, is_in}}
use Rattle.row_facts.specs.{declared.{site.Site.{Site}, fact.Fact.{Fact}}, Facts.{IsSure, FitFacts}}

-- the accesses of a list are its sites, in order
abbrev pub sites_of : List RowOp → List RowOp
sites_of list = filter is_access list

-- how many bytes an access is of
abbrev pub bytes_in : Width → ℕ
bytes_in W32 = 4
bytes_in W64 = 8

-- a fact is of a value, in the lanes of a mask
pub record IsAddressIn (list : List RowOp) (facts : List Fact) (mask value : ℕ) (fact : Fact) : Type 0 where
  pub each : (index : ℕ) (caller : List ℕ) (words : ℕ → List ℕ) (values : List ℕ) → AreValuesOn list index caller words values →
      FitFacts facts index values → is_in values mask ≡ true → IsSure fact index (slice_index values value)

-- a site has its operation's place, and a fact of the byte there in the lanes that get to it
pub record IsSite (list : List RowOp) (facts : List Fact) (site : Site) : Type 0 where
  pub there : place_in site.op ≡ Some site.place
  pub byte : (index : ℕ) (caller : List ℕ) (words : ℕ → List ℕ) (values : List ℕ) → AreValuesOn list index caller words values →
      FitFacts facts index values → is_in values site.place.mask ≡ true → IsSure site.byte index (byte_at values
      site.place)

pub record IsSiteOf (list : List RowOp) (facts : List Fact) (op : RowOp) (site : Site) : Type 0 where
  pub same : site.op ≡ op
  pub is : IsSite list facts site

-- so are the sites of all accesses
pub record AreSites (list : List RowOp) (facts : List Fact) (ops : List RowOp) (sites : List Site) : Type 0 where
  pub same : map (λ site. site.op) sites ≡ sites_of ops
  pub each : All (IsSite list facts) sites
