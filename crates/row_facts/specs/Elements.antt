-- Elements that lanes touch, and lines that have none in common.
use Rattle.std.specs.Prelude.{◌≡◌, ℕ, ◌+◌, ◌/◌, ◌<◌, ◌≤◌, Bool, true, false, List, Some}
use Rattle.bpf_insn_types.specs.declared.insn.Width.{Width, TheVariants.{W32, W64}}
use Rattle.row_list.specs.declared.row_op.{Place.{Place}, RowOp.{RowOp, TheVariants.{Load, Store, Reduce, Fetch}}}
use Rattle.row_list.specs.{Places.{place_in}, Rows.{byte_at, is_in}}
use Rattle.row_facts.specs.{declared.lines.Line.{Line}, Facts.{IsOnLine}}

-- a lane of these values makes an access, of this element
pub record Touches (op : RowOp) (values : List ℕ) (element : ℕ) : Type 0 where
  pub place : Place
  pub is : place_in op ≡ Some place
  pub there : is_in values place.mask ≡ true
  pub at : byte_at values place / 8 ≡ element

abbrev pub is_half : Width → Bool
is_half W32 = true
is_half W64 = false

-- an access reads its element, for the verdict: all but a store of a whole word does
abbrev pub reads : RowOp → Bool
reads (Load place extension) = true
reads (Store place value) = is_half place.width
reads (Reduce place op value) = true
reads (Fetch place op value compare) = true
reads _ = false

-- numbers on two lines, of indexes below n, are never in one element, where the first is at least so many indexes after
-- the second
pub record AreLinesClear (first second : Line) (from n : ℕ) : Type 0 where
  pub never : (index later x y : ℕ) → index + from ≤ later → later < n → IsOnLine first later x →
      IsOnLine second index y → x / 8 ≡ y / 8 → ⊥
