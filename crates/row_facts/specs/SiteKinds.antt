-- What is done at the accesses of a list.
use Rattle.std.specs.{Prelude.{◌≡◌, List}, List.{AllZip}}
use Rattle.bpf_insn_types.specs.declared.insn.{SimpleOp.{SimpleOp}, Width.{Width, TheVariants.{W32, W64}}}
use Rattle.bpf_step_model.specs.Step.{map_operator}
use Rattle.lane_stamps.specs.declared.{kind.Kind.{Kind}, site.Site.{Site}}
use Rattle.row_list.specs.declared.row_op.RowOp.{RowOp, TheVariants.{Load, Store, Reduce}}
use Rattle.row_facts.specs.Sites.{sites_of}

abbrev pub by_width : Width → (whole half : Kind) → Kind
by_width W64 whole half = whole
by_width W32 whole half = half

-- what is done at the site of an access; of other operations nothing is said
abbrev pub kind_of : RowOp → Kind
kind_of (Load place extension) = by_width place.width Kind.Load Kind.LoadHalf
kind_of (Store place value) = by_width place.width Kind.Store Kind.Replace
kind_of (Reduce place op value) = by_width place.width (Kind.Apply (map_operator op)) Kind.AddHalf
kind_of _ = Kind.Load

abbrev pub IsAddition : Width → SimpleOp → Type 0
IsAddition W64 op = Unit {0}
IsAddition W32 SimpleOp.Add = Unit {0}
IsAddition W32 _ = ⊥

-- accesses that have a site: all but fetches, and reductions of halves by other operators than addition
abbrev pub HasSite : RowOp → Type 0
HasSite (Load place extension) = Unit {0}
HasSite (Store place value) = Unit {0}
HasSite (Reduce place op value) = IsAddition place.width op
HasSite _ = ⊥

-- a site is that of an access
pub record IsKindOf (op : RowOp) (site : Site) : Type 0 where
  pub has : HasSite op
  pub kind : site.kind ≡ kind_of op

-- accesses are those of a list, and sites theirs
pub record AreListed (list : List RowOp) (accesses : List RowOp) (sites : List Site) : Type 0 where
  pub all : accesses ≡ sites_of list
  pub kinds : AllZip IsKindOf accesses sites
