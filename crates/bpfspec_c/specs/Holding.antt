-- What a handle owns.
use base.Fml.{Fml, ftrue}
use denote.RattleType.{RattleType}
use denote.RawPtr.{Ptr}
use Rattle.std.specs.declared.{option.Option.{Option, TheVariants.{None, Some}}, alloc.Global.{Global}}
use Rattle.std.specs.contracts.impls.GlobalAllocator.TheImpl.{ghosts}
use Rattle.std_alloc.specs.Box.Ownership.{box_owns}

-- the C library's heap
abbrev pub heap : Global
heap = record { memory = record { seal = tt } }

-- where there is a machine its box, and the right to free it; else nothing
abbrev pub holds : (R : RattleType) → Ptr → Option R.Denot → Fml
holds R at None = ftrue
holds R at (Some machine) = box_owns (ghosts.dealloc_token heap) R at machine
