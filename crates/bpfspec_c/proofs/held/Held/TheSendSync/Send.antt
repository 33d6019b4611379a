-- What a handle holds may go to another thread.
use mir.Raw.{raw}
use base.Fraction.{full_share}
use base.Shift.{Keyless}
use denote.Memory.{lone}
use denote.RawPtr.{Ptr, block_ptr, null_ptr}
use denote.Param.Send.{IsSend, part_keyless}
use Rattle.std.{specs.declared.option.Option.{Option, TheVariants.{None, Some}}, proofs.Crossing.{frees}}
use Rattle.bpfspec_machine.specs.contracts.machine.Machine.{the_row as machine_row}
use Rattle.bpfspec_machine.proofs.machine.Machine.TheSendSync.{the_send as machine_send}
use Rattle.bpfspec_c.specs.{Holding.{holds, heap}, contracts.held.Held.{the_row}}

holds_keyless : (at : Ptr) (machine : Option machine_row.Denot) → Keyless (holds machine_row at machine)
holds_keyless at None = tt
holds_keyless null_ptr (Some m) = (tt, frees.frees heap (raw (lone machine_row.mir)) null_ptr)
holds_keyless (block_ptr b o) (Some m) = (part_keyless machine_row machine_send full_share m b o, frees.frees heap (raw (lone machine_row.mir)) (block_ptr b o))

pub send : IsSend the_row
send = record { owned = λ h vs. ((λ vss. (tt, (tt, tt))), holds_keyless h.at h.machine); leaving = λ k d w. tt }
