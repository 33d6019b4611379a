-- The numbers of faults, by which they are printed and the least of several is found.
use Rattle.std.specs.Prelude.{ℕ}
use Rattle.bpf_insn.specs.declared.codec_error.CodecFault.{CodecFault}
use Rattle.bpf_insn.specs.declared.codec_error.CodecFault.TheVariants as faults

-- a fault's number
abbrev pub codec_fault_number : CodecFault → ℕ
codec_fault_number faults.Incomplete = 1
codec_fault_number faults.UnknownOpcode = 2
codec_fault_number faults.RegisterNumber = 3
codec_fault_number faults.FieldNotZero = 4
codec_fault_number faults.CallSource = 4
codec_fault_number faults.LoadKind = 4
codec_fault_number faults.Immediate = 5
codec_fault_number faults.Offset = 6
codec_fault_number faults.SecondSlot = 7
