-- The refusal that an error is.
use Rattle.std.specs.Prelude.{Option, Some, None}
use Rattle.bpf_insn.specs.declared.codec_error.CodecError.{CodecError, TheVariants.{Refused, Memory}}

-- the refusal of an error, unless memory ran out
abbrev pub codec_refusal : CodecError → Option CodecError
codec_refusal Memory = None
codec_refusal (Refused fault slot) = Some (Refused fault slot)
