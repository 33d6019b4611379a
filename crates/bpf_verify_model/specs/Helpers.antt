-- The helpers that a program may call.
use Rattle.std.specs.Prelude.{ℤ, pos, negsuc, ◌==◌, if◌then◌else◌, Option, Some, None}
use Rattle.bpf_insn_types.specs.declared.insn.Callee.{Callee}
use Rattle.bpf_insn_types.specs.declared.insn.Callee.TheVariants as callee
use Rattle.bpf_verify_model.specs.declared.helper.Helper.{Helper, TheVariants.{Lookup, Loop}}

-- a helper by its number (bpf-helpers(7))
abbrev pub helper_numbered : ℤ → Option Helper
helper_numbered (pos number) = if number == 1 then Some Lookup else if number == 181 then Some Loop else None
helper_numbered (negsuc _) = None

-- the helper that a call names (RFC 9669, section 4.3.1)
abbrev pub helper_called : Callee → ℤ → Option Helper
helper_called callee.Helper imm = helper_numbered imm
helper_called _ imm = None
