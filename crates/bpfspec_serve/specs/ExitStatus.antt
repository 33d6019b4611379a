-- The program's exit status.
use Rattle.std.specs.Prelude.{ℕ}
use Rattle.bpfspec_serve.specs.declared.program_end.ProgramEnd.{ProgramEnd, TheVariants.{Served, Usage}}
use Rattle.bpfspec_serve.specs.declared.serving.Served.TheVariants.{Done, Refused, Text, Memory, Device}

-- 0 where it is done, and for help and the version; 1 for a refusal, 2 for one of a text; 3 where the command line asks
-- for nothing; 4 where memory ran out; 5 where a read or a write failed
abbrev pub exit_status : ProgramEnd → ℕ
exit_status (Served Done) = 0
exit_status (Served Refused) = 1
exit_status (Served Text) = 2
exit_status Usage = 3
exit_status (Served Memory) = 4
exit_status (Served Device) = 5
