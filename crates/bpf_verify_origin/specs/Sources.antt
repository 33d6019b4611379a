-- Where the value of a register comes from.
use Rattle.std.specs.Prelude.{ℕ, zero, suc, ◌+◌, ◌==◌, ◌&&◌, not, nat_le, Bool, true, false, if◌then◌else◌, Option}
use Rattle.std.specs.Prelude.{Some, None}
use Rattle.bpf_insn_types.specs.declared.insn.AtomicOp.{AtomicOp, TheVariants.{Simple, Fetch, Xchg, Cmpxchg}}
use Rattle.bpf_insn_types.specs.{declared.insn.Insn.{Insn, TheVariants.{LoadImm}}, Program.{Program, insn_at}}
use Rattle.bpf_insn_types.specs.declared.insn.Insn.TheVariants.{Alu, Neg, Movsx, Endian, Call, Load, LoadSx, Atomic}
use Rattle.bpf_verify_origin.specs.declared.inflow.Inflow.{Inflow, TheVariants.{Nowhere, One, Several}}
use Rattle.bpf_verify_origin.specs.declared.source.Source.{Source, TheVariants.{Start, Written, Entered, Meeting}}
use Rattle.bpf_verify_origin.specs.Edges.{inflow}

-- an atomic operation that fetches or exchanges writes its source register, and one that compares R0
abbrev pub fetches : AtomicOp → (src reg : ℕ) → Bool
fetches (Fetch op) src reg = src == reg
fetches Xchg src reg = src == reg
fetches Cmpxchg src reg = reg == 0
fetches (Simple op) src reg = false

-- whether an instruction writes a register; a call gives R0 and forgets R1 to R5
abbrev pub writes_register : Insn → ℕ → Bool
writes_register (Alu width op dst operand) reg = dst == reg
writes_register (Neg width dst) reg = dst == reg
writes_register (Movsx width bits dst src) reg = dst == reg
writes_register (Endian order bits dst) reg = dst == reg
writes_register (Load size dst src offset) reg = dst == reg
writes_register (LoadSx size dst src offset) reg = dst == reg
writes_register (LoadImm kind dst imm next_imm) reg = dst == reg
writes_register (Atomic width op dst src offset) reg = fetches op src reg
writes_register (Call callee imm) reg = nat_le reg 5
writes_register _ reg = false

abbrev pub is_call : Insn → Bool
is_call (Call callee imm) = true
is_call _ = false

-- the source that an instruction at one slot is to a register before another, to which all edges come from it: a call
-- that doesn't go on there enters a callback; else the instruction may write the register, or leave it as it is
abbrev pub source_through : Insn → (from slot reg : ℕ) → Option Source
source_through insn from slot reg =
    if is_call insn && not (slot == from + 1) then Some (Entered from)
    else if writes_register insn reg then Some (Written from)
    else None

-- a source, or that of the same register at an earlier slot
abbrev pub or_earlier : Option Source → Source → Source
or_earlier (Some source) earlier = source
or_earlier None earlier = earlier

-- the source by the instruction at the one slot from which edges lead to another; earlier is the source before it
abbrev pub source_by_insn : (from slot reg : ℕ) → Option Insn → Source → Source
source_by_insn from slot reg None earlier = Start
source_by_insn from slot reg (Some insn) earlier = or_earlier (source_through insn from slot reg) earlier

-- the source by the edges into a slot, of the instructions at slots; earlier has the sources before other slots
abbrev pub source_by_inflow : (slot reg : ℕ) → (ℕ → Option Insn) → (earlier : ℕ → Source) → Inflow → Source
source_by_inflow slot reg insns earlier Nowhere = Start
source_by_inflow slot reg insns earlier (One from) = source_by_insn from slot reg (insns from) (earlier from)
source_by_inflow slot reg insns earlier Several = Meeting slot

-- the source before a slot of a program, by those before other slots; at slot 0 main starts
abbrev pub source_back : Program → (slot reg : ℕ) → (earlier : ℕ → Source) → Source
source_back program slot reg earlier =
    if slot == 0 then Start else source_by_inflow slot reg (insn_at program.insns) earlier (inflow program slot)

-- the source before a slot among the first n: edges lead from earlier slots to later ones
unfoldable pub source_among : Program → (count slot reg : ℕ) → Source
source_among program zero slot reg = Start
source_among program (suc count) slot reg =
    if slot == count then source_back program slot reg (λ from. source_among program count from reg)
    else source_among program count slot reg

-- where the value of a register before a slot comes from
abbrev pub source_before : Program → (slot reg : ℕ) → Source
source_before program slot reg = source_among program (slot + 1) slot reg
