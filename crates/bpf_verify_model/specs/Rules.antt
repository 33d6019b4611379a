-- The rules that an instruction breaks at a slot, and the least of them.
use Rattle.std.specs.Prelude.{ℕ, zero, suc, ℤ, pos, negsuc, ◌+◌, ◌*◌, ◌%◌, ◌==◌, Bool, true, false, not, ◌&&◌, ◌||◌}
use Rattle.std.specs.Prelude.{nat_eq, nat_lt, nat_le, if◌then◌else◌, List, [], ◌∷◌, ◌++◌, length, slice_get, Option}
use Rattle.std.specs.{Prelude.{Some, None, is_none, is_some}, List.{list_any}}
use Rattle.bpf_insn_types.specs.declared.insn.{AluOp.{AluOp, TheVariants.{Mov}}, AtomicOp.{AtomicOp}, Operand.{Operand}}
use Rattle.bpf_insn_types.specs.declared.insn.{AtomicOp.TheVariants.{Fetch, Xchg, Cmpxchg}, ImmKind.{ImmKind}}
use Rattle.bpf_insn_types.specs.{declared.insn.{Operand.TheVariants.{Imm, Reg}, Insn.{Insn}}, Slots.{slots_of}}
use Rattle.bpf_insn_types.specs.declared.insn.ImmKind.TheVariants.{MapFd, MapFdValue, Variable, Code as CodeKind}
use Rattle.bpf_insn_types.specs.declared.insn.ImmKind.TheVariants.{Map as MapKind, MapValue}
use Rattle.bpf_insn_types.specs.declared.insn.Insn.TheVariants.{Alu, Neg, Movsx, Endian, Ja, Ja32, Jump, Call, Exit}
use Rattle.bpf_insn_types.specs.declared.insn.Insn.TheVariants.{Load, LoadSx, StoreImm, Store, Atomic, LoadImm}
use Rattle.bpf_insn_types.specs.Program.{Program, moved, insn_at, named_by, function_of, leads_to}
use Rattle.bpf_insn_types.specs.declared.insn.Callee.TheVariants as callee
use Rattle.bpf_verify_model.specs.declared.{abstract_value.AbstractValue.{AbstractValue}, helper.Helper.{Helper}}
use Rattle.bpf_verify_model.specs.declared.abstract_value.AbstractValue.TheVariants.{Number, Frame, Ctx, Map, Code}
use Rattle.bpf_verify_model.specs.declared.{memory_access.MemoryAccess.{MemoryAccess}, rule.Rule.{Rule}}
use Rattle.bpf_verify_model.specs.declared.{helper.Helper.TheVariants.{Lookup, Loop}, state.State.{State}}
use Rattle.bpf_verify_model.specs.declared.rule.Rule.TheVariants.{JumpTarget, FallThrough, CodeTarget, TooManyCallbacks}
use Rattle.bpf_verify_model.specs.declared.rule.Rule.TheVariants.{UnknownHelper, CallKind, LoadKind, MissingMap}
use Rattle.bpf_verify_model.specs.declared.rule.Rule.TheVariants.{FramePointerWrite, UnwrittenRegister}
use Rattle.bpf_verify_model.specs.declared.rule.Rule.TheVariants.{ArithmeticOperand, ComparisonOperand, StoredOperand}
use Rattle.bpf_verify_model.specs.declared.rule.Rule.TheVariants.{AccessBase, AreaAccessSize, AccessAlignment}
use Rattle.bpf_verify_model.specs.declared.rule.Rule.TheVariants.{AccessBounds, UnwrittenByte, CtxWrite, HelperArgument}
use Rattle.bpf_verify_model.specs.declared.rule.Rule.TheVariants.{NestedCallback, CallbackResult, MainResult}
use Rattle.bpf_verify_model.specs.{States.{known_register}, Helpers.{helper_called}}
use Rattle.bpf_verify_model.specs.Values.{known_operand, known_result, is_number_value, is_unwritten, compares}
use Rattle.bpf_verify_model.specs.Accesses.{memory_access_of, is_memory, is_part_of_half, misses_alignment, is_outside}
use Rattle.bpf_verify_model.specs.Accesses.{has_unwritten_byte, kind_reads, kind_writes, is_ctx}

-- the distance of a jump
abbrev pub jump_distance : Insn → Option ℤ
jump_distance (Ja offset) = Some offset
jump_distance (Ja32 imm) = Some imm
jump_distance (Jump width compare dst operand offset) = Some offset
jump_distance _ = None

-- where a jump at a slot goes
abbrev pub jump_target : ℕ → Option ℤ → Option ℕ
jump_target slot None = None
jump_target slot (Some distance) = moved (slot + 1) distance

-- a later slot, where an instruction of the same function starts
abbrev pub leads_later : List Insn → ℕ → Option ℕ → Bool
leads_later insns slot None = false
leads_later insns slot (Some target) = nat_lt slot target && leads_to insns slot target

-- V3: a jump's target isn't a later slot where an instruction of the same function starts
abbrev pub jumps_astray : List Insn → ℕ → Insn → Bool
jumps_astray insns slot insn =
    is_some (jump_distance insn) && not (leads_later insns slot (jump_target slot (jump_distance insn)))

-- whether a function goes on after an instruction: it does but for an exit and the unconditional jumps
abbrev pub goes_on : Insn → Bool
goes_on (Ja offset) = false
goes_on (Ja32 imm) = false
goes_on Exit = false
goes_on _ = true

-- V4: it goes on, but no instruction of the same function follows
abbrev pub falls_off : List Insn → ℕ → Insn → Bool
falls_off insns slot insn = goes_on insn && not (leads_to insns slot (slot + slots_of insn))

-- whether an instruction is the load of a code address
abbrev pub is_code_kind : ImmKind → Bool
is_code_kind CodeKind = true
is_code_kind _ = false

abbrev pub is_code_load : Insn → Bool
is_code_load (LoadImm kind dst imm next_imm) = is_code_kind kind
is_code_load _ = false

-- whether an instruction starts at a slot
abbrev pub starts : List Insn → Option ℕ → Bool
starts insns None = false
starts insns (Some slot) = is_some (insn_at insns slot)

-- V5: a code address's target isn't the first slot of an instruction past the load
abbrev pub names_none : List Insn → ℕ → Insn → Bool
names_none insns slot insn = is_code_load insn && not (starts insns (named_by slot insn))

-- the slot that is named by the instruction at a slot, if one is there
abbrev pub named_at : ℕ → Option Insn → Option ℕ
named_at slot None = None
named_at slot (Some insn) = named_by slot insn

-- a target, if it is a new one
abbrev pub with_target : List ℕ → Option ℕ → List ℕ
with_target targets None = targets
with_target targets (Some target) = if list_any (nat_eq target) targets then targets else targets ++ target ∷ []

-- the targets of the code addresses in the first n slots, each once
abbrev pub targets_in : List Insn → ℕ → List ℕ
targets_in insns zero = []
targets_in insns (suc slot) = with_target (targets_in insns slot) (named_at slot (insn_at insns slot))

-- V6: the code addresses up to this slot have more than 15 targets
abbrev pub has_too_many : List ℕ → Bool
has_too_many targets = nat_lt 15 (length targets)

-- V7: a helper other than 1 and 181
abbrev pub calls_no_helper : Insn → Bool
calls_no_helper (Call callee.Helper imm) = is_none (helper_called callee.Helper imm)
calls_no_helper _ = false

-- V8: a call of another kind
abbrev pub calls_otherwise : Insn → Bool
calls_otherwise (Call callee.Helper imm) = false
calls_otherwise (Call callee imm) = true
calls_otherwise _ = false

-- V9: a load of a map's file descriptor or of a variable
abbrev pub is_outer_kind : ImmKind → Bool
is_outer_kind MapFd = true
is_outer_kind MapFdValue = true
is_outer_kind Variable = true
is_outer_kind _ = false

abbrev pub loads_outer : Insn → Bool
loads_outer (LoadImm kind dst imm next_imm) = is_outer_kind kind
loads_outer _ = false

-- how many values a map has, if there is one of this number
abbrev pub count_of_map : List ℕ → ℤ → Option ℕ
count_of_map sizes (pos map) = slice_get sizes map
count_of_map sizes (negsuc _) = None

-- whether a byte of a map's values is there
abbrev pub has_byte : Option ℕ → ℤ → Bool
has_byte None offset = false
has_byte (Some count) (pos offset) = nat_lt offset (8 * count)
has_byte (Some count) (negsuc _) = false

-- V10: no such map, or no such byte of its values
abbrev pub lacks_map : List ℕ → ImmKind → ℤ → ℤ → Bool
lacks_map sizes MapKind imm next_imm = is_none (count_of_map sizes imm)
lacks_map sizes MapValue imm next_imm = not (has_byte (count_of_map sizes imm) next_imm)
lacks_map sizes _ imm next_imm = false

abbrev pub loads_no_map : List ℕ → Insn → Bool
loads_no_map sizes (LoadImm kind dst imm next_imm) = lacks_map sizes kind imm next_imm
loads_no_map sizes _ = false

-- the register that an atomic operation writes is R10
abbrev pub fetches_into_r10 : AtomicOp → ℕ → Bool
fetches_into_r10 (Fetch op) src = src == 10
fetches_into_r10 Xchg src = src == 10
fetches_into_r10 _ src = false

-- V11: the instruction writes R10, the frame pointer
abbrev pub writes_r10 : Insn → Bool
writes_r10 (Alu width op dst operand) = dst == 10
writes_r10 (Neg width dst) = dst == 10
writes_r10 (Movsx width bits dst src) = dst == 10
writes_r10 (Endian order bits dst) = dst == 10
writes_r10 (Load size dst src offset) = dst == 10
writes_r10 (LoadSx size dst src offset) = dst == 10
writes_r10 (Atomic width op dst src offset) = fetches_into_r10 op src
writes_r10 (LoadImm kind dst imm next_imm) = dst == 10
writes_r10 _ = false

abbrev pub unwritten_register : State → ℕ → Bool
unwritten_register state r = is_unwritten (known_register state r)

-- the same of an operand, and of what an atomic operation compares with
abbrev pub unwritten_operand : State → Operand → Bool
unwritten_operand state (Imm imm) = false
unwritten_operand state (Reg r) = unwritten_register state r

abbrev pub unwritten_compared : State → AtomicOp → Bool
unwritten_compared state Cmpxchg = unwritten_register state 0
unwritten_compared state _ = false

-- the same of a helper's arguments: two of a lookup, and four of a loop
abbrev pub unwritten_arguments : State → Option Helper → Bool
unwritten_arguments state (Some Lookup) = unwritten_register state 1 || unwritten_register state 2
unwritten_arguments state (Some Loop) = unwritten_register state 1 || unwritten_register state 2
    || unwritten_register state 3 || unwritten_register state 4
unwritten_arguments state None = false

-- the same of arithmetic's operands: a move reads its second alone
abbrev pub unwritten_operands : State → AluOp → ℕ → Operand → Bool
unwritten_operands state Mov dst operand = unwritten_operand state operand
unwritten_operands state op dst operand = unwritten_register state dst || unwritten_operand state operand

-- V12: it reads an unwritten register
abbrev pub reads_unwritten : State → Insn → Bool
reads_unwritten state (Alu width op dst operand) = unwritten_operands state op dst operand
reads_unwritten state (Neg width dst) = unwritten_register state dst
reads_unwritten state (Movsx width bits dst src) = unwritten_register state src
reads_unwritten state (Endian order bits dst) = unwritten_register state dst
reads_unwritten state (Jump width compare dst operand offset) = unwritten_register state dst || unwritten_operand state
    operand
reads_unwritten state (Call callee imm) = unwritten_arguments state (helper_called callee imm)
reads_unwritten state Exit = unwritten_register state 0
reads_unwritten state (Load size dst src offset) = unwritten_register state src
reads_unwritten state (LoadSx size dst src offset) = unwritten_register state src
reads_unwritten state (StoreImm size dst offset imm) = unwritten_register state dst
reads_unwritten state (Store size dst src offset) = unwritten_register state dst || unwritten_register state src
reads_unwritten state (Atomic width op dst src offset) = unwritten_register state dst || unwritten_register state src
    || unwritten_compared state op
reads_unwritten state _ = false

-- V13: arithmetic with an operand that isn't of a kind that it takes
abbrev pub has_wrong_arithmetic_operands : State → Insn → Bool
has_wrong_arithmetic_operands state (Alu width op dst operand) =
    is_none (known_result width op (known_register state dst) (known_operand state operand))
has_wrong_arithmetic_operands state (Neg width dst) = not (is_number_value (known_register state dst))
has_wrong_arithmetic_operands state (Movsx width bits dst src) = not (is_number_value (known_register state src))
has_wrong_arithmetic_operands state (Endian order bits dst) = not (is_number_value (known_register state dst))
has_wrong_arithmetic_operands state _ = false

-- V14: a comparison with an operand that isn't of a kind that it takes
abbrev pub has_wrong_comparison_operands : State → Insn → Bool
has_wrong_comparison_operands state (Jump width compare dst operand offset) =
    not (compares state width compare operand (known_register state dst))
has_wrong_comparison_operands state _ = false

-- whether what an atomic operation compares with isn't a number
abbrev pub compares_with_no_number : State → AtomicOp → Bool
compares_with_no_number state Cmpxchg = not (is_number_value (known_register state 0))
compares_with_no_number state _ = false

-- V15: what is stored, or an atomic operation's operand, isn't a number
abbrev pub stores_no_number : State → Insn → Bool
stores_no_number state (Store size dst src offset) = not (is_number_value (known_register state src))
stores_no_number state (Atomic width op dst src offset) = not (is_number_value (known_register state src))
    || compares_with_no_number state op
stores_no_number state _ = false

-- V16, V17, V18, V19: the base of an access isn't the address of memory; an access of a map's values isn't of 8 or 4
-- bytes;
-- an access isn't aligned; an access isn't within its frame or its map's values
abbrev pub place_fault : List ℕ → MemoryAccess → AbstractValue → Option Rule
place_fault sizes access base =
    if not (is_memory base) then Some AccessBase
    else if is_part_of_half access.size base then Some AreaAccessSize
    else if misses_alignment access.size access.offset base then Some AccessAlignment
    else if is_outside sizes access.size access.offset base then Some AccessBounds
    else None

-- V20 of an access: a byte that is read isn't written. V21: a callback writes main's frame
abbrev pub bytes_fault : State → MemoryAccess → AbstractValue → Option Rule
bytes_fault state access base =
    if kind_reads access.kind && has_unwritten_byte state access.size access.offset base then Some UnwrittenByte
    else if kind_writes access.kind && is_ctx base then Some CtxWrite
    else None

-- the first of two
abbrev pub or_else : {A : Type 0} → Option A → Option A → Option A
or_else (Some a) later = Some a
or_else None later = later

-- V16, V17, V18, V19, V20 and V21, of the access that an instruction makes
abbrev pub access_fault : List ℕ → State → Option MemoryAccess → Option Rule
access_fault sizes state None = None
access_fault sizes state (Some access) =
    or_else (place_fault sizes access (known_register state access.base))
    (bytes_fault state access (known_register state access.base))

-- the address of a key: a multiple of 4, with 4 bytes in a frame from there on
abbrev pub is_key_position : ℕ → Bool
is_key_position position = (position % 4 == 0) && nat_le position 508

abbrev pub is_key : AbstractValue → Bool
is_key (Frame position) = is_key_position position
is_key (Ctx position) = is_key_position position
is_key _ = false

-- whether it is a map, or a callback
abbrev pub is_map : AbstractValue → Bool
is_map (Map map) = true
is_map _ = false

abbrev pub is_code : AbstractValue → Bool
is_code (Code start) = true
is_code _ = false

-- ctx of a loop: an address of main's frame, or the number 0
abbrev pub is_ctx_argument : AbstractValue → Bool
is_ctx_argument (Frame position) = true
is_ctx_argument (Number number) = number.hi == 0
is_ctx_argument _ = false

-- V22 of a loop: its arguments aren't a number, a callback, ctx and a number
abbrev pub has_wrong_loop_arguments : State → Bool
has_wrong_loop_arguments state =
    not (is_number_value (known_register state 1)) || not (is_code (known_register state 2))
    || not (is_ctx_argument (known_register state 3))
    || not (is_number_value (known_register state 4))

-- V20 of a lookup: a byte of its key isn't written. V22: its arguments aren't a map and the address of a key
abbrev pub helper_fault : State → Option Helper → Option Rule
helper_fault state None = None
helper_fault state (Some Lookup) =
    if has_unwritten_byte state 4 (pos 0) (known_register state 2) then Some UnwrittenByte
    else if not (is_map (known_register state 1)) || not (is_key (known_register state 2)) then Some HelperArgument
    else None
helper_fault state (Some Loop) = if has_wrong_loop_arguments state then Some HelperArgument else None

-- of a call
abbrev pub call_fault : State → Insn → Option Rule
call_fault state (Call callee imm) = helper_fault state (helper_called callee imm)
call_fault state _ = None

-- V12 to V15: what an instruction reads
abbrev pub operand_fault : State → Insn → Option Rule
operand_fault state insn =
    if reads_unwritten state insn then Some UnwrittenRegister
    else if has_wrong_arithmetic_operands state insn then Some ArithmeticOperand
    else if has_wrong_comparison_operands state insn then Some ComparisonOperand
    else if stores_no_number state insn then Some StoredOperand
    else None

-- the least of V12 to V22 that an instruction breaks in a state
unfoldable pub state_fault : List ℕ → State → Insn → Option Rule
state_fault sizes state insn =
    or_else (operand_fault state insn) (or_else (access_fault sizes state (memory_access_of insn))
    (call_fault state insn))

-- the least of V7 to V11 that an instruction breaks wherever it is
unfoldable pub insn_fault : List ℕ → Insn → Option Rule
insn_fault sizes insn =
    if calls_no_helper insn then Some UnknownHelper
    else if calls_otherwise insn then Some CallKind
    else if loads_outer insn then Some LoadKind
    else if loads_no_map sizes insn then Some MissingMap
    else if writes_r10 insn then Some FramePointerWrite
    else None

-- the least of V3 to V6 that an instruction breaks at a slot
unfoldable pub slot_fault : List Insn → ℕ → Insn → Option Rule
slot_fault insns slot insn =
    if jumps_astray insns slot insn then Some JumpTarget
    else if falls_off insns slot insn then Some FallThrough
    else if names_none insns slot insn then Some CodeTarget
    else if has_too_many (targets_in insns (slot + 1)) then Some TooManyCallbacks
    else None

-- whether an instruction calls a loop, or names a callback
abbrev pub is_loop : Option Helper → Bool
is_loop (Some Loop) = true
is_loop _ = false

abbrev pub uses_callbacks : Insn → Bool
uses_callbacks (Call callee imm) = is_loop (helper_called callee imm)
uses_callbacks (LoadImm kind dst imm next_imm) = is_code_kind kind
uses_callbacks _ = false

-- V23: a callback calls a loop or names a callback
abbrev pub callback_fault : ℕ → Insn → Option Rule
callback_fault zero insn = None
callback_fault (suc _) insn = if uses_callbacks insn then Some NestedCallback else None

-- what a callback ends with: 0 or 1
abbrev pub is_bit : AbstractValue → Bool
is_bit (Number number) = nat_le number.hi 1
is_bit _ = false

-- V24: a callback doesn't end with 0 or 1. V25: main doesn't end with a number. Main is function 0
abbrev pub end_fault : ℕ → AbstractValue → Option Rule
end_fault zero value = if is_number_value value then None else Some MainResult
end_fault (suc _) value = if is_bit value then None else Some CallbackResult

abbrev pub exit_fault : ℕ → State → Insn → Option Rule
exit_fault function state Exit = end_fault function (known_register state 0)
exit_fault function state _ = None

-- a rule that holds where a slot is reached
abbrev pub reached : (State → Option Rule) → Option State → Option Rule
reached fault None = None
reached fault (Some state) = fault state

-- the least rule that an instruction breaks at a slot; before is the abstract state there, if the slot is reached
unfoldable pub fault_of : Program → ℕ → Insn → Option State → Option Rule
fault_of program slot insn before =
    or_else (slot_fault program.insns slot insn)
    (or_else (insn_fault program.sizes insn)
    (or_else (reached (λ state. state_fault program.sizes state insn) before)
    (or_else (callback_fault (function_of program.insns slot) insn)
    (reached (λ state. exit_fault (function_of program.insns slot) state insn) before))))
