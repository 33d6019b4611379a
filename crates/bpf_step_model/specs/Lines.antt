-- Lines that worked programs are made of, and what such programs give.
use Rattle.std.specs.Prelude.{◌≡◌, ℕ, ℤ, pos, negsuc, List, [], ◌∷◌}
use Rattle.bpf_insn_types.specs.declared.insn.{Size.TheVariants.{Dw}, Width.TheVariants.{W64}, AluOp.{AluOp}}
use Rattle.bpf_insn_types.specs.declared.insn.{AluOp.TheVariants.{Add, Sub, Lsh, Mov}, Operand.TheVariants.{Imm, Reg}}
use Rattle.bpf_insn_types.specs.declared.insn.{Callee.TheVariants.{Helper}, ImmKind.TheVariants.{Code, Map, MapValue}}
use Rattle.bpf_insn_types.specs.declared.insn.Insn.{Insn, TheVariants.{Alu, Call, Exit, Load, StoreImm, LoadImm}}
use Rattle.bpf_insn_types.specs.Program.{Program}
use Rattle.bpf_step_model.specs.{Run.{Ended, Stuck, mapped}, ProgramInOrder.{Finished, program_in_order}}

-- mov64 r, n
abbrev pub mov : ℕ → ℕ → Insn
mov r n = Alu W64 Mov r (Imm (pos n))

-- an operation of 64 bits with an immediate and with a register
abbrev pub alu_imm : AluOp → ℕ → ℕ → Insn
alu_imm op r n = Alu W64 op r (Imm (pos n))

abbrev pub alu_reg : AluOp → ℕ → ℕ → Insn
alu_reg op dst src = Alu W64 op dst (Reg src)

-- ldmapval r, map, offset
abbrev pub map_value : ℕ → ℕ → ℕ → Insn
map_value r map offset = LoadImm MapValue r (pos map) (pos offset)

-- st64 [r10+offset], n
abbrev pub store_imm : ℤ → ℕ → Insn
store_imm offset n = StoreImm Dw 10 offset (pos n)

-- ldx64 r0, [r10-8] and exit
abbrev pub read_top : List Insn
read_top = Load Dw 0 10 (negsuc 7) ∷ Exit ∷ []

-- a map is looked up by the key that begins n bytes below r10
abbrev pub look_up : (map below : ℕ) → List Insn
look_up map below = LoadImm Map 1 (pos map) (pos 0) ∷ alu_reg Mov 2 10 ∷ alu_imm Sub 2 below ∷ Call Helper (pos 1) ∷ []

-- mov64 r0, 0 and exit
abbrev pub end : List Insn
end = mov 0 0 ∷ Exit ∷ []

-- r3 becomes the address of element r1 of map 0
abbrev pub element_address : List Insn
element_address = alu_reg Mov 2 1 ∷ alu_imm Lsh 2 3 ∷ map_value 3 0 0 ∷ alu_reg Add 3 2 ∷ []

-- main calls bpf_loop with n iterations, no ctx and these flags at slot 5; the callback's lines start at slot 7
abbrev pub loop_with : (n flags : ℕ) → List Insn → List Insn
loop_with n flags callback =
    mov 1 n ∷ LoadImm Code 2 (pos 5) (pos 0) ∷ mov 3 0 ∷ mov 4 flags ∷ Call Helper (pos 181) ∷ Exit ∷ callback

abbrev pub loop_of : ℕ → List Insn → List Insn
loop_of n callback = loop_with n 0 callback

-- the words that a program leaves
abbrev pub final_words : Finished → List ℕ
final_words f = f.words

-- a program over one map of two elements
abbrev pub over_two : List Insn → Program
over_two insns = record { sizes = 2 ∷ []; insns = insns }

-- from these two elements the lines return this and leave those
abbrev pub LinesGive : List Insn → (first second ret first' second' : ℕ) → Type 0
LinesGive insns first second ret first' second' =
    program_in_order (over_two insns) 20 0 (first ∷ second ∷ []) ≡ Ended (record {
      ret = ret;
      loops = [];
      words = first'
          ∷ second' ∷ [];
    })

-- the lines return this, and touch no map
abbrev pub Returns : List Insn → ℕ → Type 0
Returns insns ret = LinesGive insns 0 0 ret 0 0

-- the lines, whatever they return, turn these two elements into those
abbrev pub LinesLeave : List Insn → (first second first' second' : ℕ) → Type 0
LinesLeave insns first second first' second' =
    mapped final_words (program_in_order (over_two insns) 20 0 (first ∷ second ∷ [])) ≡ Ended (first' ∷ second' ∷ [])

-- the lines come to a place where there is no step
abbrev pub IsStuck : List Insn → Type 0
IsStuck insns = program_in_order (over_two insns) 20 0 (0 ∷ 0 ∷ []) ≡ Stuck
