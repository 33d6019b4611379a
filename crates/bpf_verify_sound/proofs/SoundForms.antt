-- What each instruction does keeps a machine sound.
use Rattle.array_maps.specs.Accesses.{combined, changed, exchanged, left_by}
use Rattle.array_maps.specs.{Halves.{half_of, of_halves, with_half, halves_added, part_of}, declared.access.Half.{Half}}
use Rattle.array_maps.specs.declared.access.{Half.TheVariants.{Low, High}, Op.{Op}, Part.{Part}}
use Rattle.array_maps.specs.declared.access.{Part.TheVariants.{Whole, Half as Of}, Rmw.{Rmw}}
use Rattle.array_maps.specs.declared.access.Rmw.TheVariants.{Op as Applies, Xchg, CmpXchg}
use Rattle.bpf_insn_types.{proofs.WordLaws.{modulus-most}, specs.Program.{Program, callback_starts, code_target}}
use Rattle.bpf_insn_types.specs.{Sizes.{bytes_of, atomic_bytes}, Slots.{slots_of}, Values.{InsnFits, OperandFits}}
use Rattle.bpf_insn_types.specs.{WordBounds.{ResultsFit}, Words.{alu, word_of, negated, moved_signed, in_order}}
use Rattle.bpf_insn_types.specs.declared.extension.Extension.{Extension, TheVariants.{Zeros, Signs}}
use Rattle.bpf_insn_types.specs.declared.insn.{AluOp.{AluOp, TheVariants.{Add, Sub, Mov}}, AtomicOp.{AtomicOp}}
use Rattle.bpf_insn_types.specs.declared.insn.{AtomicOp.TheVariants.{Simple}, ImmKind.{ImmKind}}
use Rattle.bpf_insn_types.specs.declared.insn.ImmKind.TheVariants.{Number, Code as CodeKind, Map as MapKind, MapValue}
use Rattle.bpf_insn_types.specs.declared.insn.Insn.{Insn}
use Rattle.bpf_insn_types.specs.declared.insn.Insn.TheVariants.{LoadImm, Alu, Neg, Movsx, Endian, Load as LoadInsn}
use Rattle.bpf_insn_types.specs.declared.insn.Insn.TheVariants.{LoadSx, StoreImm, Store as StoreInsn}
use Rattle.bpf_insn_types.specs.declared.insn.{Operand.{Operand, TheVariants.{Imm, Reg}}, Width.{Width}}
use Rattle.bpf_insn_types.specs.declared.insn.Width.TheVariants.{W32, W64}
use Rattle.bpf_step_model.specs.AtomicRegisters.{told_register}
use Rattle.bpf_step_model.specs.{Memory.{with_low_byte, number_of, number_at, written_at}, ProgramInOrder.{resumed}}
use Rattle.bpf_step_model.specs.Run.{part_bytes, after_request, action_of}
use Rattle.bpf_step_model.specs.SoundMachine.{SoundMachine, SoundValue, SoundByte, SoundFrame, SoundCaller, SoundCtx}
use Rattle.bpf_step_model.specs.SoundMachine.{SoundCall}
use Rattle.bpf_step_model.specs.State.{Value, Unwritten, Word, Frame, Ctx, Area, Bytes, Map, Code, Machine, register}
use Rattle.bpf_step_model.specs.State.{advanced, at_slot, with_register, with_frame, after_call}
use Rattle.bpf_step_model.specs.Step.{lookup_result, puts, insn_step, StepOutcome, NoStep, Next, Asks, Loops, Refuses}
use Rattle.bpf_step_model.specs.Step.{Exits, extended, loaded, caller_number, store_of, map_operator, half_operator}
use Rattle.bpf_step_model.specs.Step.{request_of, map_named, area_named, code_named, wide_value}
use Rattle.bpf_step_model.specs.Values.{on_word, on_words, copied, within_frame, area_address, shifted, result_of}
use Rattle.bpf_step_model.specs.Values.{operand_value}
use Rattle.bpf_verify_sound.proofs.ByteLaws.{byte-below, length-low}
use Rattle.bpf_verify_sound.proofs.{MemoryForms.{extended-below, size-most, part-below}, Operands.{word-fits}}
use Rattle.bpf_verify_sound.proofs.RegisterLaws.{all-set, all-at}
use Rattle.bpf_verify_sound.proofs.StepCases.{FromFrame, Sets, stored_value, HasCtx, step-cases, refused-word}
use Rattle.bpf_verify_sound.proofs.{StepCases.{valid-few}, Tests.{if-either}}
use Rattle.std.proofs.Common.{ℕ, zero, suc, ◌+◌, ◌-◌, ◌/◌, ◌^◌, ◌<◌, ◌≤◌, List, [], ◌∷◌, ◌++◌, length, take, drop, map}
use Rattle.std.proofs.{Common.{Option, Some, None, arith, ◌≡◌, ◌*◌, set, ◌∙◌, subst}, Math.ListN.{length-set}}
use Rattle.std.proofs.{Math.Nat.{pow-suc, pow-le-pow_right}, lemmas.{Bool.Decides.{nat_tests}, Int.{ints}}}
use Rattle.std.proofs.lemmas.List.{length-take, length-take-le, length-drop, length-append}
use Rattle.std.specs.{Int.{bytes_low_first, w32}, List.{AllByRecursion, list_any}}
use Rattle.std.specs.Prelude.{nat_le, ◌==◌, slice_range, ℤ, pos, negsuc, nat_lt, slice_get, FitsSigned}
use Rattle.array_maps.specs.declared.access.Op.TheVariants as op

-- a value, if there is one
abbrev pub SoundIf : Program → Option Value → Type 0
SoundIf program None = Unit {0}
SoundIf program (Some v) = SoundValue program v

alu-word : ResultsFit → (width : Width) (op : AluOp) (a b : ℕ) → alu width op a b < 2 ^ 64
alu-word fit width op a b = omega (arith, fit.alu_fits width op a b, modulus-most width)

pub word-sound : (program : Program) (f : ℕ → ℕ) (v : Value) → ((n : ℕ) → f n < 2 ^ 64) → SoundIf program (on_word f v)
word-sound program f (Word n) fits = fits n
word-sound program f v fits = tt

words-sound : ResultsFit → (program : Program) (width : Width) (op : AluOp) (v w : Value)
    → SoundIf program (on_words width op v w)
words-sound fit program width op (Word a) (Word b) = alu-word fit width op a b
words-sound fit program width op v w = tt

copied-sound : (program : Program) (v : Value) → SoundValue program v → SoundIf program (copied W64 v)
copied-sound program Unwritten i = tt
copied-sound program v i = i

within-sound : (program : Program) (address : ℕ → Value) → ((p : ℕ) → p ≤ 512 → SoundValue program (address p))
    → (p : ℕ) → SoundIf program (within_frame address p)
within-sound program address fits p =
    if-either (SoundIf program) (nat_le p 512) (λ e. fits p (grind (arith, nat_tests))) (λ e. tt)

pub area-sound : (program : Program) (m o : ℕ) → m < length program.sizes → SoundIf program (area_address m o)
area-sound program m o inside = if-either (SoundIf program) (nat_le o 524288)
    (λ e. let few : o ≤ 524288 = grind (arith, nat_tests) in (inside, few)) (λ e. tt)

moved-sound : ResultsFit → (program : Program) (op : AluOp) (v w : Value) → SoundValue program v
    → SoundIf program (shifted W64 op v w)
moved-sound fit program op (Frame p) (Word n) i = within-sound program Frame (λ q h. h) (alu W64 op p n)
moved-sound fit program op (Ctx p) (Word n) i = within-sound program Ctx (λ q h. h) (alu W64 op p n)
moved-sound fit program Add (Area m o) (Word n) i = area-sound program m (o + n) i.0
moved-sound fit program op (Word a) (Word b) i = alu-word fit W64 op a b
moved-sound fit program op v w i = tt

pub result-sound : ResultsFit → (program : Program) (width : Width) (op : AluOp) (v w : Value) → SoundValue program v
    → SoundValue program w → SoundIf program (result_of width op v w)
result-sound fit program W64 Mov v w i j = copied-sound program w j
result-sound fit program W32 Mov v w i j = word-sound program (alu W32 Mov 0) w (λ n. alu-word fit W32 Mov 0 n)
result-sound fit program W64 Add v w i j = moved-sound fit program Add v w i
result-sound fit program W64 Sub v w i j = moved-sound fit program Sub v w i
result-sound fit program width op v w i j = words-sound fit program width op v w

-- lists
all-split : {A : Type 0} (P : A → Type 0) (n : ℕ) (xs : List A) → AllByRecursion P xs
    → AllByRecursion P (take n xs) × AllByRecursion P (drop n xs)
all-split P zero xs all = (tt, all)
all-split P (suc n) [] all = (tt, tt)
all-split P (suc n) (x ∷ xs) all = let rest = all-split P n xs all.1 in ((all.0, rest.0), rest.1)

all-append : {A : Type 0} (P : A → Type 0) (xs ys : List A) → AllByRecursion P xs → AllByRecursion P ys
    → AllByRecursion P (xs ++ ys)
all-append P [] ys all rest = rest
all-append P (x ∷ xs) ys all rest = (all.0, all-append P xs ys all.1 rest)

-- a number of n bytes, if there is one
abbrev pub BelowIf : ℕ → Option ℕ → Type 0
BelowIf size None = Unit {0}
BelowIf size (Some n) = n < 256 ^ size

low-below : (byte size : ℕ) (n : Option ℕ) → byte < 256 → BelowIf size n → BelowIf (suc size) (with_low_byte byte n)
low-below byte size None b h = tt
low-below byte size (Some high) b h = omega (arith, pow-suc 256 size)

bytes-below : (bytes : Bytes) → AllByRecursion SoundByte bytes → BelowIf (length bytes) (number_of bytes)
bytes-below [] all = omega arith
bytes-below (None ∷ bytes) all = tt
bytes-below (Some byte ∷ bytes) all = low-below byte (length bytes) (number_of bytes) all.0 (bytes-below bytes all.1)

longer : (few many : ℕ) (n : Option ℕ) → few ≤ many → BelowIf few n → BelowIf many n
longer few many None h b = tt
longer few many (Some n) h b =
    let most : 256 ^ few ≤ 256 ^ many = pow-le-pow_right {n = 256} (omega arith) h in
    omega arith

pub number-below : (bytes : Bytes) (p size : ℕ) → AllByRecursion SoundByte bytes → BelowIf size (number_at bytes p size)
number-below bytes p size all =
    longer (length (slice_range bytes p (p + size))) size (number_at bytes p size)
    (omega (arith, length-take (p + size - p) (drop p bytes)))
    (bytes-below (slice_range bytes p (p + size)) (all-split SoundByte (p + size - p) (drop p bytes)
    (all-split SoundByte p bytes all).1).0)

-- bytes written
low-sound : (i size n : ℕ) → AllByRecursion SoundByte (map Some (bytes_low_first i size n))
low-sound i zero n = tt
low-sound i (suc size) n = (byte-below i n, low-sound (suc i) size n)

pub written-sound : (bytes : Bytes) (p size n : ℕ) → SoundFrame bytes → p + size ≤ 512
    → SoundFrame (written_at bytes p size n)
written-sound bytes p size n frame h = record {
  count = simp length-append (omega (
    arith,
    frame.count,
    length-take-le p bytes (omega (arith, frame.count)),
    length-drop (p + size) bytes,
    length-low 0 size n,
  ));
  bytes = all-append SoundByte (take p bytes ++ map Some (bytes_low_first 0 size n)) (drop (p + size) bytes)
      (all-append SoundByte (take p bytes) (map Some (bytes_low_first 0 size n))
      (all-split SoundByte p bytes frame.bytes).0 (low-sound 0 size n))
      (all-split SoundByte (p + size) bytes frame.bytes).1;
}

-- words of maps
halves-below : (low high : ℕ) → of_halves low high < 2 ^ 64
halves-below low high = omega arith

pub with_half-below : (half : Half) (word number : ℕ) → with_half half word number < 2 ^ 64
unfolding with_half
with_half-below Low word number = halves-below number (word / 2 ^ 32)
with_half-below High word number = halves-below word number

pub combined-below : ResultsFit → (o : Op) (word operand : ℕ) → combined o word operand < 2 ^ 64
unfolding combined halves_added
combined-below fit op.AddH word operand = halves-below (half_of Low word + half_of Low operand) (half_of High word
    + half_of High operand)
combined-below fit o word operand = alu-word fit W64 _ word operand

changed-below : ResultsFit → (rmw : Rmw) (old value compare : ℕ) → old < 2 ^ 64 → value < 2 ^ 64
    → changed rmw old value compare < 2 ^ 64
changed-below fit (Applies o) old value compare h k = combined-below fit o old value
changed-below fit Xchg old value compare h k = k
changed-below fit CmpXchg old value compare h k =
    if-either (λ (n : ℕ). n < 2 ^ 64) (old == compare) (λ e. k) (λ e. h)

pub exchanged-below : ResultsFit → (part : Part) (rmw : Rmw) (word value compare : ℕ) → word < 2 ^ 64 → value < 2 ^ 64
    → exchanged part rmw word value compare < 2 ^ 64
exchanged-below fit Whole rmw word value compare h k = changed-below fit rmw word value compare h k
exchanged-below fit (Of half) rmw word value compare h k =
    with_half-below half word (changed rmw (half_of half word) (half_of Low value) (half_of Low compare))

-- each machine that a step leads to is sound, but for where it is, and what is left at an element is a word
abbrev pub MoveSound : Program → ℕ → StepOutcome → Type 0
MoveSound program slot NoStep = Unit {0}
MoveSound program slot (Next next) = SoundMachine program (at_slot slot next)
MoveSound program slot (Asks element request next) =
    (word : ℕ) → word < 2 ^ 64 → SoundMachine program (at_slot slot (after_request request word next))
    × (left_by (action_of request word) word < 2 ^ 64)
MoveSound program slot (Loops call next) = SoundCall program call × ((answer : ℕ) → answer < 2 ^ 64
    → SoundMachine program (at_slot slot (resumed next answer)))
MoveSound program slot (Refuses call next) = SoundMachine program (at_slot slot next)
MoveSound program slot (Exits ret) = ret < 2 ^ 64

-- loads
extended-fits : (ext : Extension) (size n : ℕ) → 256 ^ size ≤ 2 ^ 64 → n < 256 ^ size → extended ext size n < 2 ^ 64
extended-fits Zeros size n most h = omega arith
extended-fits Signs size n most h = extended-below (256 ^ size) n most h (nat_lt (2 * n) (256 ^ size))

loaded-sound : (program : Program) (ext : Extension) (size : ℕ) (o : Option ℕ) → 256 ^ size ≤ 2 ^ 64 → BelowIf size o
    → SoundIf program (loaded ext size o)
loaded-sound program ext size None most b = tt
loaded-sound program ext size (Some n) most b = extended-fits ext size n most b

caller-below : (caller : Option Bytes) (p size : ℕ) → SoundCaller caller → BelowIf size (caller_number caller p size)
caller-below None p size s = tt
caller-below (Some frame) p size s = number-below frame p size s.bytes

part-most : (part : Part) → 256 ^ part_bytes part ≤ 2 ^ 64
part-most Whole = omega arith
part-most (Of half) = omega arith

part-word : (part : Part) (word : ℕ) → word < 2 ^ 64 → part_of part word < 2 ^ 64
part-word part word w = omega (arith, part-below part word w, part-most part)

width-most : (width : Width) → 256 ^ atomic_bytes width ≤ 2 ^ 64
width-most W32 = omega arith
width-most W64 = omega arith

-- two-slot loads
module _ (program : Program) where
  start-sound : (o : Option ℕ) → SoundIf program (code_named program.insns o)
  start-sound None = tt
  start-sound (Some slot) = if-either (SoundIf program)
      (list_any (λ start. start == slot) (callback_starts program.insns)) (λ e. e) (λ e. tt)

  named-sound : (v : Option Value) (next_imm : ℤ) → SoundIf program v → SoundIf program (area_named v next_imm)
  named-sound (Some (Map m)) (pos offset) i = area-sound program m offset i
  named-sound v next_imm i = tt

  map-named-sound : (imm : ℤ) → SoundIf program (map_named program.sizes imm)
  map-named-sound (pos m) = if-either (SoundIf program) (nat_lt m (length program.sizes))
      (λ e. let inside : m < length program.sizes = grind (arith, nat_tests) in inside) (λ e. tt)
  map-named-sound (negsuc n) = tt

  wide-sound : (slot : ℕ) (kind : ImmKind) (imm next_imm : ℤ) → FitsSigned w32 imm → FitsSigned w32 next_imm
      → SoundIf program (wide_value program slot kind imm next_imm)
  wide-sound slot Number imm next_imm fits fits' = omega (arith, ints)
  wide-sound slot CodeKind imm next_imm fits fits' = start-sound (code_target CodeKind slot imm)
  wide-sound slot MapKind imm next_imm fits fits' = map-named-sound imm
  wide-sound slot MapValue imm next_imm fits fits' = named-sound (map_named program.sizes imm) next_imm
      (map-named-sound imm)
  wide-sound slot kind imm next_imm fits fits' = tt

  -- calls
  lookup_result-sound : (k : ℕ) (count key : Option ℕ) → k < length program.sizes
      → SoundIf program (lookup_result k count key)
  lookup_result-sound k (Some count) (Some key) i =
      if-either (SoundIf program) (nat_lt key count) (λ e. area-sound program k (8 * key) i) (λ e. omega arith)
  lookup_result-sound k count key i = tt

module _ {program : Program} {m : Machine} (s : SoundMachine program m) where
  with-parts : (registers : List Value) (frame : Bytes) → length registers ≡ 11
      → AllByRecursion (SoundValue program) registers → SoundFrame frame
      → SoundMachine program (record { slot = m.slot; registers = registers; frame = frame; caller = m.caller })
  with-parts registers frame count values sound = record {
    count = count;
    values = values;
    frame = sound;
    caller = s.caller;
    in_callback = s.in_callback;
  }

  write : (r : ℕ) (v : Value) → SoundValue program v → SoundMachine program (with_register r v m)
  write r v i = with-parts (set m.registers r v) m.frame (length-set m.registers r v ∙ s.count)
      (all-set (SoundValue program) m.registers r v s.values i) s.frame

  write-frame : (frame : Bytes) → SoundFrame frame → SoundMachine program (with_frame frame m)
  write-frame frame i = with-parts m.registers frame s.count s.values i

  after : (v : Value) → SoundValue program v → SoundMachine program (after_call v m)
  after v i = with-parts _ m.frame (omega (arith, length-drop 6 m.registers, s.count))
      (i, (tt, (tt, (tt, (tt, (tt, (all-split (SoundValue program) 6 m.registers s.values).1)))))) s.frame

  -- what a register has is sound
  value-at : (r : ℕ) → SoundValue program (register m r)
  value-at r = all-at (SoundValue program) m.registers r Unwritten s.values tt

  named : (r : ℕ) (v : Value) → register m r ≡ v → SoundValue program v
  named r v e = subst (SoundValue program) e (value-at r)

  operand-sound : (operand : Operand) → OperandFits operand → SoundValue program (operand_value m operand)
  operand-sound (Imm imm) fits = word-fits imm fits
  operand-sound (Reg r) fits = value-at r

  ctx-sound : (ctx : Option ℕ) → HasCtx (register m 3) ctx → SoundCtx ctx
  ctx-sound None e = tt
  ctx-sound (Some position) e = named 3 (Frame position) e

  stored-sound : (insn : Insn) → InsnFits insn → SoundValue program (stored_value m insn)
  stored-sound (StoreImm size dst offset imm) fits = word-fits imm fits.2
  stored-sound (StoreInsn size dst src offset) fits = value-at src
  stored-sound insn fits = tt

  map-store : (count n word : ℕ) (part : Part) → n < 2 ^ 64
      → SoundMachine program (at_slot m.slot (after_request (store_of part n) word (advanced count m)))
      × (left_by (action_of (store_of part n) word) word < 2 ^ 64)
  map-store count n word Whole h = (s, h)
  map-store count n word (Of half) h = (s, with_half-below half word (half_of Low n))

  told-sound : (told : Option ℕ) (old : ℕ) → old < 2 ^ 64
      → SoundMachine program (at_slot m.slot (puts told old (advanced 1 m)))
  told-sound None old h = s
  told-sound (Some r) old h = write r (Word old) h

  -- a value that an instruction puts into a register
  loaded-from : (extension : Extension) (size : ℕ) (v : Value) → 256 ^ size ≤ 2 ^ 64 → FromFrame m extension size v
      → SoundValue program v
  loaded-from extension size v most from = subst (SoundIf program) from.there
      (loaded-sound program extension size _ most (caller-below _ from.position size
      (if-either SoundCaller from.own (λ e. s.frame) (λ e. s.caller))))

  module _ (fit : ResultsFit) where
    map-change : (op : AtomicOp) (src operand compare word : ℕ) (part : Part) → operand < 2 ^ 64 → word < 2 ^ 64 →
        SoundMachine program (at_slot m.slot (after_request (request_of part op src operand compare) word
        (advanced 1 m)))
        × (left_by (action_of (request_of part op src operand compare) word) word < 2 ^ 64)
    map-change (Simple op) src operand compare word Whole h w = (s, combined-below fit (map_operator op) word operand)
    map-change (Simple op) src operand compare word (Of half) h w = (s, combined-below fit (half_operator op) word _)
    map-change op src operand compare word part h w = (
      told-sound (told_register op src) (part_of part word) (part-word part word w),
      exchanged-below fit part _ word operand compare w h,
    )

    set-sound : (insn : Insn) (v : Value) → InsnFits insn → Sets program m insn v → SoundValue program v
    set-sound (Alu width op dst operand) v fits e = subst (SoundIf program) e (result-sound fit program width op
        (register m dst) (operand_value m operand) (value-at dst) (operand-sound operand fits.1))
    set-sound (Neg width dst) v fits e = subst (SoundIf program) e (word-sound program (negated width)
        (register m dst) (λ n. omega (arith, fit.negated_fits width n, modulus-most width)))
    set-sound (Movsx width bits dst src) v fits e = subst (SoundIf program) e (word-sound program
        (moved_signed width bits) (register m src)
        (λ n. omega (arith, fit.moved_signed_fits width bits n, modulus-most width)))
    set-sound (Endian order bits dst) v fits e = subst (SoundIf program) e (word-sound program
        (in_order order bits) (register m dst) (λ n. fit.in_order_is_word order bits n))
    set-sound (LoadInsn size dst src offset) v fits e = loaded-from Zeros (bytes_of size) v (size-most size) e
    set-sound (LoadSx size dst src offset) v fits e = loaded-from Signs (bytes_of size) v (size-most size) e
    set-sound (LoadImm kind dst imm next_imm) v fits e =
        subst (SoundIf program) e (wide-sound program m.slot kind imm next_imm fits.1 fits.2)
    set-sound insn v fits e = absurd e

-- each instruction
pub insn_step-sound : ResultsFit → (program : Program) (m : Machine) (insn : Insn) → InsnFits insn
    → SoundMachine program m → MoveSound program m.slot (insn_step program m insn)
insn_step-sound fit program m insn fits s =
    step-cases program m (λ insn move. InsnFits insn → MoveSound program m.slot move) (record {
      stuck = λ insn fits. tt;
      sets = λ insn dst v into goes e fits. write s dst v (set-sound s fit insn v fits e);
      jumps = λ insn slot jump e fits. s;
      falls = λ width compare dst operand offset fits. s;
      loads = λ insn element dst part extension into goes fits word w. (
        write s dst (Word (extended extension (part_bytes part) (part_of part word)))
            (extended-fits extension (part_bytes part) (part_of part word) (part-most part) (part-below part word w)),
        w,
      );
      stores = λ insn position size n goes inside fits.
          write-frame s _ (written-sound m.frame position size n s.frame inside);
      puts = λ insn element n part goes e fits word w.
          map-store s (slots_of insn) n word part (subst (SoundValue program) e (stored-sound s insn fits));
      changes = λ width op dst src offset position operand compare old inside e fits.
          told-sound (write-frame s _ (written-sound m.frame position (atomic_bytes width) _ s.frame inside))
          (told_register op src) old (omega (
            arith,
            width-most width,
            subst (BelowIf (atomic_bytes width)) e
                (number-below m.frame position (atomic_bytes width) s.frame.bytes),
          ));
      updates = λ width op dst src offset element operand compare part e fits word w.
          map-change s fit op src operand compare word part (named s src (Word operand) e) w;
      answers = λ kind imm map key v e there fits. after s v (subst (SoundIf program) there
          (lookup_result-sound program map (slice_get program.sizes map) key (named s 1 (Map map) e)));
      refuses = λ kind imm count flags call main e fits.
          after s (Word (word_of call.answer)) (refused-word count flags call e);
      loops = λ kind imm count flags start n ctx a e fits. (
        record {
          callback = named s 2 (Code start) a.callback;
          iterations = valid-few count flags n e;
          ctx = ctx-sound s ctx a.has_ctx;
          frame = s.frame;
        },
        λ answer h. after s (Word answer) h,
      );
      exits = λ n e bit fits. named s 0 (Word n) e;
    }) insn fits
