-- Loads, stores and atomic operations go on within the abstract states: an access that breaks no rule goes to its
-- place, and finds the bytes that it reads.
use Rattle.array_maps.specs.{Halves.{half_of, part_of}, declared.access.{Half.TheVariants.{Low, High}, Part.{Part}}}
use Rattle.array_maps.specs.declared.access.Part.TheVariants.{Whole, Half as Of}
use Rattle.bpf_insn_types.specs.{Program.{Program}, Sizes.{bytes_of, atomic_bytes}, Words.{modulus}}
use Rattle.bpf_insn_types.specs.declared.extension.Extension.{Extension, TheVariants.{Zeros, Signs}}
use Rattle.bpf_insn_types.specs.declared.insn.AtomicOp.{AtomicOp, TheVariants.{Simple, Cmpxchg}}
use Rattle.bpf_insn_types.specs.declared.insn.{Insn.TheVariants.{Atomic}, Size.{Size, TheVariants.{B}}, Width.{Width}}
use Rattle.bpf_insn_types.specs.declared.insn.Width.TheVariants.{W64, W32}
use Rattle.bpf_step_model.specs.Memory.{place, Place, InFrame, InCaller, InMap, number_at, written_at}
use Rattle.bpf_step_model.specs.{Run.{part_bytes, after_request}, SoundMachine.{SoundCaller}}
use Rattle.bpf_step_model.specs.State.{Machine, register, Value, Word, Bytes, advanced, with_register, with_frame}
use Rattle.bpf_step_model.specs.Step.{sets, loads, loaded, extended, caller_number, store_of, stores_at, stores}
use Rattle.bpf_step_model.specs.Step.{may_tell, compared_value, insn_step, tells, atomic_left, changes_frame}
use Rattle.bpf_step_model.specs.Step.{request_of, changes_at, changes}
use Rattle.bpf_verify_model.specs.Accesses.{lacks_bytes, caller_lacks, has_unwritten_byte, is_ctx}
use Rattle.bpf_verify_model.specs.Flow.{number_of_size, ahead_outflow, with_own, with_store, with_fetched}
use Rattle.bpf_verify_model.specs.Rules.{place_fault, bytes_fault, or_else, access_fault, fetches_into_r10}
use Rattle.bpf_verify_model.specs.{Rules.{compares_with_no_number}, States.{known_register, with_known}}
use Rattle.bpf_verify_model.specs.{Values.{is_number_value}, Written.{all_written, written_from}}
use Rattle.bpf_verify_model.specs.declared.abstract_value.AbstractValue.{AbstractValue}
use Rattle.bpf_verify_model.specs.declared.memory_access.AccessKind.TheVariants.{Reads, Writes, Changes}
use Rattle.bpf_verify_model.specs.declared.{memory_access.MemoryAccess.{MemoryAccess}, state.State.{State}}
use Rattle.bpf_verify_sound.proofs.ByteLaws.{IsNumberOf, number-known, write-known, write-unknown}
use Rattle.bpf_verify_sound.proofs.Moves.{MayGoOn, next-goes, set-contained, sets-flows, same-ahead, slot-contained}
use Rattle.bpf_verify_sound.proofs.Operands.{register-known, register-span, number-word_of}
use Rattle.bpf_verify_sound.proofs.PlaceLaws.{PlaceIs, place-rules, place-is}
use Rattle.bpf_verify_sound.proofs.Tests.{or_else-one, or_else-two, test-fails, not-not-true, or-left, or-right}
use Rattle.bpf_verify_sound.proofs.Tests.{test-later}
use Rattle.bpf_verify_sound.specs.Containment.{Contained, ContainsValue, AreWrittenByCaller}
use Rattle.bpf_verify_sound.specs.{KnownStates.{IsWellFormedState, HasCallerCount}, Standing.{KeepsRules}}
use Rattle.bpf_verify_sound.specs.Ways.{StepFlows, GoesBy}
use Rattle.std.proofs.Common.{◌≡◌, None, ℕ, ◌+◌, ◌-◌, ◌*◌, ◌^◌, ◌<◌, ◌≤◌, Bool, true, false, List, Option, Some, refl}
use Rattle.std.proofs.{Common.{sym, subst, arith, not}, lemmas.Bool.Decides.{nat_tests}}
use Rattle.std.specs.Prelude.{ℤ, pos, ◌+ℤ◌, nat_lt, ◌==◌, if◌then◌else◌, nat_le}
use Rattle.value_range.{proofs.{Multiples.{multiple-zero}, SpanLaws.{norm-contains, top-contains}}, specs.Spans.{top}}
use Rattle.bpf_verify_model.specs.declared.abstract_value.AbstractValue.TheVariants as known

pub record Accesses (program : Program) (m : Machine) (state : State) (access : MemoryAccess) : Type 0 where
  pub place_is : PlaceIs program.sizes access.size access.offset (known_register state access.base)
      (place program (register m access.base) access.offset access.size)
  pub bytes_none : bytes_fault state access (known_register state access.base) ≡ None

pub accesses : (program : Program) (m : Machine) (state : State) (access : MemoryAccess) →
    or_else (place_fault program.sizes access (known_register state access.base))
    (bytes_fault state access (known_register state access.base)) ≡ None
    → IsWellFormedState state → Contained state m → Accesses program m state access
accesses program m state access keeps spans c =
    let x = known_register state access.base in
    let place_none = or_else-one (place_fault program.sizes access x) (bytes_fault state access x) keeps in
    record {
      place_is = place-is program x (register m access.base) access.offset access.size
          (register-span state access.base spans) (register-known state m access.base c)
          (place-rules program.sizes access x place_none);
      bytes_none = or_else-two (place_fault program.sizes access x) (bytes_fault state access x) keeps;
    }

-- a loaded number is known by its size
pub zeros-known : (size : Size) (n : ℕ) → n < 256 ^ bytes_of size → ContainsValue (number_of_size size)
    (Word (extended Zeros (bytes_of size) n))
zeros-known size n h = norm-contains 0 (256 ^ bytes_of size - 1) 0 n (omega arith) (omega arith) (multiple-zero n)

pub extended-below : (m n : ℕ) → m ≤ 2 ^ 64 → n < m → (test : Bool) → (if test then n else n + (2 ^ 64 - m)) < 2 ^ 64
extended-below m n most h true = omega arith
extended-below m n most h false = omega arith

pub size-most : (size : Size) → 256 ^ bytes_of size ≤ 2 ^ 64
size-most B = omega arith
size-most size = omega arith

pub signs-known : (size : Size) (n : ℕ) → n < 256 ^ bytes_of size → ContainsValue (known.Number (top W64))
    (Word (extended Signs (bytes_of size) n))
signs-known size n h =
    top-contains W64 (extended Signs (bytes_of size) n) (extended-below (256 ^ bytes_of size) n (size-most size) h
    (nat_lt (2 * n) (256 ^ bytes_of size)))

-- a part of a word is a number of its size
pub part-below : (part : Part) (word : ℕ) → word < 2 ^ 64 → part_of part word < 256 ^ part_bytes part
unfolding half_of
part-below Whole word h = h
part-below (Of Low) word h = omega arith
part-below (Of High) word h = omega arith

-- V20: all bytes are written
pub all-of-lacks_bytes : (marks : List Bool) (p size : ℕ) → p + size ≤ 512 → lacks_bytes marks size (pos p) ≡ false
    → all_written marks p size ≡ true
all-of-lacks_bytes marks p size h e = grind (arith, nat_tests)

caller-number : (marks : Option (List Bool)) (bytes : Option Bytes) (p size : ℕ) → AreWrittenByCaller marks bytes
    → HasCallerCount marks → SoundCaller bytes → p + size ≤ 512 →
    caller_lacks marks size (pos p) ≡ false → IsNumberOf size (caller_number bytes p size)
caller-number None bytes p size c count sound h e = absurd cc
caller-number (Some marks) None p size c count sound h e = absurd c
caller-number (Some marks) (Some bytes) p size c count sound h e =
    number-known marks bytes p size c (omega arith) (omega (arith, sound.count)) (all-of-lacks_bytes marks p size h e)

module _ {program : Program} {m : Machine} {state : State} (g : MayGoOn program m state) where
  -- a number of either frame, at a place that is known
  pub own-number : (q p size : ℕ) (offset : ℤ) → pos q +ℤ offset ≡ pos p → p + size ≤ 512
      → has_unwritten_byte state size offset (known.Frame q) ≡ false → IsNumberOf size (number_at m.frame p size)
  own-number q p size offset is h e =
      number-known state.own m.frame p size g.contained.own (omega (arith, g.spans.own))
      (omega (arith, g.sound.frame.count)) (all-of-lacks_bytes state.own p size h (rw is at e))

  pub main-number : (q p size : ℕ) (offset : ℤ) → pos q +ℤ offset ≡ pos p → p + size ≤ 512
      → has_unwritten_byte state size offset (known.Ctx q) ≡ false → IsNumberOf size (caller_number m.caller p size)
  main-number q p size offset is h e =
      caller-number state.caller m.caller p size g.contained.caller g.spans.caller g.sound.caller h (rw is at e)

  -- a load that breaks no rule, of a number that is known by its size
  module _ (ext : Extension) (dst size : ℕ) (y : AbstractValue) (fp : (dst == 10) ≡ false)
      (fits : (n : ℕ) → n < 256 ^ size → ContainsValue y (Word (extended ext size n))) where
    sets-loaded : (o : Option ℕ) → IsNumberOf size o
        → StepFlows program m.slot (ahead_outflow (m.slot + 1) (with_known state dst y))
        (sets 1 m dst (loaded ext size o))
    sets-loaded None h = absurd h
    sets-loaded (Some n) h = sets-flows program m state 1 dst (Some y) (Some (Word (extended ext size n))) g.leads
        (omega arith) fp g.contained refl (fits n h)

    loads-flow : (offset : ℤ) (x : AbstractValue) (at : Option Place) → PlaceIs program.sizes size offset x at
        → has_unwritten_byte state size offset x ≡ false
        → StepFlows program m.slot (ahead_outflow (m.slot + 1) (with_known state dst y)) (loads m ext size dst at)
    loads-flow offset (known.Frame q) (Some (InFrame p)) is e =
        sets-loaded (number_at m.frame p size) (own-number q p size offset is.0 is.1 e)
    loads-flow offset (known.Ctx q) (Some (InCaller p)) is e =
        sets-loaded (caller_number m.caller p size) (main-number q p size offset is.0 is.1 e)
    loads-flow offset (known.Area map range) (Some (InMap element part)) is e =
        rw fp (
          is.0,
          λ word w.
              let v : Value = Word (extended ext (part_bytes part) (part_of part word)) in
              let fits' = subst (λ (k : ℕ). (n : ℕ) → n < 256 ^ k → ContainsValue y (Word (extended ext k n)))
              (sym is.1) fits
              in
              next-goes g None (with_known state dst y) (with_register dst v (advanced 1 m)) refl
              (set-contained state (advanced 1 m) dst y v (slot-contained state m (m.slot + 1) g.contained)
              (fits' (part_of part word) (part-below part word w))),
        )
    loads-flow offset x at is e = absurd is

    -- V20 and V21
    pub load-flows : (src : ℕ) (offset : ℤ) → access_fault program.sizes state
        (Some (record { kind = Reads; base = src; offset = offset; size = size })) ≡ None
        → StepFlows program m.slot (ahead_outflow (m.slot + 1) (with_known state dst y))
        (loads m ext size dst (place program (register m src) offset size))
    load-flows src offset none =
        let a = accesses program m state (record { kind = Reads; base = src; offset = offset; size = size }) none
        g.spans
        g.contained in
        loads-flow offset (known_register state src) _ a.place_is
        (test-fails (has_unwritten_byte state size offset (known_register state src)) _ _ a.bytes_none)

module _ {program : Program} {m : Machine} {state : State} (g : MayGoOn program m state) where
  -- a store to a map changes nothing of the machine
  map-store : (n word : ℕ) (part : Part)
      → GoesBy program m.slot (ahead_outflow (m.slot + 1) state) (after_request (store_of part n) word (advanced 1 m))
  map-store n word Whole = same-ahead g
  map-store n word (Of half) = same-ahead g

  -- one to the frame marks its bytes
  stores-flow : (size n : ℕ) (offset : ℤ) (x : AbstractValue) (at : Option Place) → is_ctx x ≡ false
      → PlaceIs program.sizes size offset x at
      → StepFlows program m.slot (ahead_outflow (m.slot + 1) (with_store state size offset x)) (stores_at m size n at)
  stores-flow size n offset (known.Frame q) (Some (InFrame p)) own is =
      let h : p + size ≤ 512 = is.1 in
      let inside : nat_le (p + size) 512 ≡ true = grind (arith, nat_tests) in
      rw (is.0, inside) (next-goes g None (with_own state (written_from state.own p size))
      (with_frame (written_at m.frame p size n) (advanced 1 m)) refl (record {
        registers = g.contained.registers;
        own = write-known state.own m.frame p size g.contained.own (omega (arith, g.spans.own))
            (omega (arith, g.sound.frame.count)) n;
        caller = g.contained.caller;
      }))
  stores-flow size n offset (known.Area map range) (Some (InMap element part)) own is =
      (is.0, λ word w. map-store n word part)
  stores-flow size n offset (known.Ctx q) at own is = absurd cc
  stores-flow size n offset x at own is = absurd is

  -- a store of a number, if it breaks no rule
  pub store-flows : (size dst : ℕ) (offset : ℤ) (y : AbstractValue) (v : Value) → is_number_value y ≡ true
      → ContainsValue y v → access_fault program.sizes state
      (Some (record { kind = Writes; base = dst; offset = offset; size = size })) ≡ None
      → StepFlows program m.slot (ahead_outflow (m.slot + 1) (with_store state size offset (known_register state dst)))
      (stores m size v (place program (register m dst) offset size))
  store-flows size dst offset y v some d none =
      let a = accesses program m state (record { kind = Writes; base = dst; offset = offset; size = size }) none g.spans
      g.contained in
      let word = number-word_of y v some d in
      rw word.1 (stores-flow size word.0 offset (known_register state dst) _
      (test-fails (is_ctx (known_register state dst)) _ _ a.bytes_none) a.place_is)

-- a number of an atomic operation's size is one of its width
of-width : (width : Width) (n : ℕ) → n < 256 ^ atomic_bytes width → n < modulus width
of-width W32 n h = h
of-width W64 n h = h

-- V11: R10 isn't told
source-kept : (op : AtomicOp) (src : ℕ) → fetches_into_r10 op src ≡ false → may_tell op src ≡ true
source-kept op src e = grind (arith, nat_tests)

module _ {program : Program} {m : Machine} {state : State} (g : MayGoOn program m state) where
  -- goes on with an old number that is told
  told-goes : (width : Width) (r old : ℕ) (next : Machine) → next.slot ≡ m.slot + 1 → Contained state next
      → old < modulus width
      → GoesBy program m.slot (ahead_outflow (m.slot + 1) (with_known state r (known.Number (top width))))
      (with_register r (Word old) next)
  told-goes width r old next at c h = next-goes g None (with_known state r (known.Number (top width)))
      (with_register r (Word old) next) at (set-contained state next r (known.Number (top width)) (Word old) c
      (top-contains width old h))

  tells-known : (width : Width) (op : AtomicOp) (src old : ℕ) (next : Machine) → next.slot ≡ m.slot + 1
      → Contained state next → old < modulus width
      → GoesBy program m.slot (ahead_outflow (m.slot + 1) (with_fetched state width op src)) (tells op src old next)
  tells-known width (Simple op) src old next at c h = next-goes g None state next at c
  tells-known width Cmpxchg src old next at c h = told-goes width 0 old next at c h
  tells-known width op src old next at c h = told-goes width src old next at c h

  -- a frame's bytes are changed, and as many are known to be written as before
  frame-change : (width : Width) (op : AtomicOp) (src operand compare p : ℕ) (old : Option ℕ)
      → p + atomic_bytes width ≤ 512 → IsNumberOf (atomic_bytes width) old →
      StepFlows program m.slot (ahead_outflow (m.slot + 1) (with_fetched state width op src))
      (changes_frame m width op src operand compare p old)
  frame-change width op src operand compare p None h number = absurd number
  frame-change width op src operand compare p (Some old) h number =
      tells-known width op src old (with_frame (written_at m.frame p (atomic_bytes width)
      (atomic_left width op old operand compare)) (advanced 1 m)) refl (record {
        registers = g.contained.registers;
        own = write-unknown state.own m.frame p (atomic_bytes width) g.contained.own (omega (arith, g.spans.own))
            (omega (arith, g.sound.frame.count)) _;
        caller = g.contained.caller;
      }) (of-width width old number)

  -- what a map tells
  map-change : (width : Width) (op : AtomicOp) (src operand compare word : ℕ) (part : Part)
      → part_bytes part ≡ atomic_bytes width → word < 2 ^ 64 →
      GoesBy program m.slot (ahead_outflow (m.slot + 1) (with_fetched state width op src))
      (after_request (request_of part op src operand compare) word (advanced 1 m))
  map-change width (Simple op) src operand compare word Whole bytes w = same-ahead g
  map-change width (Simple op) src operand compare word (Of half) bytes w = same-ahead g
  map-change width op src operand compare word part bytes w =
      tells-known width op src (part_of part word) (advanced 1 m) refl (slot-contained state m (m.slot + 1) g.contained)
      (of-width width (part_of part word) (rw bytes at (part-below part word w)))

  -- at a place that is known
  changes-flow : (width : Width) (op : AtomicOp) (src operand compare : ℕ) (offset : ℤ) (x : AbstractValue)
      (at : Option Place) → is_ctx x ≡ false → PlaceIs program.sizes (atomic_bytes width) offset x at
      → has_unwritten_byte state (atomic_bytes width) offset x ≡ false →
      StepFlows program m.slot (ahead_outflow (m.slot + 1) (with_fetched state width op src))
      (changes_at m width op src operand compare at)
  changes-flow width op src operand compare offset (known.Frame q) (Some (InFrame p)) own is e =
      frame-change width op src operand compare p _ is.1 (own-number g q p (atomic_bytes width) offset is.0 is.1 e)
  changes-flow width op src operand compare offset (known.Area map range) (Some (InMap element part)) own is e =
      (is.0, λ word w. map-change width op src operand compare word part is.1 w)
  changes-flow width op src operand compare offset (known.Ctx q) at own is e = absurd cc
  changes-flow width op src operand compare offset x at own is e = absurd is

  compared-word : (op : AtomicOp) → compares_with_no_number state op ≡ false → (n : ℕ) × (compared_value m op ≡ Word n)
  compared-word Cmpxchg e = number-word_of (known_register state 0) (register m 0) (not-not-true _ e)
      (register-known state m 0 g.contained)
  compared-word op e = (0, refl)

  pub atomic-flows : (width : Width) (op : AtomicOp) (dst src : ℕ) (offset : ℤ)
      → KeepsRules program m.slot (Atomic width op dst src offset) state →
      StepFlows program m.slot (ahead_outflow (m.slot + 1) (with_fetched state width op src))
      (insn_step program m (Atomic width op dst src offset))
  atomic-flows width op dst src offset keeps =
      let x = known_register state dst in
      let access : MemoryAccess = record { kind = Changes; base = dst; offset = offset; size = atomic_bytes width } in
      let a = accesses program m state access keeps.access g.spans g.contained in
      let unread = not (is_number_value (known_register state src)) in
      let operand = number-word_of (known_register state src) (register m src)
      (not-not-true _ (or-left unread (compares_with_no_number state op) keeps.stored))
      (register-known state m src g.contained) in
      let compare = compared-word op (or-right unread (compares_with_no_number state op) keeps.stored) in
      let at = place program (register m dst) offset (atomic_bytes width) in
      let out = ahead_outflow (m.slot + 1) (with_fetched state width op src) in
      subst (λ (v : Value). StepFlows program m.slot out (changes m width op src v (compared_value m op) at))
      (sym operand.1)
      (subst (λ (v : Value). StepFlows program m.slot out (changes m width op src (Word operand.0) v at))
      (sym compare.1)
      (rw (source-kept op src keeps.frame_pointer) (changes-flow width op src operand.0 compare.0 offset x at
      (test-fails (is_ctx x) _ _ (test-later (has_unwritten_byte state (atomic_bytes width) offset x) _ _ a.bytes_none))
      a.place_is (test-fails (has_unwritten_byte state (atomic_bytes width) offset x) _ _ a.bytes_none))))
