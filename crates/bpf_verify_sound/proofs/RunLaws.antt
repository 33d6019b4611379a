-- Steps of an accepted program go on within the abstract states, and keep the words of the maps. A run isn't stuck, and
-- ends within the longest path from its slot on, a callback's at an exit.
use Rattle.array_maps.specs.Accesses.{left_by, words_after, Access}
use Rattle.bpf_insn_types.specs.{Program.{Program, insn_at, slot_count}, Slots.{slots_of}, WordBounds.{ResultsFit}}
use Rattle.bpf_insn_types.specs.declared.insn.Insn.{Insn, TheVariants.{Jump, Call, Exit, Atomic}}
use Rattle.bpf_step_model.specs.AtomicRegisters.{told_register}
use Rattle.bpf_step_model.specs.Run.{action_of, after_step, run, BoundedResult, Ended, Stuck, Unfinished, RunSegment}
use Rattle.bpf_step_model.specs.{Run.{after_request, mapped, with_first_step}, State.{Machine, Bytes}}
use Rattle.bpf_step_model.specs.Step.{Request, StepOutcome, NoStep, Next, Asks, Loops, Refuses, Exits, step, Load}
use Rattle.bpf_step_model.specs.Step.{insn_step, insn_step_if_any, puts}
use Rattle.bpf_verify_model.proofs.{JumpLaws.{jumps_forward}, LongestLaws.{longest-step}, PathLaws.{through-some}}
use Rattle.bpf_verify_model.specs.{Count.{JumpsForward, through}, Rules.{jump_distance, jump_target, goes_on}}
use Rattle.bpf_verify_sound.proofs.{Moves.{after_request-slot}, RegisterLaws.{all-set}, StepLaws.{accepted-some}}
use Rattle.bpf_verify_sound.proofs.{RuleLaws.{accepted-within}, SoundLaws.{step-sound, call-sound}}
use Rattle.bpf_verify_sound.proofs.{StepCases.{IsReturn, step-cases, within-case}, StepLaws.{step-contained}}
use Rattle.bpf_verify_sound.specs.Soundness.{IsSoundProgram, AreMapWords, OverApproximates, StepsOverApproximated}
use Rattle.bpf_verify_sound.specs.Soundness.{StepContained, StepSound, RunIsOverApproximated, most_from, most_after}
use Rattle.bpf_verify_sound.specs.Soundness.{EndsWithin, EndsAtExit}
use Rattle.std.proofs.Common.{◌≡◌, ℕ, zero, suc, ◌<◌, ◌^◌, List, [], ◌∷◌, Some, sym, ◌∙◌, subst, ◌+◌, ◌≤◌, true, false}
use Rattle.std.proofs.{Common.{get_or, Option, None, is_some, refl, ap, arith}, Math.ListN.{length-set}}
use Rattle.std.proofs.lemmas.{Bool.Decides.{nat_tests}, Option.{get_or_from_slice_get, slice_get-get_or}}
use Rattle.std.specs.{List.{AllByRecursion}, Prelude.{slice_get, slice_index, ◌==◌}}

-- a step that keeps a machine sound, and the abstract state true, goes on within the abstract states
goes-known : (program : Program) (move : StepOutcome) → StepContained program move → StepSound program move
    → StepsOverApproximated program move
goes-known program NoStep c s = c
goes-known program (Next next) c s = record { sound = s; contained = c }
goes-known program (Asks element request next) c s =
    (c.0, λ word w. (record { sound = (s word w).0; contained = c.1 word w }, (s word w).1))
goes-known program (Loops call next) c s = (
  record {
    sound = s.0;
    entries = λ index h. record {
      sound = call-sound program call s.0 index h;
      contained = c.0 index h;
    };
  },
  λ answer h. record { sound = s.1 answer h; contained = c.1 answer h },
)
goes-known program (Refuses call next) c s = record { sound = s; contained = c }
goes-known program (Exits ret) c s = s

pub step-known : ResultsFit → (program : Program) → IsSoundProgram program → (m : Machine) → OverApproximates program m
    → StepsOverApproximated program (step program m)
step-known fit program sound m known =
    goes-known program (step program m) (step-contained fit program m sound.accepted sound.fits known.sound
    known.contained) (step-sound fit program sound.fits m known.sound)

-- a word of the maps
pub word-at : (words : List ℕ) (element word : ℕ) → AllByRecursion (λ n. n < 2 ^ 64) words → slice_get words element
    ≡ Some word → word < 2 ^ 64
word-at [] element word fit there = absurd cc
word-at (x ∷ words) zero word fit there =
    let same : x ≡ word = cc in
    subst (λ (n : ℕ). n < 2 ^ 64) same fit.0
word-at (x ∷ words) (suc element) word fit there = word-at words element word fit.1 there

-- the words after an access
pub words-known : (program : Program) (words : List ℕ) (element word : ℕ) (request : Request)
    → AreMapWords program words → slice_get words element ≡ Some word → left_by (action_of request word) word < 2 ^ 64 →
    AreMapWords program (words_after (record { element = element; action = action_of request word }) words)
words-known program words element word request fit there left =
    let at : slice_index words element ≡ word = get_or_from_slice_get words element word 0 there in
    record {
      count = length-set words element (left_by (action_of request word) (slice_index words element)) ∙ fit.count;
      fit = all-set (λ (n : ℕ). n < 2 ^ 64) words element (left_by (action_of request word) (slice_index words element))
          fit.fit
          (subst (λ (n : ℕ). left_by (action_of request word) n < 2 ^ 64) (sym at) left);
    }

-- a step is shorter, keeps the caller's frame, and calls a loop in main alone
abbrev pub StepShorter : Program → ℕ → Option Bytes → StepOutcome → Type 0
StepShorter program slot caller NoStep = Unit {0}
StepShorter program slot caller (Next next) = (suc (most_from program next.slot) ≤ most_from program slot)
    × (next.caller ≡ caller)
StepShorter program slot caller (Asks element request next) =
    (suc (most_from program next.slot) ≤ most_from program slot) × (next.caller ≡ caller)
StepShorter program slot caller (Loops call next) = (suc (most_from program next.slot) ≤ most_from program slot)
    × (caller ≡ None)
StepShorter program slot caller (Refuses call next) = (suc (most_from program next.slot) ≤ most_from program slot)
    × (caller ≡ None)
StepShorter program slot caller (Exits ret) = (1 ≤ most_from program slot) × IsReturn caller ret

-- the path through an instruction is longer than the one from where it goes on, or from where it jumps
through-goes : (f : ℕ → ℕ) (slot : ℕ) (insn : Insn) → goes_on insn ≡ true
    → suc (f (slot + slots_of insn)) ≤ through f slot (Some insn)
through-goes f slot insn goes = grind (arith, nat_tests)

through-jumps : (f : ℕ → ℕ) (slot : ℕ) (insn : Insn) (k : ℕ) → jump_target slot (jump_distance insn) ≡ Some k
    → suc (f k) ≤ through f slot (Some insn)
through-jumps f slot insn k e = grind (arith, nat_tests)

module _ (program : Program) (sound : IsSoundProgram program) where
  -- jumps of an accepted program lead forward
  forward : JumpsForward program.insns
  forward = jumps_forward program (slot_count program.insns) refl (accepted-within program sound.accepted)

  some-slots : 0 < slot_count program.insns
  some-slots =
      let some : (slot_count program.insns == 0) ≡ false = accepted-some program sound.accepted in
      let other : (slot_count program.insns ≡ 0 → ⊥) = λ e. absurd (grind (arith, nat_tests)) in
      omega arith

  -- the longest path from a slot where an instruction starts
  most-through : (slot : ℕ) (insn : Insn) → insn_at program.insns slot ≡ Some insn
      → most_from program slot ≡ through (most_from program) slot (Some insn)
  most-through slot insn here =
      longest-step program.insns (slot_count program.insns) slot (Some insn) forward refl some-slots here

  -- an instruction is where something is known, so the longest path from there isn't empty
  pub most-some : (m : Machine) → OverApproximates program m → 1 ≤ most_from program m.slot
  most-some m known = by_insn (insn_at program.insns m.slot) refl
    where
      by_insn : (o : Option Insn) → insn_at program.insns m.slot ≡ o → 1 ≤ most_from program m.slot
      by_insn None here = absurd (let e = sym (ap is_some here) ∙ known.contained.stands in cc)
      by_insn (Some insn) here = rw (most-through m.slot insn here) (through-some (most_from program) m.slot insn)

  module _ (m : Machine) where
    goes-shorter : (insn : Insn) → insn_at program.insns m.slot ≡ Some insn → goes_on insn ≡ true
        → suc (most_from program (m.slot + slots_of insn)) ≤ most_from program m.slot
    goes-shorter insn here goes =
        omega (arith, most-through m.slot insn here, through-goes (most_from program) m.slot insn goes)

    told-shorter : (n : ℕ) (told : Option ℕ) (next : Machine) → StepShorter program m.slot m.caller (Next next)
        → StepShorter program m.slot m.caller (Next (puts told n next))
    told-shorter n None next i = i
    told-shorter n (Some r) next i = i

    insn-shorter : (insn : Insn) → insn_at program.insns m.slot ≡ Some insn
        → StepShorter program m.slot m.caller (insn_step program m insn)
    insn-shorter = step-cases program m (λ insn move. insn_at program.insns m.slot ≡ Some insn
        → StepShorter program m.slot m.caller move) (record {
          stuck = λ insn here. tt;
          sets = λ insn dst v into on e here. (goes-shorter insn here on, refl);
          jumps = λ insn slot jump e here. (
            omega (
              arith,
              most-through m.slot insn here,
              through-jumps (most_from program) m.slot insn slot e,
            ),
            refl,
          );
          falls = λ width compare dst operand offset here.
              (goes-shorter (Jump width compare dst operand offset) here refl, refl);
          loads = λ insn element dst part extension into on here. (goes-shorter insn here on, refl);
          stores = λ insn position size n on inside here. (goes-shorter insn here on, refl);
          puts = λ insn element n part on e here. (goes-shorter insn here on, refl);
          changes = λ width op dst src offset position operand compare old inside e here.
              told-shorter old (told_register op src) _ (goes-shorter (Atomic width op dst src offset) here refl, refl);
          updates = λ width op dst src offset element operand compare part e here.
              (goes-shorter (Atomic width op dst src offset) here refl, refl);
          answers = λ kind imm map key v e there here. (goes-shorter (Call kind imm) here refl, refl);
          refuses = λ kind imm count flags call main e here. (goes-shorter (Call kind imm) here refl, main);
          loops = λ kind imm count flags start n ctx a e here. (goes-shorter (Call kind imm) here refl, a.main);
          exits = λ n e bit here. (omega (arith, most-through m.slot Exit here), bit);
        })

    by_insn : (o : Option Insn) → insn_at program.insns m.slot ≡ o
        → StepShorter program m.slot m.caller (insn_step_if_any program m o)
    by_insn None here = tt
    by_insn (Some insn) here =
        within-case (StepShorter program m.slot m.caller) program m.slot _ tt (λ leads. insn-shorter insn here)

    step-shorter : StepShorter program m.slot m.caller (step program m)
    unfolding step
    step-shorter = by_insn (insn_at program.insns m.slot) refl

-- what is told changes no caller's frame
after_request-caller : (request : Request) (word : ℕ) (m : Machine) → (after_request request word m).caller ≡ m.caller
after_request-caller (Load part extension into) word m = refl
after_request-caller request word m = refl

-- what is claimed of a run from a slot on: it isn't stuck, it ends within the longest path where its bound isn't less,
-- and a callback's at an exit
pub record RunIsSound (program : Program) (bound slot : ℕ) (caller : Option Bytes) (e : BoundedResult RunSegment)
    : Type 0 where
  pub known : RunIsOverApproximated program e
  pub ends : most_from program slot ≤ bound → EndsWithin program (most_from program slot) e
  pub exits : is_some caller ≡ true → EndsAtExit e

module _ (program : Program) where
  -- an instruction more in front
  more-sound : (bound slot : ℕ) (caller : Option Bytes) (m : Machine) (accesses : List Access)
      (e : BoundedResult RunSegment) → suc (most_from program m.slot) ≤ most_from program slot → m.caller ≡ caller
      → RunIsSound program bound m.slot m.caller e
      → RunIsSound program (suc bound) slot caller (mapped (with_first_step accesses) e)
  more-sound bound slot caller m accesses Stuck less same run = absurd run.known
  more-sound bound slot caller m accesses Unfinished less same run =
      record { known = tt; ends = λ few. run.ends (omega arith); exits = λ inner. tt }
  more-sound bound slot caller m accesses (Ended s) less same run = record {
    known = run.known;
    ends = λ few.
        let rest : s.steps + most_after program s.turn ≤ most_from program m.slot = (run.ends (omega arith)).1 in
        (omega arith, omega arith);
    exits = λ inner. run.exits (ap is_some same ∙ inner);
  }

  abbrev pub RunsAreSound : ℕ → Type 0
  RunsAreSound bound = (m : Machine) → OverApproximates program m → (words : List ℕ) → AreMapWords program words
      → RunIsSound program bound m.slot m.caller (run program bound m words)

  by_move : (bound : ℕ) → RunsAreSound bound → (slot : ℕ) (caller : Option Bytes) (move : StepOutcome) (words : List ℕ)
      → AreMapWords program words → StepsOverApproximated program move → StepShorter program slot caller move
      → RunIsSound program (suc bound) slot caller (after_step (run program bound) slot move words)
  by_move bound go slot caller NoStep words fit goes less = absurd goes
  by_move bound go slot caller (Next next) words fit goes less =
      more-sound bound slot caller next [] _ less.0 less.1 (go next goes words fit)
  by_move bound go slot caller (Asks element request next) words fit goes less =
      let word : ℕ = get_or words element 0 in
      let there : slice_get words element ≡ Some word = slice_get-get_or words element 0 (omega (arith, fit.count)) in
      let after = goes.1 word (word-at words element word fit.fit there) in
      let access : Access = record { element = element; action = action_of request word } in
      rw there (more-sound bound slot caller (after_request request word next) (access ∷ []) _
      (rw (after_request-slot request word next) less.0) (after_request-caller request word next ∙ less.1)
      (go (after_request request word next) after.0 _
      (words-known program words element word request fit there after.1)))
  by_move bound go slot caller (Loops call next) words fit goes less =
      let less' : suc (most_from program next.slot) ≤ most_from program slot = less.0 in
      let main : caller ≡ None = less.1 in
      record { known = (goes, fit); ends = λ few. (omega arith, omega arith); exits = λ inner. absurd cc }
  by_move bound go slot caller (Refuses call next) words fit goes less =
      let less' : suc (most_from program next.slot) ≤ most_from program slot = less.0 in
      let main : caller ≡ None = less.1 in
      record { known = (goes, fit); ends = λ few. (omega arith, omega arith); exits = λ inner. absurd cc }
  by_move bound go slot None (Exits ret) words fit goes less =
      let less' : 1 ≤ most_from program slot = less.0 in
      record { known = (goes, fit); ends = λ few. (omega arith, omega arith); exits = λ inner. absurd cc }
  by_move bound go slot (Some frame) (Exits ret) words fit goes less =
      let less' : 1 ≤ most_from program slot = less.0 in
      record { known = (goes, fit); ends = λ few. (omega arith, omega arith); exits = λ inner. less.1 }

-- at any bound
pub run-sound : ResultsFit → (program : Program) → IsSoundProgram program → (bound : ℕ) → RunsAreSound program bound
run-sound fit program sound zero m known words w = record {
  known = tt;
  ends = λ few. absurd (omega (arith, most-some program sound m known));
  exits = λ inner. tt;
}
run-sound fit program sound (suc bound) m known words w =
    by_move program bound (run-sound fit program sound bound) m.slot m.caller (step program m) words w
    (step-known fit program sound m known) (step-shorter program sound m)
