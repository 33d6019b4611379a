-- Worked lists of events. Each is worked out by hand.
use Rattle.std.specs.Prelude.{◌≡◌, ℕ, ◌-◌, pos, List, [], ◌∷◌, ◌++◌, length, replicate, Option, Some, None, Result, Ok}
use Rattle.std.specs.Prelude.{Err}
use Rattle.bpf_insn_types.specs.declared.insn.{Size.TheVariants.{Dw}, Width.TheVariants.{W64}, Compare.TheVariants.{Eq}}
use Rattle.bpf_insn_types.specs.{declared.insn.{Operand.TheVariants.{Imm}, Insn.{Insn}}, Program.{Program}}
use Rattle.bpf_insn_types.specs.declared.insn.Insn.TheVariants.{Exit, Jump, StoreImm}
use Rattle.bpf_step_model.specs.{Run.{Ended}, Lines.{mov, element_address}}
use Rattle.bpf_step_model.specs.LoopRows.{looping, worked_call, skip_unless, shift_right}
use Rattle.loop_core_model.specs.declared.{loop_test.Test.{Test}, verdict.Verdict.TheVariants.{Parallel, Conflict}}
use Rattle.loop_core_model.specs.declared.event.{EventKind.TheVariants.{Claim, Look, Turn, Post, Stop}, Event.{Event}}
use Rattle.loop_core_model.specs.{declared.replay_fault.ReplayFault.{ReplayFault}, Events.{Shared}}
use Rattle.loop_core_model.specs.{Schedule.{ScheduleState, replay}, Outcome.{breaks_at, replayed}}
use Rattle.loop_core_model.specs.declared.replay_fault.ReplayFault.TheVariants as faults

-- the events of a worker
abbrev pub c : ℕ → Event
c worker = record { kind = Claim; worker = worker }

abbrev pub l : ℕ → Event
l worker = record { kind = Look; worker = worker }

abbrev pub t : ℕ → Event
t worker = record { kind = Turn; worker = worker }

abbrev pub p : ℕ → Event
p worker = record { kind = Post; worker = worker }

abbrev pub s : ℕ → Event
s worker = record { kind = Stop; worker = worker }

-- a loop of 16 iterations, of which each marks its element, and 3 and 12 break
abbrev pub break_at_two : List Insn
break_at_two =
    element_address ++ StoreImm Dw 3 (pos 0) (pos 1) ∷ mov 0 0 ∷ Jump W64 Eq 1 (Imm (pos 3)) (pos 1)
    ∷ skip_unless 1 12 1 ∷ mov 0 1 ∷ Exit ∷ []

-- that loop, its call and its split
abbrev pub two_breaks : Program
two_breaks = looping (16 ∷ []) 16 break_at_two

abbrev pub quarters : List ℕ
quarters = 0 ∷ 4 ∷ 8 ∷ 12 ∷ 16 ∷ []

-- a list of events has this outcome: the loop stops at 3, and four elements are marked
abbrev pub ScheduleEnds : Test → List Event → Type 0
ScheduleEnds test events =
    replayed test two_breaks 20 (worked_call 16) (replicate 16 0) quarters events
    ≡ Ok (Ended (record { verdict = Parallel; answer = 4; words = replicate 4 1 ++ replicate 12 0 }))

-- a list of events has this fault first
abbrev pub EventIsRefused : List Event → ReplayFault → Type 0
EventIsRefused events fault = replay (breaks_at two_breaks 20 (worked_call 16) (replicate 16 0)) quarters events
    ≡ Err fault

-- worker 1 takes three blocks and posts 12 before worker 0 looks at its own, and posts 3
abbrev pub two_workers : List Event
two_workers =
    c 0 ∷ c 1 ∷ l 1 ∷ t 1 ∷ t 1 ∷ t 1 ∷ t 1 ∷ c 1 ∷ l 1 ∷ t 1 ∷ t 1 ∷ t 1 ∷ t 1 ∷ c 1 ∷ l 1 ∷ t 1 ∷ p 1 ∷ c 1 ∷ s 1
    ∷ l 0 ∷ t 0 ∷ t 0 ∷ t 0 ∷ t 0 ∷ p 0 ∷ c 0 ∷ []

-- worker 0 runs the first block, and breaks
abbrev pub first_block : List Event
first_block = c 0 ∷ l 0 ∷ t 0 ∷ t 0 ∷ t 0 ∷ t 0 ∷ []

-- worker 1 holds the block from 8 on while worker 2 posts 12 and then worker 0 posts 3
abbrev pub two_posts : List Event
two_posts =
    c 0 ∷ c 1 ∷ l 1 ∷ t 1 ∷ t 1 ∷ t 1 ∷ t 1 ∷ c 1 ∷ c 2 ∷ l 2 ∷ t 2 ∷ p 2
    ∷ l 0 ∷ t 0 ∷ t 0 ∷ t 0 ∷ t 0 ∷ p 0 ∷ []

-- lists that have ended: on that loop, where worker 0 skips three blocks in the second, and worker 1 the one that it
-- holds in the third; on one that conflicts; and on one without iterations, whose blocks are empty
pub record EndedRows (test : Test) : Type 0 where
  pub two : ScheduleEnds test (two_workers ++ s 0 ∷ [])
  pub skips : ScheduleEnds test (first_block ++ p 0 ∷ c 0 ∷ l 0 ∷ c 0 ∷ l 0 ∷ c 0 ∷ l 0 ∷ c 0 ∷ s 0 ∷ [])
  pub lesser_post : ScheduleEnds test (two_posts ++ l 1 ∷ c 1 ∷ s 1 ∷ c 2 ∷ s 2 ∷ c 0 ∷ s 0 ∷ [])
  pub conflict : replayed test (looping (5 ∷ []) 4 shift_right) 20 (worked_call 4) (9 ∷ replicate 4 0) (0 ∷ 4 ∷ [])
      (c 0 ∷ l 0 ∷ t 0 ∷ t 0 ∷ t 0 ∷ t 0 ∷ c 0 ∷ s 0 ∷ [])
      ≡ Ok (Ended (record { verdict = Conflict 3 1; answer = 4; words = replicate 5 9 }))
  pub no_iterations : replayed test (looping (5 ∷ []) 0 shift_right) 20 (worked_call 0) (replicate 5 9) (0 ∷ 0 ∷ 0 ∷ [])
      (c 2 ∷ l 2 ∷ c 2 ∷ l 2 ∷ c 2 ∷ s 2 ∷ [])
      ≡ Ok (Ended (record { verdict = Parallel; answer = 0; words = replicate 5 9 }))

-- what the workers share at the end of a list that has ended
abbrev pub shared_after : Result ScheduleState ReplayFault → Option Shared
shared_after (Err fault) = None
shared_after (Ok state) = Some state.shared

-- over this split of that loop the workers posted this least break and ran these blocks, the latest first
abbrev pub ReplayLeaves : List ℕ → List Event → (least : ℕ) → (runs : List ℕ) → Type 0
ReplayLeaves bounds events least runs =
    shared_after (replay (breaks_at two_breaks 20 (worked_call 16) (replicate 16 0)) bounds events)
    ≡ Some (record { next = length bounds - 1; least = Some least; runs = runs })

-- while worker 1 holds the empty block from 3 on, worker 0 posts 3
abbrev pub held_empty : List Event
held_empty = c 0 ∷ l 0 ∷ t 0 ∷ t 0 ∷ t 0 ∷ c 1 ∷ c 0 ∷ l 0 ∷ t 0 ∷ p 0 ∷ l 1 ∷ c 1 ∷ s 1 ∷ c 0 ∷ s 0 ∷ []

-- which blocks are run: all, the first alone, and with those that start at the break an empty one
pub record LeftStateRows : Type 0 where
  pub all : ReplayLeaves quarters (two_workers ++ s 0 ∷ []) 3 (0 ∷ 3 ∷ 2 ∷ 1 ∷ [])
  pub first : ReplayLeaves quarters (first_block ++ p 0 ∷ c 0 ∷ l 0 ∷ c 0 ∷ l 0 ∷ c 0 ∷ l 0 ∷ c 0 ∷ s 0 ∷ []) 3 (0 ∷ [])
  pub empty_at_the_break : ReplayLeaves (0 ∷ 3 ∷ 3 ∷ 16 ∷ []) held_empty 3 (1 ∷ 2 ∷ 0 ∷ [])

-- lists on that loop that aren't schedules
pub record RefusedEventRows : Type 0 where
  pub not_ended : EventIsRefused two_workers (faults.NotEnded 26)
  pub nobody : EventIsRefused [] (faults.NotEnded 0)
  pub last_worker : EventIsRefused (c 15 ∷ []) (faults.NotEnded 1)
  pub idle_again : EventIsRefused (first_block ++ p 0 ∷ []) (faults.NotEnded 7)
  pub turn_of_a_skipped_block : EventIsRefused (first_block ++ p 0 ∷ c 0 ∷ l 0 ∷ t 0 ∷ []) (faults.NotEnabled 9)
  pub claim_before_the_post : EventIsRefused (first_block ++ c 0 ∷ []) (faults.NotEnabled 6)
  pub turn_after_the_break : EventIsRefused (first_block ++ t 0 ∷ []) (faults.NotEnabled 6)
  pub turn_before_a_look : EventIsRefused (c 0 ∷ t 0 ∷ []) (faults.NotEnabled 1)
  pub look_twice : EventIsRefused (c 0 ∷ l 0 ∷ l 0 ∷ []) (faults.NotEnabled 2)
  pub stop_before_drained : EventIsRefused (s 0 ∷ []) (faults.NotEnabled 0)
  pub claim_after_a_stop : EventIsRefused (two_workers ++ s 0 ∷ c 0 ∷ []) (faults.NotEnabled 27)
  pub claim_when_drained : EventIsRefused (two_workers ++ c 0 ∷ []) (faults.NotEnabled 26)
  pub no_such_worker : EventIsRefused (c 16 ∷ []) (faults.NoSuchWorker 0)
  pub no_such_worker_first : EventIsRefused (t 16 ∷ []) (faults.NoSuchWorker 0)
  pub first_fault : EventIsRefused (c 0 ∷ t 0 ∷ c 16 ∷ []) (faults.NotEnabled 1)

-- all of them, by either test
pub record ReplayRows : Type 0 where
  pub ended : (test : Test) → EndedRows test
  pub left : LeftStateRows
  pub refused : RefusedEventRows
