-- The law of speculation.
use Rattle.std.specs.Prelude.{◌≡◌, ℕ, List, [], length}
use Rattle.array_maps.specs.Accesses.{Access}
use Rattle.bpf_insn_types.specs.Program.{Program}
use Rattle.bpf_step_model.specs.{State.{LoopCall}, Run.{Ended}, LoopInOrder.{loop_in_order}}
use Rattle.loop_core_model.specs.{declared.loop_test.Test.{Test}, Conflict.{conflicting}, Committed.{committed_words}}
use Rattle.loop_core_model.specs.LeastBreak.{counted, counted_runs}

-- For both tests, every program, bound on an iteration's instructions, loop call (so any number of iterations) and
-- start words, where all counted iterations end on the start words: if no element conflicts, the loop in order answers
-- the least break's index and 1, or all n, and leaves exactly what is committed of their accesses.
abbrev pub LoopLaw : Type 0
LoopLaw = (test : Test) (program : Program) (bound : ℕ) (call : LoopCall) (words : List ℕ) (runs : List (List Access)) →
    counted_runs program bound call words ≡ Ended runs → conflicting test runs (length words) ≡ [] →
    loop_in_order program bound call words
    ≡ Ended (record { answer = counted program bound call words; words = committed_words runs words })
