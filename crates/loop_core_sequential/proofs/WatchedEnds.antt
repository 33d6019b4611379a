-- How watched loops end.
use Rattle.std.proofs.Common.{◌≡◌, ℕ, length, refl, sym, ◌∙◌, arith}
use Rattle.std.proofs.lemmas.Grind.{same_number_lists}
use Rattle.std.proofs.lemmas.List.FromFn.{get_or-map-range_with_len, length-map-range_with_len}
use Rattle.array_maps.specs.MapList.{MapList}
use Rattle.bpf_insn_types.specs.Program.{Program}
use Rattle.bpf_step_model.specs.State.{LoopCall}
use Rattle.loop_core_undo.{specs.declared.undo_log.UndoLog.{UndoLog}, proofs.UndoLaws.{from_now}}
use Rattle.loop_core_undo.specs.Undo.{is_written, word_before, words_before, IsEmpty}
use Rattle.loop_core_sequential.specs.declared.watching.Watch.{Watch, TheVariants.{Completed, Broke, Dependent}}
use Rattle.loop_core_sequential.specs.{Watched.{RanAndPasses}, Dependences.{maps_before}}
use Rattle.loop_core_sequential.specs.{Noting.{CanRestore, GoesWatched}, WatchedRuns.{WatchedTo, WatchedToEnd, loop_by}}
use Rattle.loop_core_sequential.proofs.{MapEffects.{both_parts}, WatchedLaws.{begun, all_watched}}

-- before the first iteration
pub begins : (program : Program) (call : LoopCall) (start : MapList) (log : UndoLog) → IsEmpty (length start.words) log
    → GoesWatched program call 0 start start log
begins program call start log empty = record {
  watched = begun program call start (is_written log) empty.unwritten;
  restores = record {
    sizes = refl;
    count = refl;
    elements = empty.count;
    before = λ e inside. from_now log start.words e (empty.unsaved e);
  };
}

-- where all iterations went on, the loop passes
pub went_all : {program : Program} {call : LoopCall} {index n : ℕ} {start now : MapList} {log : UndoLog} → index ≡ n
    → n ≡ call.n → GoesWatched program call index start now log → RanAndPasses program call start now n
went_all all is goes = rw (← all) (all_watched goes.watched (all ∙ is))

pub to_end : (program : Program) (call : LoopCall) (n : ℕ) (start now : MapList) (log : UndoLog) (watch : Watch)
    → n ≡ call.n → WatchedTo program call n start now log watch
    → WatchedToEnd program call start now log (loop_by watch n)
to_end program call n start now log Completed is goes = went_all refl is goes
to_end program call n start now log (Broke answer) is passes = passes
to_end program call n start now log (Dependent progress) is met = met

-- maps that are put back are those of the start
pub put_back : (start now : MapList) (log : UndoLog) → CanRestore start now log → maps_before log now ≡ start
put_back start now log restores =
    let long = length-map-range_with_len (word_before log now.words) 0 (length now.words) in
    sym (both_parts start now.sizes (words_before log now.words) (sym restores.sizes)
    (sym (same_number_lists (words_before log now.words) start.words (long ∙ restores.count) (λ e inside.
    get_or-map-range_with_len (word_before log now.words) 0 (length now.words) e e 0 (omega arith) (omega arith)
    ∙ restores.before e (omega arith)))))
