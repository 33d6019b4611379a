use Rattle.bpf_step_model.proofs.{StateLists.{run_is_list_of_states}, StuckRuns.{run_is_stuck}}
use Rattle.bpf_step_model.proofs.law_of_runs.Goals as goal

pub returns : goal.returns
returns c = record { ended = run_is_list_of_states; stuck = run_is_stuck }
