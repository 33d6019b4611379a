-- A run goes on within the abstract states at each of its steps, each of which is shorter; a callback starts where its
-- function does.
use Rattle.bpf_verify_sound.proofs.{RunLaws.{run-sound}, StartLaws.{start-function}}
use Rattle.bpf_verify_sound.proofs.ProgramEndings.{count-small}
use Rattle.bpf_verify_sound.proofs.law_of_accepted_runs.Goals as goal

pub returns : goal.returns
returns c = record {
  stuck = λ program sound bound m known words w.
      (run-sound c.results_fit.ensures program sound bound m known words w).known;
  ends = λ program sound bound m known words w.
      (run-sound c.results_fit.ensures program sound bound m known words w).ends;
  callbacks = λ program sound bound m known inner words w.
      (run-sound c.results_fit.ensures program sound bound m known words w).exits inner;
  starts = start-function;
  counts = count-small;
}
