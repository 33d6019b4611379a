-- Main starts within the abstract states, each step goes on so, and the abstract state before a slot is of n registers
-- and bytes.
use Rattle.bpf_verify_sound.proofs.{SoundLaws.{entry-sound, call-sound, step-sound}, StepLaws.{main-starts}}
use Rattle.bpf_verify_sound.proofs.{KnownLaws.{incoming-known}, RuleLaws.{accepted-sizes}, RunLaws.{step-known}}
use Rattle.bpf_verify_sound.proofs.law_of_steps.Goals as goal

pub returns : goal.returns
returns c = record {
  entry = main-starts;
  step = step-known c.results_fit.ensures;
  machines = record { main = entry-sound; callbacks = call-sound; steps = step-sound c.results_fit.ensures };
  states = λ program sound slot. incoming-known c.results_fit.ensures program (accepted-sizes program sound.accepted)
      sound.fits slot slot;
}
