use Rattle.std.{proofs.Common.{◌≡◌, length}, specs.List.{list_all}}
use Rattle.bpf_text.specs.EventsText.{is_event}
use Rattle.bpf_text.proofs.events.are_events.Given as goal

abbrev pub invariant-loop-word : goal.invariant-loop-word
invariant-loop-word l = list_all is_event l.words ≡ list_all is_event l.initial.words

abbrev pub decreases-loop-word : goal.decreases-loop-word
decreases-loop-word l = length l.words
