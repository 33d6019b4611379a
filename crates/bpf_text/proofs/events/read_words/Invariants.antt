use Rattle.std.proofs.Common.{◌≡◌, length}
use Rattle.bpf_text.specs.EventsText.{events_in}
use Rattle.bpf_text.proofs.events.read_words.Given as goal
use Rattle.bpf_text_lex.proofs.RefusalLaws.{with_front}

abbrev pub invariant-loop-word : goal.invariant-loop-word
invariant-loop-word l = with_front l.events.items (events_in l.words) ≡ events_in l.initial.words

abbrev pub decreases-loop-word : goal.decreases-loop-word
decreases-loop-word l = length l.words
