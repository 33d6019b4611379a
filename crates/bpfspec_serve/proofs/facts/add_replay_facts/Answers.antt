use Rattle.std.proofs.Common.{◌≡◌, ℕ, List, [], Result, Ok, refl, sym, append-nil}
use Rattle.bpf_text.specs.EventsText.{events_text}
use Rattle.loop_core_model.specs.declared.event.Event.{Event}
use Rattle.bpfspec_output.specs.declared.refusal.Section.TheVariants as sections
use Rattle.bpfspec_serve.specs.{declared.answer_error.AnswerError.{AnswerError}, Facts.{AreReplayFacts}}
use Rattle.bpfspec_serve.specs.Output.{IsReplayed, in_section, loop_replay, refused}
use Rattle.bpfspec_serve.proofs.FactLaws.{refusal_added, tries}
use Rattle.bpfspec_serve.proofs.facts.add_replay_facts.Goals as goal

pub returns-in-Err : goal.returns-in-Err
returns-in-Err c =
    refusal_added (λ (r : Result (List ℕ × List Event) AnswerError). r
    ≡ in_section sections.Events (events_text c.args.events.now))
    (AreReplayFacts c.args.ask.now c.args.program.now c.args.maps.words c.args.events.now) c.in-Err.ensures
    c.in_ok-add_refusal-in-Err.ensures
    (λ refusal is. tries c.args.ask.now c.args.program.now c.args.maps.words c.args.events.now (refused refusal) _
    c.if-is_empty.ensures (rw (← is) refl) refl)

pub returns-in-Err-replay_with : goal.returns-in-Err-replay_with
returns-in-Err-replay_with c =
    refusal_added (IsReplayed c.args.ask.now.test c.args.program.now c.args.ask.now.arg c.args.maps.words
    (c.in-Ok.schedule.0.items, c.in-Ok.schedule.1.items))
    (AreReplayFacts c.args.ask.now c.args.program.now c.args.maps.words c.args.events.now)
    c.in-Err-replay_with.ensures.replayed c.in_ok-add_refusal-in-Err-replay_with.ensures
    (λ refusal replayed. tries c.args.ask.now c.args.program.now c.args.maps.words c.args.events.now (refused refusal) _
    c.if-is_empty.ensures (rw (← c.in-Ok.ensures) replayed) refl)

pub returns : goal.returns
returns c = record {
  more = [];
  are = tries c.args.ask.now c.args.program.now c.args.maps.words c.args.events.now
      (Ok (loop_replay c.in-Ok-replay_with.replayed)) [] c.if-is_empty.ensures
      (rw (← c.in-Ok.ensures) c.in-Ok-replay_with.ensures.replayed) refl;
  added = sym (append-nil c.args.records.now.items);
}
