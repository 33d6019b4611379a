use Rattle.std.proofs.Common.{ℕ, List, ◌++◌, refl, ap, ◌∙◌, append_assoc}
use Rattle.bpfspec_records.specs.Loops.{loop_records}
use Rattle.bpfspec_serve.proofs.facts.add_run_facts.Goals as goal

pub returns : goal.returns
returns c =
    let replay = c.in_ok-add_replay_facts.ensures in
    record {
      more = loop_records c.args.program.now.sizes c.in_ok-explained.explained ++ replay.more;
      are = rw (← c.in-Ok.ensures.words) (record {
        loops = c.in_ok-explained.explained;
        after = _;
        explained = rw (
          c.most_pairs-most.ensures,
          c.in_ok-after.ensures
              ∙ ap (λ (s : List ℕ). record { sizes = s; words = c.in-Ok.start.words }) c.in-Ok.ensures.sizes,
        )
            at c.in_ok-explained.ensures;
        replay = replay.more;
        replayed = replay.are;
        whole = refl;
      });
      added = rw (
        replay.added,
        c.in_ok-extend_from_slice.ensures.items,
        c.deref.ensures.value,
        c.in_ok-loops.ensures,
        c.sizes.ensures.sizes,
      ) (simp append_assoc);
    }
