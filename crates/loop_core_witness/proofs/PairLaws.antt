-- Pairs of iterations that fail a test.
use Rattle.std.proofs.Common.{◌≡◌, ◌≢◌, ℕ, ◌+◌, ◌≤◌, ◌<◌, inl, inr, List, [], length, Option, Some, None, refl, ap, ◌∙◌}
use Rattle.std.{proofs.Common.{arith}, specs.Prelude.{Bool, true, is_some, slice_index_or}}
use Rattle.std.proofs.lemmas.Bool.{cases_lt, false_from_ne_true}
use Rattle.array_maps.specs.Accesses.{Action, Access, actions_at}
use Rattle.bpf_insn_types.specs.Program.{Program}
use Rattle.bpf_step_model.specs.State.{LoopCall}
use Rattle.loop_core_model.specs.declared.loop_test.Test.{Test, TheVariants.{Lrpd, Flow}}
use Rattle.loop_core_model.specs.{Conflict.{fails, at_element, FailingPair, Opposed}, LeastBreak.{accesses_of_each}}
use Rattle.loop_core_model.proofs.FailingPairs.{fails_by_pair}
use Rattle.loop_core_witness.specs.declared.kind.Kind.{Kind, TheVariants.{FirstWrite, ExposedRead}}
use Rattle.loop_core_witness.specs.{declared.place.Place.{Place}, Firsts.{does, IsAt, Does, NoneDoes, FirstAt}}
use Rattle.loop_core_witness.specs.{Breaks.{AreCounted}, Witnesses.{Explains}}
use Rattle.loop_core_witness.proofs.Runs.{all_counted, runs_counted}

module _ {program : Program} {call : LoopCall} {words : List ℕ} {count : ℕ} (counts : AreCounted program call words
    count) (element : ℕ) where
  -- the actions of each counted iteration at the element
  abbrev Iterations : List (List Action)
  Iterations = at_element element (accesses_of_each (all_counted counts).its)

  abbrev Passes : Kind → ℕ → Bool
  Passes kind index = does kind (slice_index_or Iterations index [])

  abbrev First : Kind → ℕ → Place → Type 0
  First kind from place = FirstAt kind program call words element from count place

  abbrev NoneFrom : Kind → ℕ → Type 0
  NoneFrom kind from = NoneDoes kind program call words element from count

  by_kind : (kind : Kind) (index : ℕ) (accesses : List Access) (slot : Option ℕ) → IsAt kind program call index words
      element accesses slot →
      does kind (actions_at element accesses) ≡ is_some slot
  by_kind FirstWrite index accesses None seen = seen
  by_kind FirstWrite index accesses (Some slot) seen = seen.0
  by_kind ExposedRead index accesses None seen = seen
  by_kind ExposedRead index accesses (Some slot) seen = seen.0

  does_is : (kind : Kind) (index : ℕ) → index < count → (slot : Option ℕ) → Does kind program call words element index
      slot → Passes kind index ≡ is_some slot
  does_is kind index below slot it =
      ap (does kind) ((all_counted counts).at index index below (omega arith) it.iterated it.ended element)
      ∙ by_kind kind index it.iterated.accesses slot it.seen

  -- where none up to an index does it, one that does isn't below
  past_none : (kind : Kind) (from past k : ℕ) → past ≤ count → NoneDoes kind program call words element from past
      → from ≤ k → Passes kind k ≡ true → past ≤ k
  past_none kind from past k within none low passes =
      elim (cases_lt k past) [
        | inl below ↦ let off = does_is kind k (omega arith) None (none k low below) in absurd cc
        | inr h ↦ h
      ]

  least : (kind : Kind) (from k : ℕ) (place : Place) → First kind from place → from ≤ k → Passes kind k ≡ true
      → place.index ≤ k
  least kind from k place first =
      past_none kind from place.index k (let within = first.within in omega arith) first.before

  never : (kind : Kind) (from k : ℕ) → NoneFrom kind from → from ≤ k → k < length Iterations → Passes kind k ≡ true → ⊥
  never kind from k none low inside passes =
      let past = past_none kind from count k (omega arith) none low passes in
      let long = (all_counted counts).long element in
      omega (arith, past, long, inside)

  -- without a pair the test doesn't fail
  no_pair : (test : Test) → (FailingPair test Iterations → ⊥) → Explains test program call words element None
  no_pair test none = record {
    runs = accesses_of_each (all_counted counts).its;
    counted = runs_counted counts;
    pair = false_from_ne_true (fails test Iterations) (λ is. none ((fails_by_pair test Iterations).0 is));
  }

  pub no_writer : (test : Test) → NoneFrom FirstWrite 0 → Explains test program call words element None
  no_writer test none =
      no_pair test (λ pair. never FirstWrite 0 pair.writer none (omega arith) pair.writer_within pair.writing)

  pub no_reader : (test : Test) → NoneFrom ExposedRead 0 → Explains test program call words element None
  no_reader test none =
      no_pair test (λ pair. never ExposedRead 0 pair.reader none (omega arith) pair.reader_within pair.reading)

  -- a writer and a reader that fail a test, where no failing pair has a lesser reader, nor with it a lesser writer
  witnessed : (test : Test) (from behind : ℕ) (w r : Place) → First FirstWrite from w → First ExposedRead behind r
      → Opposed test w.index r.index → ((other : FailingPair test Iterations) → r.index ≤ other.reader)
      → ((other : FailingPair test Iterations) → other.reader ≡ r.index → w.index ≤ other.writer)
      → Explains test program call words element (Some (record { writer = w; reader = r }))
  witnessed test from behind w r writer reader opposed least_reader least_writer =
      let long = (all_counted counts).long element in
      let writer_within = writer.within in
      let reader_within = reader.within in
      record {
        runs = accesses_of_each (all_counted counts).its;
        counted = runs_counted counts;
        pair = record {
          pair = record {
            writer = w.index;
            reader = r.index;
            writer_within = omega arith;
            reader_within = omega arith;
            opposed = opposed;
            writing = does_is FirstWrite w.index writer.within (Some w.slot) writer.here;
            reading = does_is ExposedRead r.index reader.within (Some r.slot) reader.here;
          };
          least = record { reader = least_reader; writer = least_writer };
          writer = refl;
          reader = refl;
          written = writer.here.seen.1;
          read = reader.here.seen.1;
        };
      }

  module _ (w : Place) (first_writer : First FirstWrite 0 w) where
    -- the first writer is the least of all pairs'
    writer_low : (test : Test) (pair : FailingPair test Iterations) → w.index ≤ pair.writer
    writer_low test pair = least FirstWrite 0 pair.writer w first_writer (omega arith) pair.writing

    -- each pair's reader comes after it
    abbrev ReadersFollow : Test → Type 0
    ReadersFollow test = (pair : FailingPair test Iterations) → w.index + 1 ≤ pair.reader

    pub none_follows : (test : Test) → ReadersFollow test → NoneFrom ExposedRead (w.index + 1)
        → Explains test program call words element None
    none_follows test follow none =
        no_pair test (λ pair.
        never ExposedRead (w.index + 1) pair.reader none (follow pair) pair.reader_within pair.reading)

    opposed : (test : Test) (r : ℕ) → w.index + 1 ≤ r → Opposed test w.index r
    opposed Lrpd r after = omega arith
    opposed Flow r after = omega arith

    pub one_follows : (test : Test) → ReadersFollow test → (r : Place) → First ExposedRead (w.index + 1) r
        → Explains test program call words element (Some (record { writer = w; reader = r }))
    one_follows test follow r next =
        witnessed test 0 (w.index + 1) w r first_writer next (opposed test r.index next.after)
        (λ other. least ExposedRead (w.index + 1) other.reader r next (follow other) other.reading)
        (λ other same. writer_low test other)

    -- so it is by the flow test
    pub flow_follows : ReadersFollow Flow
    flow_follows pair =
        let low = writer_low Flow pair in
        let order : pair.writer < pair.reader = pair.opposed in
        omega arith

    module _ (r : Place) (first_reader : First ExposedRead 0 r) where
      reader_low : (pair : FailingPair Lrpd Iterations) → r.index ≤ pair.reader
      reader_low pair = least ExposedRead 0 pair.reader r first_reader (omega arith) pair.reading

      -- the LRPD test: the first writer isn't the first reader
      pub two_found : w.index ≢ r.index → Explains Lrpd program call words element
          (Some (record { writer = w; reader = r }))
      two_found apart =
          witnessed Lrpd 0 0 w r first_writer first_reader apart reader_low (λ other same. writer_low Lrpd other)

      module _ (one : w.index ≡ r.index) where
        -- it is, and there is another writer
        pub writer_found : (v : Place) → First FirstWrite (w.index + 1) v →
            Explains Lrpd program call words element (Some (record { writer = v; reader = r }))
        writer_found v next =
            let after = next.after in
            witnessed Lrpd (w.index + 1) 0 v r next first_reader (omega arith) reader_low
            (λ other same.
            let low = writer_low Lrpd other in
            let apart : other.writer ≢ other.reader = other.opposed in
            least FirstWrite (w.index + 1) other.writer v next (omega arith) other.writing)

        -- there is none: each pair is of it and of a later reader
        pub lrpd_follows : NoneFrom FirstWrite (w.index + 1) → ReadersFollow Lrpd
        lrpd_follows alone pair =
            let low = writer_low Lrpd pair in
            let first = reader_low pair in
            let apart : pair.writer ≢ pair.reader = pair.opposed in
            elim (cases_lt w.index pair.writer) [
              | inl later ↦ absurd (never FirstWrite (w.index + 1) pair.writer alone (omega arith) pair.writer_within
                  pair.writing)
              | inr h ↦ omega arith
            ]
