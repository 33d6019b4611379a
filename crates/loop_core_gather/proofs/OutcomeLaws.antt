-- Gathered blocks tell the loop's verdict, and after a pass its outcome.
use Rattle.std.proofs.Common.{◌≡◌, ℕ, ◌/◌, ◌<◌, ◌≤◌, List, [], ◌∷◌, length, map, Option, Some, None, inl, inr, refl}
use Rattle.std.proofs.{Common.{sym, ◌∙◌, ap, arith}, lemmas.Bool.{cases_Bool}}
use Rattle.std.specs.{Prelude.{slice_index, slice_get}, List.{All, AllByRecursion, filter, range_with_len}}
use Rattle.std.proofs.lemmas.List.Elements.{All-weaker, recursion_from_All}
use Rattle.array_maps.specs.{MapList.{AreWords}, Accesses.{Access}}
use Rattle.bpf_insn_types.specs.Program.{Program}
use Rattle.bpf_step_model.specs.{State.{LoopCall}, Run.{Ended}, Iteration.{iteration}}
use Rattle.loop_core_model.specs.declared.{loop_test.Test.{Test}, verdict.Verdict.TheVariants.{Parallel}}
use Rattle.loop_core_model.specs.{Actions.{joined}, Conflict.{conflicts, at_element, conflicting}, Report.{judged}}
use Rattle.loop_core_model.specs.{Committed.{committed, committed_words}, declared.faults.GatherFault.{GatherFault}}
use Rattle.loop_core_model.specs.LeastBreak.{is_break, count_to, counted, counted_runs}
use Rattle.loop_core_model.specs.Marks.{Visit, marks_of, marked_conflict, marked_reduction}
use Rattle.loop_core_model.specs.Planes.{elements_in_plane, plane_verdict}
use Rattle.loop_core_model.specs.{Split.{split_fault}, Gather.{Block, gathered, gather_fault, Gathers}}
use Rattle.loop_core_model.specs.KeptLaw.{marks_of_blocks}
use Rattle.loop_core_model.proofs.{GatherLaws.{blocks_gather}, Least.{counts_to}, KeptBlockLaws.{kept_blocks_tell}}
use Rattle.loop_core_model.proofs.{OutcomeLaws.{outcome_by_test}, PlaneBits.{plane_judges}}
use Rattle.shadow_marks.specs.{declared.planes.Planes.{Planes}, Standing.{StandFor, test_of, words_for}}
use Rattle.private_copy.{specs.Touched.{has_page}, proofs.AccessLaws.{shown_length}}
use Rattle.loop_core_block.specs.{Blocks.{BlockOf}, Ran.{RecordsRun}}
use Rattle.loop_core_gather.specs.{Counting.{blocks_fault, Counts}, Gathered.{all_gathered, HasOutcome}}
use Rattle.loop_core_gather.specs.Held.{chosen, visits_at, left_at, left_words, AreInOne, AreHeld}
use Rattle.loop_core_gather.specs.Held.{is_reduction}
use Rattle.loop_core_gather.specs.Touched.{AreMarked}
use Rattle.loop_core_gather.proofs.CountLaws.{BlocksCount, counting_of, same_fault, all_count}
use Rattle.loop_core_gather.proofs.{FollowLaws.{Follow, counting_follow}, HeldLaws.{same_words}}
use Rattle.loop_core_gather.proofs.{ChoiceLaws.{AreAt, are_at, all_chosen, all_there}, UntouchedLaws.{untouched}}
use Rattle.loop_core_gather.proofs.JoiningLaws.{at_blocks, runs_of, joined_at, as_block, visits_in, marks_follow}
use Rattle.loop_core_gather.proofs.JoiningLaws.{runs_all, stands_in_planes, all_kept, is_reduction_of}

-- the fault of blocks that were run is the fault of the blocks as they are gathered
pub faulty : (test : Test) (program : Program) (call : LoopCall) (words bounds : List ℕ) (blocks : List BlockOf)
    (fault : GatherFault) → All (RecordsRun test program call words) blocks
    → blocks_fault bounds blocks ≡ Some fault
    → gather_fault bounds (all_gathered program call words blocks) ≡ Some fault
faulty test program call words bounds blocks fault ran is =
    rw (← same_fault program call words test bounds blocks
    (recursion_from_All (RecordsRun test program call words) blocks ran)) is

gathered_is : (bounds : List ℕ) (blocks : List Block) → gathered bounds blocks
    ≡ joined (map (λ (b : Block). b.ran) (counting_of bounds blocks))
gathered_is [] blocks = refl
gathered_is (first ∷ bounds) blocks = refl

passes_alone : (elements : List ℕ) → judged elements ≡ Parallel → elements ≡ []
passes_alone [] h = refl
passes_alone (least ∷ others) h = absurd (cc)

-- blocks were run on the words of a loop call, and those at these places count, up to this least break
pub record AreCounted (test : Test) (program : Program) (call : LoopCall) (words bounds : List ℕ)
    (blocks : List BlockOf) (least : Option ℕ) (places : List ℕ) : Type 0 where
  pub split : split_fault bounds call.n ≡ None
  pub ran : All (RecordsRun test program call words) blocks
  pub counts : Counts bounds blocks least places

module _ {test : Test} {program : Program} {call : LoopCall} {words bounds : List ℕ} {blocks : List BlockOf}
    {least : Option ℕ} {places : List ℕ} (known : AreCounted test program call words bounds blocks least places) where
  abbrev all : List Block
  all = all_gathered program call words blocks

  -- those that count
  abbrev counting : List BlockOf
  counting = chosen places blocks

  abbrev counted_blocks : List Block
  counted_blocks = map (as_block program call words) counting

  abbrev runs : List (List Access)
  runs = runs_of counted_blocks

  each_ran : AllByRecursion (RecordsRun test program call words) blocks
  each_ran = recursion_from_All (RecordsRun test program call words) blocks known.ran

  ran_at : (place : ℕ) (b : BlockOf) → slice_get blocks place ≡ Some b → RecordsRun test program call words b
  ran_at place b = all_there (RecordsRun test program call words) blocks place b known.ran

  counting_ran : AllByRecursion (RecordsRun test program call words) counting
  counting_ran = all_chosen (RecordsRun test program call words) blocks places
      (λ i b below. ran_at (slice_index places i) b)

  counts : BlocksCount bounds all least places
  counts = all_count program call words test bounds blocks each_ran least places known.counts

  pub faultless : gather_fault bounds all ≡ None
  faultless = counts.faultless

  at : AreAt (as_block program call words) blocks places (counting_of bounds all)
  at = are_at (as_block program call words) blocks places (counting_of bounds all) counts.in_order

  pub within : All (λ place. place < length blocks) places
  within = at.within

  gathers : Gathers program 4096 call words bounds all
  gathers = blocks_gather program 4096 call words bounds all known.split counts.faultless
      (runs_all program call words test blocks each_ran)

  follow : Follow 0 counted_blocks
  follow = rw at.same (counting_follow program 4096 call words bounds all known.split counts.faultless
      (runs_all program call words test blocks each_ran))

  counted_is : counted_runs program 4096 call words ≡ Ended runs
  counted_is = rw (gathers.iterations, at.same, gathered_is bounds all) refl

  -- n iterations count
  answer_is : count_to call.n least ≡ counted program 4096 call words
  answer_is = ap (count_to call.n) (counts.least_is ∙ gathers.break)

  pub answer_within : count_to call.n least ≤ call.n
  answer_within = rw answer_is (counts_to (λ index. is_break (iteration program 4096 call index words)) call.n).within

  -- their planes in one
  module _ (planes : Planes) (in_one : AreInOne (length words) test blocks places planes) where
    -- of a block nothing is kept at an element of a page that isn't marked by its bit
    pub are_held : (touched : List ℕ) → length words ≤ 65536 → length touched ≡ words_for (length words)
        → AreMarked blocks places (length places) touched → AreHeld (length words) blocks places planes touched
    are_held touched few pages marked = record {
      few = few;
      within = within;
      starts = All-weaker (RecordsRun test program call words) (λ b. length b.copy.start ≡ length words)
          (λ b is. ap length is.start) blocks known.ran;
      whole = in_one.stand.stand.whole;
      stand = in_one.stand;
      count = in_one.count;
      pages = pages;
      untouched = λ e inside i b below found unset. elim (cases_Bool (has_page b.copy.pages (e / 64))) [
        | inl has ↦ absurd (let set = marked i b (e / 64) below found has (omega arith) in cc)
        | inr none ↦ untouched test program call words b e (ran_at (slice_index places i) b found) inside none
      ];
    }

    abbrev visits : ℕ → List Visit
    visits = visits_at (visits_in program call words) counting

    stand : StandFor planes visits
    stand = in_one.visits (visits_in program call words) (All-weaker (RecordsRun test program call words)
        (λ b. StandFor b.planes (visits_in program call words b)) (stands_in_planes program call words test) blocks
        known.ran)

    marks_are : (e : ℕ) → marks_of (visits e) ≡ marks_of_blocks 0 (at_blocks e counted_blocks)
    marks_are e = marks_follow program call words 0 e counting follow

    conflict_is : (e : ℕ) → marked_conflict test (marks_of (visits e)) ≡ conflicts test (at_element e runs)
    conflict_is e = ap (marked_conflict test) (marks_are e)
        ∙ sym (kept_blocks_tell.conflict test 0 (at_blocks e counted_blocks))
        ∙ ap (conflicts test) (joined_at e counted_blocks)

    left_is : (e : ℕ) → e < length words → left_at planes counting words e ≡ committed (at_element e runs)
        (slice_index words e)
    left_is e inside =
        let count = in_one.count in
        let below : e < planes.elements = omega arith in
        let reduced : is_reduction planes e ≡ marked_reduction (marks_of_blocks 0 (at_blocks e counted_blocks)) =
        is_reduction_of planes e (marks_of (visits e)) (stand.marks e below) ∙ ap marked_reduction (marks_are e) in
        rw (reduced, all_kept program call words test e counting inside counting_ran, ← joined_at e counted_blocks)
        (sym (kept_blocks_tell.commit 0 (at_blocks e counted_blocks) (slice_index words e)))

    words_are : left_words planes counting words ≡ committed_words runs words
    words_are = same_words (left_at planes counting words) (λ e. committed (at_element e runs) (slice_index words e))
        (length words) left_is

    -- what they tell
    pub has_outcome : (plane : List ℕ) → AreWords plane → ((visits : ℕ → List Visit) → StandFor planes visits
        → elements_in_plane plane ≡ filter (λ e. marked_conflict (test_of planes.tested) (marks_of (visits e)))
        (range_with_len 0 planes.elements)) → HasOutcome test program call words (record {
          verdict = plane_verdict plane;
          answer = count_to call.n least;
          words = left_words planes counting words;
          start = words;
        })
    has_outcome plane fit conflicting_are =
        let judged_is : plane_verdict plane ≡ judged (conflicting test runs (length words)) =
        plane_judges.verdict plane fit
        ∙ rw (rw (in_one.test_is, in_one.count) at (conflicting_are visits stand)) (simp conflict_is) in
        record {
          ended = rw (counted_is, judged_is) refl;
          passes = λ h. rw (h, answer_is, words_are) (outcome_by_test.passes test program 4096 call words runs
              counted_is (passes_alone (conflicting test runs (length words)) (sym judged_is ∙ h)));
          count = shown_length (left_at planes counting words) (length words);
          starts = refl;
        }
