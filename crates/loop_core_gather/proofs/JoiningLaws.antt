-- What is kept of blocks that follow one another is what is kept of all their iterations.
use Rattle.std.proofs.Common.{◌≡◌, ℕ, ◌+◌, ◌<◌, Bool, not, ◌&&◌, ◌==◌, List, [], ◌∷◌, length, map, refl, arith}
use Rattle.std.{proofs.Common.{ap, ◌∙◌}, specs.{Prelude.{slice_index}, List.{AllByRecursion, count_by}}}
use Rattle.std.proofs.lemmas.List.{length-map, map-append}
use Rattle.array_maps.specs.{declared.access.Op.{Op}, Accesses.{Action, Access, operators}}
use Rattle.bpf_insn_types.specs.Program.{Program}
use Rattle.bpf_step_model.specs.State.{LoopCall}
use Rattle.loop_core_model.specs.{declared.loop_test.Test.{Test}, Actions.{joined}, Conflict.{at_element}}
use Rattle.loop_core_model.{specs.LeastBreak.{accesses_of_each}, proofs.MarkLaws.{marks_merge}}
use Rattle.loop_core_model.specs.{Marks.{Visit, Marks, marks_of, marked_reduction, merged}, Kept.{kept}}
use Rattle.loop_core_model.specs.{Gather.{Block, IsRunOf}, KeptLaw.{marks_of_blocks}}
use Rattle.shadow_marks.specs.{declared.planes.Planes.{Planes}, Standing.{StandAt, StandFor}}
use Rattle.private_copy.{specs.Visits.{visits_of}, proofs.ReductionLaws.{partial_is_combination}}
use Rattle.loop_core_block.specs.{Blocks.{BlockOf}, Ran.{as_gathered, RecordsRun}}
use Rattle.loop_core_gather.{specs.Held.{visits_at, is_reduction, kept_at}, proofs.FollowLaws.{Follow}}

-- the iterations of a block at an element, and of several blocks
abbrev pub at_block : ℕ → Block → List (List Action)
at_block e b = at_element e (accesses_of_each b.ran)

abbrev pub at_blocks : ℕ → List Block → List (List (List Action))
at_blocks e blocks = map (at_block e) blocks

-- the accesses of all their iterations
abbrev pub runs_of : List Block → List (List Access)
runs_of blocks = accesses_of_each (joined (map (λ (b : Block). b.ran) blocks))

pub joined_at : (e : ℕ) (blocks : List Block) → joined (at_blocks e blocks) ≡ at_element e (runs_of blocks)
joined_at e [] = refl
joined_at e (b ∷ blocks) = rw (joined_at e blocks, map-append, map-append) refl

module _ (program : Program) (call : LoopCall) (words : List ℕ) where
  abbrev pub as_block : BlockOf → Block
  as_block b = as_gathered program call words b

  -- the visits of a block, by rising index from its first one on
  abbrev pub visits_in : BlockOf → ℕ → List Visit
  visits_in b = visits_of b.first (accesses_of_each (as_block b).ran)

  -- the marks of blocks that follow one another
  pub marks_follow : (index e : ℕ) (blocks : List BlockOf) → Follow index (map as_block blocks) →
      marks_of (visits_at visits_in blocks e) ≡ marks_of_blocks index (at_blocks e (map as_block blocks))
  marks_follow index e [] f = marks_merge.none
  marks_follow index e (b ∷ blocks) f =
      marks_merge.both (visits_in b e) (visits_at visits_in blocks e)
      ∙ ap (merged (marks_of (visits_in b e))) (marks_follow (index + length (as_block b).ran) e blocks f.1)
      ∙ rw (length-map, length-map, f.0) refl

  module _ (test : Test) where
    -- blocks that were run of their intervals
    pub runs_all : (blocks : List BlockOf) → AllByRecursion (RecordsRun test program call words) blocks
        → AllByRecursion (IsRunOf program 4096 call words) (map as_block blocks)
    runs_all [] all = tt
    runs_all (b ∷ blocks) all = (let is = all.0 in rw is.ended refl, runs_all blocks all.1)

    -- its planes stand for its visits
    pub stands_in_planes : (b : BlockOf) → RecordsRun test program call words b → StandFor b.planes (visits_in b)
    stands_in_planes b is = rw is.ended is.planes

    -- its copy keeps what its iterations leave
    same_kept : (e : ℕ) (b : BlockOf) → e < length words → RecordsRun test program call words b
        → kept_at e b ≡ kept (at_block e (as_block b)) (slice_index words e)
    same_kept e b inside is =
        let long : length b.copy.start ≡ length words = ap length is.start in
        let within : e < length b.copy.start = omega arith in
        let its = at_element e (accesses_of_each is.ran) in
        rw (
          is.ended,
          is.copy.remembers.last e within,
          is.copy.remembers.reduction e within,
          is.start,
          partial_is_combination its,
        ) refl

    pub all_kept : (e : ℕ) (blocks : List BlockOf) → e < length words
        → AllByRecursion (RecordsRun test program call words) blocks →
        map (kept_at e) blocks ≡ map (λ its. kept its (slice_index words e)) (at_blocks e (map as_block blocks))
    all_kept e [] inside all = refl
    all_kept e (b ∷ blocks) inside all = rw (same_kept e b inside all.0, all_kept e blocks inside all.1) refl

-- planes tell which elements are reduction-only
pub is_reduction_of : (planes : Planes) (e : ℕ) (marks : Marks) → StandAt planes e marks
    → is_reduction planes e ≡ marked_reduction marks
is_reduction_of planes e marks at =
    rw at.plain (ap (λ (by : Op → Bool). not marks.plain && (count_by by operators == 1)) (λ i op. at.by op i))
