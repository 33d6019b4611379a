-- What the iterations of a loop did, stretch by stretch.
use Rattle.std.specs.Prelude.{◌≡◌, ℕ, ◌<◌, Bool, true, false, not, ◌&&◌, ◌||◌, nat_lt, List, length, Option, Some, None}
use Rattle.std.specs.List.{All}
use Rattle.array_maps.specs.declared.access.Op.{Op, TheVariants.{Add, Or, And, Xor, AddH}}
use Rattle.bpf_insn_types.specs.Program.{Program}
use Rattle.bpf_step_model.specs.{State.{LoopCall}, Run.{Ended}, Iteration.{Iterated}}
use Rattle.loop_core_model.specs.{Actions.{is_same}, Block.{block_run, break_from}, Conflict.{at_element}}
use Rattle.loop_core_model.specs.{LeastBreak.{accesses_of_each}, Marks.{numbered}, Planes.{bit_of}}
use Rattle.shadow_marks.specs.declared.planes.OperatorPlanes.{OperatorPlanes}
use Rattle.shadow_marks.specs.declared.planes.{Planes.{Planes}, Tested.{Tested, TheVariants.{Lrpd, Flow}}}
use Rattle.shadow_marks.specs.Standing.{StandFor}
use Rattle.loop_core_witness.specs.declared.kind.Kind.{Kind, TheVariants.{FirstWrite, ExposedRead}}
use Rattle.loop_core_witness.specs.declared.survey.{Stretch.{Stretch}, Survey.{Survey}}

-- no iteration does what is looked for at an element, as planes for the LRPD test show: none writes it; none has an
-- exposed read of it; planes for the flow test aren't asked
abbrev pub lacks_tested : Kind → Tested → ℕ → Bool
lacks_tested FirstWrite (Lrpd planes) e = not (bit_of planes.written.items e)
lacks_tested ExposedRead (Lrpd planes) e =
    not (bit_of planes.read_only.items e) && not (bit_of planes.read_and_written.items e)
lacks_tested kind (Flow planes) e = false

-- no iteration does so, as planes of either test show; nothing is known of an element that the planes don't have
abbrev pub lacks : Kind → Planes → ℕ → Bool
lacks kind planes e = nat_lt e planes.elements && lacks_tested kind planes.tested e

-- an operator isn't the one that is kept; where none is, each isn't
abbrev pub is_other : Option Op → Op → Bool
is_other None op = true
is_other (Some kept) op = not (is_same kept op)

-- an iteration reduces an element by such an operator
abbrev pub reduces_by_other : OperatorPlanes → Option Op → ℕ → Bool
reduces_by_other planes kept e =
    ((((is_other kept Add && bit_of planes.add.items e)
    || (is_other kept Or && bit_of planes.or.items e))
    || (is_other kept And && bit_of planes.and.items e))
    || (is_other kept Xor && bit_of planes.xor.items e))
    || (is_other kept AddH && bit_of planes.addh.items e)

-- an iteration does more at an element than reduce it by the operator that is kept; where none is, it accesses it
abbrev pub does_more : Planes → Option Op → ℕ → Bool
does_more planes kept e = bit_of planes.plain.items e || reduces_by_other planes.operators kept e

-- iterations don't end a reduction by an operator; where there was none yet, they don't access the element
abbrev pub is_quiet : Option Op → Planes → ℕ → Bool
is_quiet kept planes e = nat_lt e planes.elements && not (does_more planes kept e)

-- the iterations of a stretch, each run on these words: all of them end, none breaks, and the planes represent them
pub record IsStretch (program : Program) (call : LoopCall) (words : List ℕ) (stretch : Stretch) : Type 0 where
  pub ran : List Iterated
  pub ended : block_run program 4096 call words stretch.first stretch.past ≡ Ended ran
  pub unbroken : break_from stretch.first ran ≡ None
  pub elements : stretch.planes.elements ≡ length words
  pub planes : StandFor stretch.planes (λ e. numbered stretch.first (at_element e (accesses_of_each ran)))

-- each stretch of a survey is so
pub record IsSurvey (program : Program) (call : LoopCall) (words : List ℕ) (survey : Survey) : Type 0 where
  pub some : 0 < survey.size
  pub each : All (IsStretch program call words) survey.stretches.items
