-- What the planes of a stretch tell of its iterations.
use Rattle.std.proofs.Common.{◌≡◌, ℕ, zero, suc, ◌+◌, ◌-◌, ◌≤◌, ◌<◌, inl, inr, Bool, true, false, not, ◌&&◌, ◌||◌, ◌/◌}
use Rattle.std.proofs.Common.{List, [], ◌∷◌, length, Option, Some, None, refl, sym, ap, ◌∙◌, arith}
use Rattle.std.specs.{Prelude.{if◌then◌else◌, ◌==◌, nat_lt}, List.{list_any, list_all}}
use Rattle.std.proofs.lemmas.Bool.{and_from, and_parts, cases_Bool, cases_eq, ltb-true, not-true, or_parts}
use Rattle.array_maps.specs.declared.access.Op.{Op, TheVariants.{Add, Or, And, Xor, AddH}}
use Rattle.array_maps.specs.Accesses.{Action, Reduce, Access, actions_at}
use Rattle.bpf_insn_types.specs.Program.{Program}
use Rattle.bpf_step_model.specs.{State.{LoopCall}, Run.{BoundedResult, Ended, followed}}
use Rattle.bpf_step_model.{specs.Iteration.{Iterated, iteration}, proofs.Endings.{mapped_from}}
use Rattle.loop_core_model.specs.{Actions.{is_same, writes, exposed, reduces_by}, Block.{break_from}, Flags.{is_plain}}
use Rattle.loop_core_model.specs.{Conflict.{at_element}, LeastBreak.{in_front_of, accesses_of_each}, Planes.{bit_of}}
use Rattle.loop_core_model.specs.{Marks.{actions_of, numbered, marks_of}, Scan.{up_to_break, scan}}
use Rattle.loop_core_model.proofs.OneElement.{is_same-refl}
use Rattle.shadow_marks.specs.declared.planes.{OperatorPlanes.{OperatorPlanes}, Planes.{Planes}, Tested.{Tested}}
use Rattle.shadow_marks.specs.declared.planes.Tested.TheVariants.{Lrpd, Flow}
use Rattle.shadow_marks.specs.Standing.{IsBitPlane, plane_by, TestedStandAt, StandAt}
use Rattle.loop_core_witness.specs.declared.kind.Kind.{Kind, TheVariants.{FirstWrite, ExposedRead}}
use Rattle.loop_core_witness.specs.{declared.survey.Stretch.{Stretch}, Firsts.{does, IsAt, NoneDoes}}
use Rattle.loop_core_witness.specs.Reductions.{GoOn, AreQuiet}
use Rattle.loop_core_witness.specs.Surveys.{lacks_tested, lacks, is_other, reduces_by_other, does_more, is_quiet}
use Rattle.loop_core_witness.specs.Surveys.{IsStretch}

-- a plane has a word with the bit of each element
pub word_there : (elements e : ℕ) (words : List ℕ) → IsBitPlane elements words → e < elements → e / 64 < length words
word_there elements e words is below = let count = is.count in omega (arith, count, below)

-- an iteration that was run: what none of those that were run does, it doesn't
pub record RanAt (iterate : ℕ → BoundedResult Iterated) (ran : List Iterated) (index : ℕ) : Type 0 where
  pub it : Iterated
  pub ended : iterate index ≡ Ended it
  pub none : (p : List Access → Bool) → list_any p (accesses_of_each ran) ≡ false → p it.accesses ≡ false

module _ (iterate : ℕ → BoundedResult Iterated) where
  goes_on : (left first : ℕ) (it : Iterated) (others : List Iterated) → iterate first ≡ Ended it → (index : ℕ)
      → first ≤ index → index < first + suc left →
      (first + 1 ≤ index → index < first + 1 + left → RanAt iterate others index) → RanAt iterate (it ∷ others) index
  goes_on left first it others told index low high later =
      let parts = λ (p : List Access → Bool). or_parts (p it.accesses) (list_any p (accesses_of_each others)) in
      elim (cases_eq index first) [
        | inl same ↦ record { it = it; ended = ap iterate same ∙ told; none = λ p none. (parts p none).0 }
        | inr apart ↦ (
            let there = later (omega arith) (omega arith) in
            record { it = there.it; ended = there.ended; none = λ p none. there.none p (parts p none).1 }
            )
      ]

  -- each iteration of a scan that didn't break
  ran_at : (left first : ℕ) (ran : List Iterated) → scan iterate left first ≡ Ended ran → break_from first ran ≡ None
      → (index : ℕ) → first ≤ index → index < first + left → RanAt iterate ran index
  ran_at zero first ran h unbroken index low high = absurd (omega arith)
  ran_at (suc left) first ran h unbroken index low high = by_first (iterate first) refl h (ran_at left (first + 1))
    where
      Later : Type 0
      Later = (others : List Iterated) → scan iterate left (first + 1) ≡ Ended others
          → break_from (first + 1) others ≡ None → (i : ℕ) → first + 1 ≤ i → i < first + 1 + left
          → RanAt iterate others i

      by_break : (it : Iterated) → iterate first ≡ Ended it → (b : Bool) → (it.ret == 1) ≡ b →
          (if b then Ended (it ∷ []) else in_front_of (scan iterate left (first + 1)) it) ≡ Ended ran →
          Later → RanAt iterate ran index
      by_break it told true one h later =
          let is : it ∷ [] ≡ ran = cc in
          let broken = rw (← is, one) at unbroken in
          absurd cc
      by_break it told false on h later =
          let parts = mapped_from (λ others. it ∷ others) (scan iterate left (first + 1)) ran h in
          let rest : break_from (first + 1) parts.0 ≡ None = rw (parts.2, on) at unbroken in
          rw parts.2 (goes_on left first it parts.0 told index low high (later parts.0 parts.1 rest index))

      by_first : (e : BoundedResult Iterated) → iterate first ≡ e
          → followed (up_to_break (scan iterate left (first + 1))) e ≡ Ended ran → Later → RanAt iterate ran index
      by_first (Ended it) same h later = by_break it same (it.ret == 1) refl h later
      by_first _ same h later = absurd cc

-- what none of a set's iterations does at an element
pub any_at : (element : ℕ) (p : List Action → Bool) (runs : List (List Access)) (first : ℕ) →
    list_any p (actions_of (numbered first (at_element element runs)))
    ≡ list_any (λ run. p (actions_at element run)) runs
any_at element p [] first = refl
any_at element p (run ∷ runs) first =
    ap (λ (b : Bool). p (actions_at element run) || b) (any_at element p runs (first + 1))

not_exposed : (a b : Bool) → (a && not b) ≡ false → (a && b) ≡ false → a ≡ false
not_exposed true true h k = absurd cc
not_exposed true false h k = absurd cc
not_exposed false b h k = refl

-- without plain accesses and without reduces by other operators all are reduces by the one that is kept
alone : (kept : Option Op) (actions : List Action) → list_any is_plain actions ≡ false
    → ((op : Op) → is_other kept op ≡ true → list_any (reduces_by op) actions ≡ false) → GoOn kept actions
alone None [] plain others = refl
alone (Some op) [] plain others = refl
alone None (Reduce by operand ∷ rest) plain others =
    absurd (let off = rw is_same-refl at (others by refl) in cc)
alone (Some op) (Reduce by operand ∷ rest) plain others =
    elim (cases_Bool (is_same op by)) [
      | inl same ↦ and_from (is_same op by) (list_all (reduces_by op) rest) same (alone (Some op) rest plain
          (λ other apart.
          (or_parts (is_same other by) (list_any (reduces_by other) rest) (others other apart)).1))
      | inr apart ↦ absurd (let off = rw is_same-refl at (others by (ap not apart)) in cc)
    ]
alone kept (_ ∷ rest) plain others = absurd cc

-- where a test passes for no operator
none_of : (p : Op → Bool) → ((((p Add || p Or) || p And) || p Xor) || p AddH) ≡ false → (op : Op) → p op ≡ false
none_of p off op =
    let four = or_parts (((p Add || p Or) || p And) || p Xor) (p AddH) off in
    let three = or_parts ((p Add || p Or) || p And) (p Xor) four.0 in
    let two = or_parts (p Add || p Or) (p And) three.0 in
    let one = or_parts (p Add) (p Or) two.0 in
    elim op as (λ o. p o ≡ false) [ Add ↦ one.0 | Or ↦ one.1 | And ↦ two.1 | Xor ↦ three.1 | AddH ↦ four.1 ]

pub other_off : (planes : OperatorPlanes) (kept : Option Op) (e : ℕ) → reduces_by_other planes kept e ≡ false
    → (op : Op) → is_other kept op ≡ true → bit_of (plane_by planes op) e ≡ false
other_off planes kept e off op other =
    rw other at (none_of (λ o. is_other kept o && bit_of (plane_by planes o) e) off op)

-- what none of these iterations does at an element, and so this one doesn't
module _ (element : ℕ) (runs : List (List Access)) (first : ℕ) (accesses : List Access)
    (none : (p : List Access → Bool) → list_any p runs ≡ false → p accesses ≡ false) where
  unset : (p : List Action → Bool) (bit : Bool) → bit ≡ list_any p (actions_of (numbered first (at_element element
      runs))) → bit ≡ false → p (actions_at element accesses) ≡ false
  unset p bit stands off =
      none (λ run. p (actions_at element run)) (sym (any_at element p runs first) ∙ sym stands ∙ off)

  lacking : (kind : Kind) (tested : Tested)
      → TestedStandAt tested element (marks_of (numbered first (at_element element runs)))
      → lacks_tested kind tested element ≡ true → does kind (actions_at element accesses) ≡ false
  lacking FirstWrite (Lrpd planes) stand lack =
      unset writes (bit_of planes.written.items element) stand.written (not-true (bit_of planes.written.items element)
      lack)
  lacking ExposedRead (Lrpd planes) stand lack =
      let only = bit_of planes.read_only.items element in
      let both = bit_of planes.read_and_written.items element in
      let parts = and_parts (not only) (not both) lack in
      not_exposed (exposed (actions_at element accesses)) (writes (actions_at element accesses))
      (unset (λ actions. exposed actions && not (writes actions)) only stand.read_only (not-true only parts.0))
      (unset (λ actions. exposed actions && writes actions) both stand.read_and_written (not-true both parts.1))
  lacking kind (Flow planes) stand lack = absurd cc

  -- it goes on with a reduction
  goes : (planes : Planes) (kept : Option Op)
      → StandAt planes element (marks_of (numbered first (at_element element runs)))
      → does_more planes kept element ≡ false → GoOn kept (actions_at element accesses)
  goes planes kept stand off =
      let parts = or_parts (bit_of planes.plain.items element) (reduces_by_other planes.operators kept element) off in
      alone kept (actions_at element accesses)
      (unset (λ actions. list_any is_plain actions) (bit_of planes.plain.items element) stand.plain parts.0)
      (λ op other. unset (λ actions. list_any (reduces_by op) actions)
      (bit_of (plane_by planes.operators op) element) (stand.by op)
      (other_off planes.operators kept element parts.1 op other))

module _ (program : Program) (call : LoopCall) (words : List ℕ) (element : ℕ) where
  is_at : (kind : Kind) (index : ℕ) (accesses : List Access) → does kind (actions_at element accesses) ≡ false
      → IsAt kind program call index words element accesses None
  is_at FirstWrite index accesses off = off
  is_at ExposedRead index accesses off = off

  module _ (stretch : Stretch) (is : IsStretch program call words stretch) where
    at : (index : ℕ) → stretch.first ≤ index → index < stretch.past
        → RanAt (λ k. iteration program 4096 call k words) is.ran index
    at index low high =
        ran_at (λ k. iteration program 4096 call k words) (stretch.past - stretch.first) stretch.first is.ran is.ended
        is.unbroken index low (omega arith)

    -- none of a stretch does it
    pub lacks_none : (kind : Kind) → lacks kind stretch.planes element ≡ true → (from : ℕ) → stretch.first ≤ from
        → NoneDoes kind program call words element from stretch.past
    lacks_none kind lack from begun index low high =
        let planes = stretch.planes in
        let parts = and_parts (nat_lt element planes.elements) (lacks_tested kind planes.tested element) lack in
        let ran = at index (omega arith) high in
        record {
          iterated = ran.it;
          ended = ran.ended;
          seen = is_at kind index ran.it.accesses (lacking element (accesses_of_each is.ran) stretch.first
              ran.it.accesses ran.none kind planes.tested
              (is.planes.marks element (ltb-true element planes.elements parts.0)).tested parts.1);
        }

    -- all of a stretch go on with a reduction
    pub quiet : (op : Option Op) → is_quiet op stretch.planes element ≡ true → (from : ℕ) → stretch.first ≤ from
        → AreQuiet program call words element op from stretch.past
    quiet op told from begun index low high =
        let planes = stretch.planes in
        let parts = and_parts (nat_lt element planes.elements) (not (does_more planes op element)) told in
        let ran = at index (omega arith) high in (
          ran.it,
          ran.ended,
          goes element (accesses_of_each is.ran) stretch.first ran.it.accesses ran.none planes op
              (is.planes.marks element (ltb-true element planes.elements parts.0))
              (not-true (does_more planes op element) parts.1),
        )
