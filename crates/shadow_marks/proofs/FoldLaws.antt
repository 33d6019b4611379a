-- Flags that come into planes are marks that are merged.
use Rattle.std.proofs.Common.{◌≡◌, ◌≢◌, ℕ, ◌+◌, ◌/◌, ◌%◌, ◌<◌, Bool, true, false, ◌&&◌, ◌||◌, eqb, min, max, List, None}
use Rattle.std.proofs.Common.{length, refl, replicate, sym, ◌∙◌, ap, inl, inr, arith, eq-eqb, ne_eqb, Option, Some}
use Rattle.std.{specs.{Prelude.{if◌then◌else◌}, Int.{bit_at}}, proofs.lemmas.Bool.{cases_lt}}
use Rattle.std.proofs.Math.{Bool.{or-false, and-true, and-false, and_comm}, Nat.{max-zero}}
use Rattle.std.proofs.lemmas.{List.{length-replicate, get_or-replicate, get_or_past}, Nat.Bits.{bit_at-zero}}
use Rattle.array_maps.specs.declared.access.Op.{Op, TheVariants.{Add, Or, And, Xor, AddH}}
use Rattle.loop_core_model.specs.{LeastBreak.{lesser}, Flags.{Flags}, Planes.{bit_of}}
use Rattle.loop_core_model.specs.Marks.{Marks, first_number, no_marks, marks_of_one, merged}
use Rattle.shadow_marks.specs.declared.planes.{Tested.{Tested}}
use Rattle.shadow_marks.specs.declared.planes.{Tested.TheVariants.{Lrpd as ByLrpd, Flow as ByFlow}, Planes.{Planes}}
use Rattle.shadow_marks.specs.{declared.planes.OperatorPlanes.{OperatorPlanes}, Bits.{OrsBit}}
use Rattle.shadow_marks.specs.Standing.{words_for, IsBitPlane, plane_by, EachPlane}
use Rattle.shadow_marks.specs.Standing.{AreTested, ArePlanes, test_of, TestedStandAt}
use Rattle.shadow_marks.specs.Standing.{no_visits, StandFor}
use Rattle.shadow_marks.specs.Ending.{TestedFolds, OperatorsFold, Folds}

-- one plane
ored_here : (old new : List ℕ) (e : ℕ) (bit mark : Bool) → OrsBit old new e bit → bit_of old e ≡ mark
    → bit_of new e ≡ (mark || bit)
ored_here old new e bit mark ors was =
    ors.bits e ∙ ap (λ b. bit_of old e || (bit && b)) (eq-eqb e e refl) ∙ (λ i. was i || and-true bit i)

ored_there : (old new : List ℕ) (e : ℕ) (bit : Bool) → OrsBit old new e bit → (k : ℕ) → k ≢ e
    → bit_of new k ≡ bit_of old k
ored_there old new e bit ors k other =
    ors.bits k ∙ ap (λ b. bit_of old k || (bit && b)) (ne_eqb k e other) ∙ ap (λ b. bit_of old k || b) (and-false bit)
    ∙ or-false (bit_of old k)

ored_plane : (elements : ℕ) (old new : List ℕ) (e : ℕ) (bit : Bool) → OrsBit old new e bit → e < elements
    → IsBitPlane elements old → IsBitPlane elements new
ored_plane elements old new e bit ors within plane = record {
  count = ors.count ∙ plane.count;
  past = λ k past. ored_there old new e bit ors k (λ same. absurd (omega arith)) ∙ plane.past k past;
}

pub has_word : (elements : ℕ) (words : List ℕ) (e : ℕ) → e < elements → IsBitPlane elements words
    → e / 64 < length words
has_word elements words e within plane = rw plane.count (omega arith)

pub nothing_ored : (words : List ℕ) (e : ℕ) (bit : Bool) → bit ≡ false → OrsBit words words e bit
nothing_ored words e bit none = record {
  count = refl;
  bits = λ k. sym (ap (λ b. bit_of words k || (b && eqb k e)) none ∙ or-false (bit_of words k));
}

-- the planes of the LRPD test
by_two : (two writes was seen : Bool) → seen ≡ was → (two || (writes && seen)) ≡ ((two || false) || (was && writes))
by_two two writes was seen same =
    (λ i. sym (or-false two) i || (writes && same i)) ∙ ap (λ b. (two || false) || b) (and_comm writes was)

-- the numbers of the flow test
pub lesser_none : (o : Option ℕ) → lesser o None ≡ o
lesser_none None = refl
lesser_none (Some n) = refl

first_here : (writes : Bool) (first : Option ℕ) (old new index : ℕ) → old ≡ first_number first → index < 4294967295
    →
    new ≡ (if writes then min old index else old) → new ≡ first_number (lesser first (if writes then Some index
    else None))
first_here true None old new index was small is = let e : min old index ≡ index = omega arith in is ∙ e
first_here true (Some first) old new index was small is = is ∙ ap (λ n. min n index) was
first_here false first old new index was small is = is ∙ was ∙ ap first_number (sym (lesser_none first))

last_here : (reads : Bool) (last old new index : ℕ) → old ≡ last →
    new ≡ (if reads then max old (index + 1) else old) → new ≡ max last (if reads then index + 1 else 0)
last_here true last old new index was is = is ∙ ap (λ n. max n (index + 1)) was
last_here false last old new index was is = is ∙ was ∙ sym (max-zero last)

-- what a test needs, at the element and at others
tested_here : (old new : Tested) (e index : ℕ) (flags : Flags) (marks : Marks) → index < 4294967295
    → TestedFolds old new e flags index →
    TestedStandAt old e marks → TestedStandAt new e (merged marks (marks_of_one index flags))
tested_here (ByLrpd old) (ByLrpd new) e index flags marks small folds stand = record {
  written = ored_here _ _ e _ _ folds.written stand.written;
  written_by_two = ored_here _ _ e _ _ folds.written_by_two stand.written_by_two
      ∙ by_two marks.written_by_two flags.wrote marks.written (bit_of old.written.items e) stand.written;
  read_only = ored_here _ _ e _ _ folds.read_only stand.read_only;
  read_and_written = ored_here _ _ e _ _ folds.read_and_written stand.read_and_written;
}
tested_here (ByFlow old) (ByFlow new) e index flags marks small folds stand = record {
  first = first_here flags.wrote marks.first _ _ index stand.first small folds.first.here;
  last = last_here flags.looked marks.last _ _ index stand.last folds.last.here;
}
tested_here _ _ e index flags marks small folds stand = absurd folds

tested_there : (old new : Tested) (e k index : ℕ) (flags : Flags) (marks : Marks) → k ≢ e
    → TestedFolds old new e flags index →
    TestedStandAt old k marks → TestedStandAt new k marks
tested_there (ByLrpd old) (ByLrpd new) e k index flags marks other folds stand = record {
  written = ored_there _ _ e _ folds.written k other ∙ stand.written;
  written_by_two = ored_there _ _ e _ folds.written_by_two k other ∙ stand.written_by_two;
  read_only = ored_there _ _ e _ folds.read_only k other ∙ stand.read_only;
  read_and_written = ored_there _ _ e _ folds.read_and_written k other ∙ stand.read_and_written;
}
tested_there (ByFlow old) (ByFlow new) e k index flags marks other folds stand = record {
  first = folds.first.others k other ∙ stand.first;
  last = folds.last.others k other ∙ stand.last;
}
tested_there _ _ e k index flags marks other folds stand = absurd folds

tested_whole : (elements : ℕ) (old new : Tested) (e index : ℕ) (flags : Flags) → TestedFolds old new e flags index
    → e < elements →
    AreTested elements old → AreTested elements new
tested_whole elements (ByLrpd old) (ByLrpd new) e index flags folds within are = record {
  written = ored_plane elements _ _ e _ folds.written within are.written;
  written_by_two = ored_plane elements _ _ e _ folds.written_by_two within are.written_by_two;
  read_only = ored_plane elements _ _ e _ folds.read_only within are.read_only;
  read_and_written = ored_plane elements _ _ e _ folds.read_and_written within are.read_and_written;
}
tested_whole elements (ByFlow old) (ByFlow new) e index flags folds within are = record {
  first = folds.first.count ∙ are.first;
  last = folds.last.count ∙ are.last;
}
tested_whole elements _ _ e index flags folds within are = absurd folds

tested_test : (old new : Tested) (e index : ℕ) (flags : Flags) → TestedFolds old new e flags index
    → test_of new ≡ test_of old
tested_test (ByLrpd old) (ByLrpd new) e index flags folds = refl
tested_test (ByFlow old) (ByFlow new) e index flags folds = refl
tested_test _ _ e index flags folds = absurd folds

-- the planes of operators
operator_ored : (old new : OperatorPlanes) (e : ℕ) (flags : Flags) → OperatorsFold old new e flags → (op : Op) →
    OrsBit (plane_by old op) (plane_by new op) e (flags.by op)
operator_ored old new e flags folds Add = folds.add
operator_ored old new e flags folds Or = folds.or
operator_ored old new e flags folds And = folds.and
operator_ored old new e flags folds Xor = folds.xor
operator_ored old new e flags folds AddH = folds.addh

pub each_plane : (P : List ℕ → Type 0) (planes : OperatorPlanes) → ((op : Op) → P (plane_by planes op))
    → EachPlane P planes
each_plane P planes all = record { add = all Add; or = all Or; and = all And; xor = all Xor; addh = all AddH }

-- all planes, where each took its part of the flags
pub record TakesPart (old new : Planes) (e index : ℕ) (flags : Flags) : Type 0 where
  pub elements : new.elements ≡ old.elements
  pub plain : OrsBit old.plain.items new.plain.items e flags.plain
  pub operators : OperatorsFold old.operators new.operators e flags
  pub tested : TestedFolds old.tested new.tested e flags index

pub parts_fold : (old new : Planes) (e index : ℕ) (flags : Flags) → ArePlanes old → e < old.elements
    → index < 4294967295 →
    TakesPart old new e index flags → Folds old new e index flags
parts_fold old new e index flags are within small part =
    let ored : (op : Op) → OrsBit (plane_by old.operators op) (plane_by new.operators op) e (flags.by op) =
    operator_ored old.operators new.operators e flags part.operators in
    record {
      shape = record {
        whole = rw part.elements (record {
          plain = ored_plane old.elements _ _ e _ part.plain within are.plain;
          by = λ op. ored_plane old.elements _ _ e _ (ored op) within (are.by op);
          tested = tested_whole old.elements _ _ e index flags part.tested within are.tested;
        });
        elements = part.elements;
        test = tested_test _ _ e index flags part.tested;
      };
      here = λ marks stand. record {
        plain = ored_here _ _ e _ _ part.plain stand.plain;
        by = λ op. ored_here _ _ e _ _ (ored op) (stand.by op);
        tested = tested_here _ _ e index flags marks small part.tested stand.tested;
      };
      others = λ k other marks stand. record {
        plain = ored_there _ _ e _ part.plain k other ∙ stand.plain;
        by = λ op. ored_there _ _ e _ (ored op) k other ∙ stand.by op;
        tested = tested_there _ _ e k index flags marks other part.tested stand.tested;
      };
    }

-- planes of no iteration
no_bits : (words e : ℕ) → bit_of (replicate words 0) e ≡ false
no_bits words e =
    elim (cases_lt (e / 64) words) [
      | inl within ↦ ap (λ w. eqb (bit_at w (e % 64)) 1) (get_or-replicate words (e / 64) 0 0 within)
          ∙ ap (λ b. eqb b 1) (bit_at-zero (e % 64))
      | inr past ↦
          ap (λ w. eqb (bit_at w (e % 64)) 1) (get_or_past (replicate words 0) (e / 64) 0
          (omega (arith, length-replicate {A = ℕ} words 0)))
          ∙ ap (λ b. eqb b 1) (bit_at-zero (e % 64))
    ]

empty_plane : (elements : ℕ) (words : List ℕ) → words ≡ replicate (words_for elements) 0 → IsBitPlane elements words
empty_plane elements words is = record {
  count = ap length is ∙ length-replicate (words_for elements) 0;
  past = λ e past. ap (λ (l : List ℕ). bit_of l e) is ∙ no_bits (words_for elements) e;
}

pub nothing_ended : (planes : Planes) → planes.plain.items ≡ replicate (words_for planes.elements) 0 →
    ((op : Op) → plane_by planes.operators op ≡ replicate (words_for planes.elements) 0)
    → AreTested planes.elements planes.tested →
    ((e : ℕ) → e < planes.elements → TestedStandAt planes.tested e no_marks) → StandFor planes no_visits
nothing_ended planes plain by whole none = record {
  whole = record {
    plain = empty_plane planes.elements _ plain;
    by = λ op. empty_plane planes.elements _ (by op);
    tested = whole;
  };
  marks = λ e h. record {
    plain = ap (λ (l : List ℕ). bit_of l e) plain ∙ no_bits (words_for planes.elements) e;
    by = λ op. ap (λ (l : List ℕ). bit_of l e) (by op) ∙ no_bits (words_for planes.elements) e;
    tested = none e h;
  };
}
