-- Marks are taken away page by page.
use Rattle.std.proofs.Common.{◌≡◌, ◌≢◌, ℕ, ◌↔◌, ◌+◌, ◌/◌, ◌%◌, ◌<◌, ◌≤◌, Bool, true, false, not, ◌||◌, eqb}
use Rattle.std.proofs.Common.{List, [], ◌∷◌, length, set, get_or, inl, inr, refl, sym, ◌∙◌, ap, subst, arith}
use Rattle.std.{proofs.Common.{length-set, get_or-set_same, get_or-set_other}, specs.{Int.{bit_at}, List.{list_any}}}
use Rattle.std.specs.{Prelude.{slice_index, bit_or}}
use Rattle.std.proofs.lemmas.{Bool.{cases_eq, true≢false, Decides.{nat_tests}}}
use Rattle.std.proofs.{Math.Nat.{zero-max}, lemmas.Nat.{le_or_l, le_or_r, Bits.{bit_at-zero}}}
use Rattle.array_maps.specs.declared.access.Op.{Op, TheVariants.{Add, Or, And, Xor, AddH}}
use Rattle.array_maps.specs.Accesses.{Action, Read, Write, ReadWrite, Reduce}
use Rattle.loop_core_model.specs.{Actions.{is_same, reduces_by}, Flags.{is_plain}, Planes.{bit_of}}
use Rattle.loop_core_model.proofs.OneElement.{is_same-refl}
use Rattle.loop_core_model.specs.Marks.{Visit, Marks, no_marks, last_reader, marks_of}
use Rattle.shadow_marks.specs.declared.planes.Tested.{Tested, TheVariants.{Lrpd as ByLrpd, Flow as ByFlow}}
use Rattle.shadow_marks.specs.{declared.planes.Planes.{Planes}, Standing.{StandAt, StandFor, IsUnmarkedPage, no_visits}}
use Rattle.shadow_marks.specs.Standing.{words_for, IsBitPlane, plane_by, AreTested, ArePlanes, test_of, TestedStandAt}
use Rattle.shadow_marks.specs.{Ending.{KeepsShape}}
use Rattle.shadow_marks.specs.Clearing.{ClearsBits, OperatorsClear, TestedClears, ClearsPage}

-- a word that is zero has no bit set
pub zero_bits : (words : List ℕ) (page e : ℕ) → e / 64 ≡ page → slice_index words page ≡ 0 → bit_of words e ≡ false
zero_bits words page e here none =
    ap (λ (k : ℕ). eqb (bit_at (get_or words k 0) (e % 64)) 1) here
    ∙ ap (λ (word : ℕ). eqb (bit_at word (e % 64)) 1) none ∙ ap (λ (b : ℕ). eqb b 1) (bit_at-zero (e % 64))

-- a page's word is set to zero
pub bits_cleared : (words : List ℕ) (page : ℕ) → page < length words → ClearsBits words (set words page 0) page
bits_cleared words page within = record {
  count = length-set words page 0;
  here = λ e is. zero_bits (set words page 0) page e is (get_or-set_same words page 0 0 within);
  others = λ e other. ap (λ (word : ℕ). eqb (bit_at word (e % 64)) 1) (get_or-set_other words page (e / 64) 0 0 other);
}

-- a plane still has no bit past its end
cleared_bit : (old new : List ℕ) (page e : ℕ) → ClearsBits old new page → bit_of old e ≡ false → bit_of new e ≡ false
cleared_bit old new page e clears none = elim (cases_eq (e / 64) page) [
  | inl here ↦ clears.here e here
  | inr other ↦ clears.others e other ∙ none
]

cleared_plane : (elements : ℕ) (old new : List ℕ) (page : ℕ) → ClearsBits old new page → IsBitPlane elements old
    → IsBitPlane elements new
cleared_plane elements old new page clears plane = record {
  count = clears.count ∙ plane.count;
  past = λ e past. cleared_bit old new page e clears (plane.past e past);
}

-- what a test needs
tested_whole : (elements : ℕ) (old new : Tested) (page : ℕ) → TestedClears old new page → AreTested elements old
    → AreTested elements new
tested_whole elements (ByLrpd old) (ByLrpd new) page clears are = record {
  written = cleared_plane elements _ _ page clears.written are.written;
  written_by_two = cleared_plane elements _ _ page clears.written_by_two are.written_by_two;
  read_only = cleared_plane elements _ _ page clears.read_only are.read_only;
  read_and_written = cleared_plane elements _ _ page clears.read_and_written are.read_and_written;
}
tested_whole elements (ByFlow old) (ByFlow new) page clears are = record {
  first = clears.first.count ∙ are.first;
  last = clears.last.count ∙ are.last;
}
tested_whole elements _ _ page clears are = absurd clears

tested_test : (old new : Tested) (page : ℕ) → TestedClears old new page → test_of new ≡ test_of old
tested_test (ByLrpd old) (ByLrpd new) page clears = refl
tested_test (ByFlow old) (ByFlow new) page clears = refl
tested_test _ _ page clears = absurd clears

tested_here : (elements : ℕ) (old new : Tested) (page e : ℕ) → e < elements → e / 64 ≡ page → AreTested elements old
    → TestedClears old new page → TestedStandAt new e no_marks
tested_here elements (ByLrpd old) (ByLrpd new) page e below is are clears = record {
  written = clears.written.here e is;
  written_by_two = clears.written_by_two.here e is;
  read_only = clears.read_only.here e is;
  read_and_written = clears.read_and_written.here e is;
}
tested_here elements (ByFlow old) (ByFlow new) page e below is are clears = record {
  first = clears.first.here e (let long = are.first in omega (arith, below, long)) is;
  last = clears.last.here e (let long = are.last in omega (arith, below, long)) is;
}
tested_here elements _ _ page e below is are clears = absurd clears

tested_there : (old new : Tested) (page e : ℕ) (marks : Marks) → e / 64 ≢ page → TestedClears old new page
    → TestedStandAt old e marks → TestedStandAt new e marks
tested_there (ByLrpd old) (ByLrpd new) page e marks other clears stand = record {
  written = clears.written.others e other ∙ stand.written;
  written_by_two = clears.written_by_two.others e other ∙ stand.written_by_two;
  read_only = clears.read_only.others e other ∙ stand.read_only;
  read_and_written = clears.read_and_written.others e other ∙ stand.read_and_written;
}
tested_there (ByFlow old) (ByFlow new) page e marks other clears stand = record {
  first = clears.first.others e other ∙ stand.first;
  last = clears.last.others e other ∙ stand.last;
}
tested_there _ _ page e marks other clears stand = absurd clears

-- all planes, each cleared in its way
pub record EachClears (old new : Planes) (page : ℕ) : Type 0 where
  pub elements : new.elements ≡ old.elements
  pub plain : ClearsBits old.plain.items new.plain.items page
  pub operators : OperatorsClear old.operators new.operators page
  pub tested : TestedClears old.tested new.tested page

pub page_cleared : (old new : Planes) (page : ℕ) → ArePlanes old → EachClears old new page → ClearsPage old new page
page_cleared old new page are each = record {
  shape = record {
    whole = rw each.elements (record {
      plain = cleared_plane old.elements _ _ page each.plain are.plain;
      by = λ op. cleared_plane old.elements _ _ page (each.operators op) (are.by op);
      tested = tested_whole old.elements _ _ page each.tested are.tested;
    });
    elements = each.elements;
    test = tested_test _ _ page each.tested;
  };
  here = λ e below is. record {
    plain = each.plain.here e is;
    by = λ op. (each.operators op).here e is;
    tested = tested_here old.elements _ _ page e below is are.tested each.tested;
  };
  others = λ e other marks stand. record {
    plain = each.plain.others e other ∙ stand.plain;
    by = λ op. (each.operators op).others e other ∙ stand.by op;
    tested = tested_there _ _ page e marks other each.tested stand.tested;
  };
}

-- words of which none has a bit
none_of : (x : ℕ) → not (eqb x 0) ≡ false → x ≡ 0
none_of x h = grind (arith, nat_tests)

record BothZero (a b : ℕ) : Type 0 where
  pub left : a ≡ 0
  pub right : b ≡ 0

both_zero : (a b : ℕ) → bit_or a b ≡ 0 → BothZero a b
both_zero a b none =
    let left = le_or_l a b in
    let right = le_or_r a b in
    record { left = omega (arith, left, none); right = omega (arith, right, none) }

-- and where none of a page's words has a bit, their union has none
no_bit : (a b : ℕ) → a ≡ 0 → b ≡ 0 → bit_or a b ≡ 0
no_bit a b left right = ap (λ n. bit_or n b) left ∙ ap (λ n. bit_or 0 n) right

pub unmarked_words : (planes : Planes) (page plain add or and xor addh : ℕ) → plain ≡ slice_index planes.plain.items page
    → add ≡ slice_index planes.operators.add.items page → or ≡ slice_index planes.operators.or.items page
    → and ≡ slice_index planes.operators.and.items page → xor ≡ slice_index planes.operators.xor.items page
    → addh ≡ slice_index planes.operators.addh.items page →
    (not (eqb (bit_or (bit_or (bit_or (bit_or (bit_or plain add) or) and) xor) addh) 0) ≡ false)
    ↔ IsUnmarkedPage planes page
unmarked_words planes page plain add or and xor addh is_plain is_add is_or is_and is_xor is_addh = (
  λ unset.
      let five = both_zero _ addh (none_of _ unset) in
      let four = both_zero _ xor five.left in
      let three = both_zero _ and four.left in
      let two = both_zero _ or three.left in
      let one = both_zero plain add two.left in
      record {
        plain = sym is_plain ∙ one.left;
        by = elim [
          | Add ↦ sym is_add ∙ one.right
          | Or ↦ sym is_or ∙ two.right
          | And ↦ sym is_and ∙ three.right
          | Xor ↦ sym is_xor ∙ four.right
          | AddH ↦ sym is_addh ∙ five.right
        ];
      },
  λ none.
      ap (λ n. not (eqb n 0)) (no_bit _ _ (no_bit _ _ (no_bit _ _ (no_bit _ _ (no_bit _ _ (is_plain ∙ none.plain)
      (is_add ∙ none.by Add)) (is_or ∙ none.by Or)) (is_and ∙ none.by And)) (is_xor ∙ none.by Xor))
      (is_addh ∙ none.by AddH)),
)

-- each action is plain or a reduce, so iterations of which neither is marked did nothing
pub never : (b : Bool) → b ≡ true → b ≡ false → ⊥
never b t f = true≢false (sym t ∙ f)

left_false : (a b : Bool) → (a || b) ≡ false → a ≡ false
left_false true b h = h
left_false false b h = refl

right_false : (a b : Bool) → (a || b) ≡ false → b ≡ false
right_false true b h = absurd (never true refl h)
right_false false b h = h

no_action : (actions : List Action) → list_any is_plain actions ≡ false
    → ((op : Op) → list_any (reduces_by op) actions ≡ false) → actions ≡ []
no_action [] plain by = refl
no_action (Read saw ∷ rest) plain by = absurd (never true refl plain)
no_action (Write left ∷ rest) plain by = absurd (never true refl plain)
no_action (ReadWrite saw left ∷ rest) plain by = absurd (never true refl plain)
no_action (Reduce op operand ∷ rest) plain by =
    absurd (never (is_same op op) (is_same-refl op) (left_false (is_same op op) (list_any (reduces_by op) rest) (by op)))

idle_visit : (index : ℕ) (actions : List Action) (visits : List Visit) → actions ≡ []
    → marks_of (record { index = index; actions = actions } ∷ visits) ≡ marks_of visits
idle_visit index actions visits none =
    ap (λ (done : List Action). marks_of (record { index = index; actions = done } ∷ visits)) none
    ∙ (λ i. record {
      written = (marks_of visits).written;
      written_by_two = (marks_of visits).written_by_two;
      read_only = (marks_of visits).read_only;
      read_and_written = (marks_of visits).read_and_written;
      first = (marks_of visits).first;
      last = zero-max (last_reader visits) i;
      plain = (marks_of visits).plain;
      by = (marks_of visits).by;
    })

no_visit : (visits : List Visit) → (marks_of visits).plain ≡ false → ((op : Op) → (marks_of visits).by op ≡ false)
    → marks_of visits ≡ no_marks
no_visit [] plain by = refl
no_visit (v ∷ visits) plain by =
    let none : v.actions ≡ [] = no_action v.actions
    (left_false (list_any is_plain v.actions) (marks_of visits).plain plain)
    (λ op. left_false (list_any (reduces_by op) v.actions) ((marks_of visits).by op) (by op)) in
    idle_visit v.index v.actions visits none
    ∙ no_visit visits (right_false (list_any is_plain v.actions) (marks_of visits).plain plain)
    (λ op. right_false (list_any (reduces_by op) v.actions) ((marks_of visits).by op) (by op))

pub unmarked_stand : (planes : Planes) (page e : ℕ) (visits : List Visit) → IsUnmarkedPage planes page → e / 64 ≡ page
    → StandAt planes e (marks_of visits) → StandAt planes e no_marks
unmarked_stand planes page e visits none here stand =
    subst (λ (marks : Marks). StandAt planes e marks)
    (no_visit visits (sym stand.plain ∙ zero_bits planes.plain.items page e here none.plain)
    (λ op. sym (stand.by op) ∙ zero_bits (plane_by planes.operators op) page e here (none.by op)))
    stand

-- planes of which the pages up to one are cleared, and the others are as they were
pub record ClearedSoFar (old now : Planes) (page : ℕ) : Type 0 where
  pub shape : KeepsShape old now
  pub done : (e : ℕ) (visits : List Visit) → e < old.elements → e / 64 < page → StandAt old e (marks_of visits)
      → StandAt now e no_marks
  pub rest : (e : ℕ) (marks : Marks) → page ≤ e / 64 → StandAt old e marks → StandAt now e marks

pub none_cleared : (old : Planes) → ArePlanes old → ClearedSoFar old old 0
none_cleared old are = record {
  shape = record { whole = are; elements = refl; test = refl };
  done = λ e visits below early stand. absurd (omega (arith, early));
  rest = λ e marks late stand. stand;
}

pub one_cleared : (old now next : Planes) (page : ℕ) → ClearsPage now next page → ClearedSoFar old now page
    → ClearedSoFar old next (page + 1)
one_cleared old now next page clears so_far = record {
  shape = record {
    whole = clears.shape.whole;
    elements = clears.shape.elements ∙ so_far.shape.elements;
    test = clears.shape.test ∙ so_far.shape.test;
  };
  done = λ e visits below early stand. elim (cases_eq (e / 64) page) [
    | inl here ↦ clears.here e (let same = so_far.shape.elements in omega (arith, below, same)) here
    | inr other ↦
        clears.others e other no_marks (so_far.done e visits below (omega (arith, early, other)) stand)
  ];
  rest = λ e marks late stand.
      clears.others e (λ same. omega (arith, late, same)) marks (so_far.rest e marks (omega (arith, late)) stand);
}

pub one_unmarked : (old now : Planes) (page : ℕ) → IsUnmarkedPage now page → ClearedSoFar old now page
    → ClearedSoFar old now (page + 1)
one_unmarked old now page none so_far = record {
  shape = so_far.shape;
  done = λ e visits below early stand. elim (cases_eq (e / 64) page) [
    | inl here ↦
        unmarked_stand now page e visits none here (so_far.rest e (marks_of visits) (omega (arith, here)) stand)
    | inr other ↦ so_far.done e visits below (omega (arith, early, other)) stand
  ];
  rest = λ e marks late stand. so_far.rest e marks (omega (arith, late)) stand;
}

pub all_cleared : (old now : Planes) (page : ℕ) → words_for old.elements ≤ page → ClearedSoFar old now page
    → (visits : ℕ → List Visit) → StandFor old visits → StandFor now no_visits
all_cleared old now page all so_far visits stand = record {
  whole = so_far.shape.whole;
  marks = λ e below.
      let same = so_far.shape.elements in
      let under : e < old.elements = omega (arith, below, same) in
      so_far.done e (visits e) under (omega (arith, under, all)) (stand.marks e under);
}
