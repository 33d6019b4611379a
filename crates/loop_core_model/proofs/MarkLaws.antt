-- What the marks of a set of iterations tell, and how they come about.
use Rattle.std.proofs.Common.{◌≡◌, ℕ, ◌+◌, ◌-◌, ◌≤◌, Bool, true, false, not, ◌&&◌, ◌||◌, ◌⊎◌, inl, inr, List, [], ◌∷◌}
use Rattle.std.{proofs.Common.{◌++◌, Option, Some, None, refl, sym, ◌∙◌, ap, arith}, specs.List.{list_any}}
use Rattle.std.{specs.Prelude.{if◌then◌else◌, ◌==◌, nat_lt, min, max, is_some}, proofs.lemmas.Bool.Decides.{nat_tests}}
use Rattle.std.proofs.Math.Bool.{or_assoc, or_comm, or-false, and-false}
use Rattle.std.proofs.lemmas.List.{map-append, Folds.{list_any-append}}
use Rattle.array_maps.specs.{declared.access.Op.{Op}, Accesses.{Action}}
use Rattle.loop_core_model.specs.{declared.loop_test.Test.{Test, TheVariants.{Lrpd, Flow}}, LeastBreak.{lesser}}
use Rattle.loop_core_model.specs.Actions.{writes, exposed, joined, only_operator}
use Rattle.loop_core_model.specs.{Conflict.{fails_lrpd, fails_flow, fails, conflicts}, Flags.{flags_of}}
use Rattle.loop_core_model.specs.Marks.{Visit, actions_of, numbered, Marks, two_write, first_writer, last_reader}
use Rattle.loop_core_model.specs.Marks.{marks_of, marked_reduction, stands_before, first_number, marked_fails}
use Rattle.loop_core_model.specs.Marks.{marked_conflict, marks_of_one, merged}
use Rattle.loop_core_model.specs.MarkLaw.{MarksTell, FirstIsNumber, MarksMerge}
use Rattle.loop_core_model.proofs.ReductionLaws.{only-kept, any-joined}
use Rattle.loop_core_model.proofs.Least.{lesser_none, lesser_assoc, lesser_comm}

-- marks that agree are the same
pub record MarksAgree (a b : Marks) : Type 0 where
  pub written : a.written ≡ b.written
  pub written_by_two : a.written_by_two ≡ b.written_by_two
  pub read_only : a.read_only ≡ b.read_only
  pub read_and_written : a.read_and_written ≡ b.read_and_written
  pub first : a.first ≡ b.first
  pub last : a.last ≡ b.last
  pub plain : a.plain ≡ b.plain
  pub by : (op : Op) → a.by op ≡ b.by op

same_marks : (a b : Marks) → MarksAgree a b → a ≡ b
same_marks a b h = λ i. record {
  written = h.written i;
  written_by_two = h.written_by_two i;
  read_only = h.read_only i;
  read_and_written = h.read_and_written i;
  first = h.first i;
  last = h.last i;
  plain = h.plain i;
  by = λ op. h.by op i;
}

-- numbering keeps the actions
numbered_actions : (index : ℕ) (its : List (List Action)) → actions_of (numbered index its) ≡ its
numbered_actions index [] = refl
numbered_actions index (it ∷ its) = ap (λ rest. it ∷ rest) (numbered_actions (index + 1) its)

-- the marks of numbered iterations are those of their actions
reduction : (index : ℕ) (its : List (List Action)) → is_some (only_operator (joined its)) ≡ marked_reduction
    (marks_of (numbered index its))
reduction index its = simp (numbered_actions, any-joined) (only-kept (joined its))

-- what is known of the marks for the LRPD test: a mark that needs a writer is one of a written element, an exposed read
-- is by an iteration that writes or by one that doesn't, and the test fails by the marks
pub record ClashFacts (written two read_only read_and_written looked clash : Bool) : Type 0 where
  pub both_write : (read_and_written && written) ≡ read_and_written
  pub two_write : (two && written) ≡ two
  pub looks : looked ≡ (read_only || read_and_written)
  pub clashes : clash ≡ ((read_only && written) || (read_and_written && two))

clash_step : (W E w m r np x f : Bool) → ClashFacts w m r np x f
    → ClashFacts (W || w) ((W && w) || m) ((E && not W) || r) ((E && W) || np) (E || x) ((W && x) || ((E && w) || f))
clash_step W E w m r np x f facts =
    let h = facts.both_write in
    let k = facts.two_write in
    let l = facts.looks in
    let c = facts.clashes in
    record {
      both_write = grind (arith, nat_tests);
      two_write = grind (arith, nat_tests);
      looks = grind (arith, nat_tests);
      clashes = grind (arith, nat_tests);
    }

clash_facts : (its : List (List Action)) → ClashFacts (list_any writes its) (two_write its)
    (list_any (λ actions. exposed actions && not (writes actions)) its)
    (list_any (λ actions. exposed actions && writes actions) its) (list_any exposed its) (fails_lrpd its)
clash_facts [] = record { both_write = refl; two_write = refl; looks = refl; clashes = refl }
clash_facts (it ∷ its) = clash_step (writes it) (exposed it) _ _ _ _ _ _ (clash_facts its)

-- the first writer of iterations from an index on has no lesser index
abbrev pub FromIndex : ℕ → Option ℕ → Type 0
FromIndex index None = Unit {0}
FromIndex index (Some first) = index ≤ first

-- what is known of the marks of iterations from an index on
pub record FlowFacts (index : ℕ) (first : Option ℕ) (last : ℕ) (reads harmed : Bool) : Type 0 where
  pub late_first : FromIndex index first
  pub late_last : (last ≡ 0) ⊎ (index + 1 ≤ last)
  pub reads_is : reads ≡ not (last == 0)
  pub harm_is : harmed ≡ stands_before first last

-- so much the iteration itself adds to the last reader
abbrev pub one_reader : ℕ → Bool → ℕ
one_reader index looked = if looked then index + 1 else 0

late_step : (index : ℕ) (W : Bool) (first : Option ℕ) → FromIndex (index + 1) first
    → FromIndex index (lesser (if W then Some index else None) first)
late_step index true None h = omega arith
late_step index true (Some first) h = omega arith
late_step index false None h = tt
late_step index false (Some first) h = omega arith

last_step : (index : ℕ) (E : Bool) (last : ℕ) → (last ≡ 0) ⊎ (index + 1 + 1 ≤ last) →
    (max (one_reader index E) last ≡ 0) ⊎ (index + 1 ≤ max (one_reader index E) last)
last_step index true last h = inr (omega arith)
last_step index false last (inl h) = inl (omega arith)
last_step index false last (inr h) = inr (omega arith)

reads_step : (index : ℕ) (E : Bool) (last : ℕ) → (E || not (last == 0)) ≡ not (max (one_reader index E) last == 0)
reads_step index true last = grind (arith, nat_tests)
reads_step index false last = grind (arith, nat_tests)

-- where the iteration writes, it comes before all readers that come; its own look changes nothing for the writers
harm_step : (index : ℕ) (W E : Bool) (first : Option ℕ) (last : ℕ) → FromIndex (index + 1) first
    → (last ≡ 0) ⊎ (index + 1 + 1 ≤ last) → ((W && not (last == 0)) || stands_before first last)
    ≡ stands_before (lesser (if W then Some index else None) first) (max (one_reader index E) last)
harm_step index true true None last late later = grind (arith, nat_tests)
harm_step index true false None last late later = grind (arith, nat_tests)
harm_step index true true (Some first) last late later = grind (arith, nat_tests)
harm_step index true false (Some first) last late later = grind (arith, nat_tests)
harm_step index false E None last late later = refl
harm_step index false true (Some first) last late later = grind (arith, nat_tests)
harm_step index false false (Some first) last late later = let e : max 0 last ≡ last = omega arith in rw e refl

flow_facts : (index : ℕ) (its : List (List Action)) →
    FlowFacts index (first_writer (numbered index its)) (last_reader (numbered index its)) (list_any exposed its)
    (fails_flow its)
flow_facts index [] = record { late_first = tt; late_last = inl refl; reads_is = refl; harm_is = refl }
flow_facts index (it ∷ its) =
    let rest = flow_facts (index + 1) its in
    record {
      late_first = late_step index (writes it) _ rest.late_first;
      late_last = last_step index (exposed it) _ rest.late_last;
      reads_is = rw rest.reads_is (reads_step index (exposed it) _);
      harm_is = rw (rest.reads_is, rest.harm_is) (harm_step index (writes it) (exposed it) _ _ rest.late_first
          rest.late_last);
    }

fails_marked : (test : Test) (index : ℕ) (its : List (List Action)) → fails test its ≡ marked_fails test
    (marks_of (numbered index its))
fails_marked Lrpd index its = simp numbered_actions ((clash_facts its).clashes)
fails_marked Flow index its = (flow_facts index its).harm_is

conflict : (test : Test) (index : ℕ) (its : List (List Action)) → conflicts test its ≡ marked_conflict test
    (marks_of (numbered index its))
conflict test index its =
    ap (λ b. not b && fails test its) (reduction index its)
    ∙ ap (λ b. not (marked_reduction (marks_of (numbered index its))) && b) (fails_marked test index its)

pub marks_tell : MarksTell
marks_tell = record { reduction = reduction; conflict = conflict }

-- numbers for first writers
first_before : (first : Option ℕ) (last : ℕ) → last ≤ 4294967296 → stands_before first last ≡ (not (last == 0)
    && nat_lt (first_number first) (last - 1))
first_before None last small = grind (arith, nat_tests)
first_before (Some index) last small = refl

first_lesser : (a b : Option ℕ) → first_number a ≤ 4294967295 → first_number b ≤ 4294967295 → first_number (lesser a b)
    ≡ min (first_number a) (first_number b)
first_lesser None None h k = refl
first_lesser None (Some b) h k = omega arith
first_lesser (Some a) None h k = omega arith
first_lesser (Some a) (Some b) h k = refl

pub first_is_number : FirstIsNumber
first_is_number = record { before = first_before; lesser_is = first_lesser }

-- merging
one : (visit : Visit) → marks_of (visit ∷ []) ≡ marks_of_one visit.index (flags_of visit.actions)
one visit = same_marks _ _ (record {
  written = or-false (writes visit.actions);
  written_by_two = simp (and-false);
  read_only = or-false _;
  read_and_written = or-false _;
  first = lesser_none (if writes visit.actions then Some visit.index else None);
  last = (let e : max (one_reader visit.index (exposed visit.actions)) 0 ≡ one_reader visit.index
      (exposed visit.actions) = omega arith in e);
  plain = or-false _;
  by = λ op. or-false _;
})

two_write-append : (xs ys : List (List Action)) → two_write (xs ++ ys) ≡ ((two_write xs || two_write ys)
    || (list_any writes xs && list_any writes ys))
two_write-append [] ys = go (two_write ys) (list_any writes ys)
  where
    go : (m w : Bool) → m ≡ ((false || m) || (false && w))
    go m w = grind (arith, nat_tests)
two_write-append (x ∷ xs) ys =
    rw (list_any-append writes xs ys, two_write-append xs ys) (go (writes x) (list_any writes xs) (list_any writes ys)
    (two_write xs) (two_write ys))
  where
    go : (W w1 w2 m1 m2 : Bool) → ((W && (w1 || w2)) || ((m1 || m2) || (w1 && w2))) ≡ ((((W && w1) || m1) || m2)
        || ((W || w1) && w2))
    go W w1 w2 m1 m2 = grind (arith, nat_tests)

first-append : (xs ys : List Visit) → first_writer (xs ++ ys) ≡ lesser (first_writer xs) (first_writer ys)
first-append [] ys = refl
first-append (x ∷ xs) ys =
    ap (lesser (if writes x.actions then Some x.index else None)) (first-append xs ys)
    ∙ sym (lesser_assoc (if writes x.actions then Some x.index else None) (first_writer xs) (first_writer ys))

last-append : (xs ys : List Visit) → last_reader (xs ++ ys) ≡ max (last_reader xs) (last_reader ys)
last-append [] ys = let e : last_reader ys ≡ max 0 (last_reader ys) = omega arith in e
last-append (x ∷ xs) ys =
    let own : ℕ = one_reader x.index (exposed x.actions) in
    let regrouped : max own (max (last_reader xs) (last_reader ys)) ≡ max (max own (last_reader xs)) (last_reader ys) =
    omega arith in
    ap (max own) (last-append xs ys) ∙ regrouped

both : (xs ys : List Visit) → marks_of (xs ++ ys) ≡ merged (marks_of xs) (marks_of ys)
both xs ys = same_marks _ _ (record {
  written = simp (map-append, list_any-append);
  written_by_two = simp (map-append, two_write-append);
  read_only = simp (map-append, list_any-append);
  read_and_written = simp (map-append, list_any-append);
  first = first-append xs ys;
  last = last-append xs ys;
  plain = simp (map-append, list_any-append);
  by = λ op. simp (map-append, list_any-append);
})

either_first : (a b : Marks) → merged a b ≡ merged b a
either_first a b = same_marks _ _ (record {
  written = or_comm a.written b.written;
  written_by_two = grind (arith, nat_tests);
  read_only = or_comm a.read_only b.read_only;
  read_and_written = or_comm a.read_and_written b.read_and_written;
  first = lesser_comm a.first b.first;
  last = omega arith;
  plain = or_comm a.plain b.plain;
  by = λ op. or_comm (a.by op) (b.by op);
})

any_grouping : (a b c : Marks) → merged (merged a b) c ≡ merged a (merged b c)
any_grouping a b c = same_marks _ _ (record {
  written = or_assoc a.written b.written c.written;
  written_by_two = grind (arith, nat_tests);
  read_only = or_assoc a.read_only b.read_only c.read_only;
  read_and_written = or_assoc a.read_and_written b.read_and_written c.read_and_written;
  first = lesser_assoc a.first b.first c.first;
  last = omega arith;
  plain = or_assoc a.plain b.plain c.plain;
  by = λ op. or_assoc (a.by op) (b.by op) (c.by op);
})

pub marks_merge : MarksMerge
marks_merge = record { none = refl; one = one; both = both; either_first = either_first; any_grouping = any_grouping }
