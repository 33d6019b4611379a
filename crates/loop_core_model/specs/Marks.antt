-- What has to be kept of a set of iterations at one element, so that its conflict is known by either test.
use Rattle.std.specs.Prelude.{ℕ, ◌+◌, ◌-◌, Bool, false, not, ◌&&◌, ◌||◌, ◌==◌, nat_lt, max, if◌then◌else◌, List, []}
use Rattle.std.specs.{Prelude.{◌∷◌, map, Option, Some, None}, List.{list_any, count_by}}
use Rattle.array_maps.specs.{declared.access.Op.{Op}, Accesses.{Action, operators}}
use Rattle.loop_core_model.specs.{declared.loop_test.Test.{Test, TheVariants.{Lrpd, Flow}}, LeastBreak.{lesser}}
use Rattle.loop_core_model.specs.{Actions.{writes, exposed, reduces_by}, Flags.{is_plain, Flags}}

-- an iteration at one element: its index in the loop, and its actions there in order. A set of iterations is a list of
-- them in any order, no two of one index.
pub record Visit : Type 0 where
  pub index : ℕ
  pub actions : List Action

-- their actions
abbrev pub actions_of : List Visit → List (List Action)
actions_of visits = map (λ (visit : Visit). visit.actions) visits

-- iterations by rising index, from a first index on
abbrev pub numbered : ℕ → List (List Action) → List Visit
numbered index [] = []
numbered index (actions ∷ rest) = record { index = index; actions = actions } ∷ numbered (index + 1) rest

-- The marks of a set of iterations. For the LRPD test: written, some iteration writes the element; written_by_two, two
-- different ones do; read_only, one has an exposed read of it and doesn't write it; read_and_written, one has an
-- exposed read of it and writes it. For the flow test: first, the least index that writes it; last, one more than the
-- greatest with an exposed read of it, or 0. For both: plain, some iteration makes a plain access of it; by, one
-- reduces it by this operator. (The planes are named w, m, r, np, first, last, nx and by their operators.)
pub record Marks : Type 0 where
  pub written : Bool
  pub written_by_two : Bool
  pub read_only : Bool
  pub read_and_written : Bool
  pub first : Option ℕ
  pub last : ℕ
  pub plain : Bool
  pub by : Op → Bool

-- two different iterations write the element
abbrev pub two_write : List (List Action) → Bool
two_write [] = false
two_write (first ∷ rest) = (writes first && list_any writes rest) || two_write rest

-- the least index that writes the element
abbrev pub first_writer : List Visit → Option ℕ
first_writer [] = None
first_writer (visit ∷ rest) = lesser (if writes visit.actions then Some visit.index else None) (first_writer rest)

-- one more than the greatest index with an exposed read of the element; 0 where there is none
abbrev pub last_reader : List Visit → ℕ
last_reader [] = 0
last_reader (visit ∷ rest) = max (if exposed visit.actions then visit.index + 1 else 0) (last_reader rest)

-- the marks of iterations
abbrev pub marks_of : List Visit → Marks
marks_of visits = record {
  written = list_any writes (actions_of visits);
  written_by_two = two_write (actions_of visits);
  read_only = list_any (λ actions. exposed actions && not (writes actions)) (actions_of visits);
  read_and_written = list_any (λ actions. exposed actions && writes actions) (actions_of visits);
  first = first_writer visits;
  last = last_reader visits;
  plain = list_any (λ actions. list_any is_plain actions) (actions_of visits);
  by = λ op. list_any (λ actions. list_any (reduces_by op) actions) (actions_of visits);
}

-- by its marks an element is reduction-only where it has no plain access and reduces by exactly one operator
abbrev pub marked_reduction : Marks → Bool
marked_reduction marks = not marks.plain && (count_by marks.by operators == 1)

-- a first writer comes before a last reader
abbrev pub stands_before : Option ℕ → ℕ → Bool
stands_before None last = false
stands_before (Some first) last = not (last == 0) && nat_lt first (last - 1)

-- the number of a first writer: 4,294,967,295 where there is none
abbrev pub first_number : Option ℕ → ℕ
first_number None = 4294967295
first_number (Some index) = index

-- what the marks tell by either test: a reader and another writer; a writer before a reader
abbrev pub marked_fails : Test → Marks → Bool
marked_fails Lrpd marks = (marks.read_only && marks.written) || (marks.read_and_written && marks.written_by_two)
marked_fails Flow marks = stands_before marks.first marks.last

-- and the element conflicts where it isn't reduction-only too
abbrev pub marked_conflict : Test → Marks → Bool
marked_conflict test marks = not (marked_reduction marks) && marked_fails test marks

-- the marks of no iteration
abbrev pub no_marks : Marks
no_marks = record {
  written = false;
  written_by_two = false;
  read_only = false;
  read_and_written = false;
  first = None;
  last = 0;
  plain = false;
  by = λ op. false;
}

-- the marks of one iteration, by its index and flags
abbrev pub marks_of_one : ℕ → Flags → Marks
marks_of_one index flags = record {
  written = flags.wrote;
  written_by_two = false;
  read_only = flags.looked && not flags.wrote;
  read_and_written = flags.looked && flags.wrote;
  first = if flags.wrote then Some index else None;
  last = if flags.looked then index + 1 else 0;
  plain = flags.plain;
  by = flags.by;
}

-- the marks of two disjoint sets of iterations together: two write where two of one set do, or one of each
abbrev pub merged : Marks → Marks → Marks
merged a b = record {
  written = a.written || b.written;
  written_by_two = (a.written_by_two || b.written_by_two) || (a.written && b.written);
  read_only = a.read_only || b.read_only;
  read_and_written = a.read_and_written || b.read_and_written;
  first = lesser a.first b.first;
  last = max a.last b.last;
  plain = a.plain || b.plain;
  by = λ op. a.by op || b.by op;
}
