-- Worked blocks: first writers and last readers of loops that are run as one block, marks of halves, and what is kept
-- of blocks. Each is worked out by hand.
use Rattle.std.specs.{Prelude.{◌≡◌, ℕ, ◌&&◌, Bool, List, [], ◌∷◌, map, Some, None}, List.{filter, range_with_len}}
use Rattle.array_maps.specs.declared.access.Op.TheVariants.{Add, And, AddH}
use Rattle.bpf_insn_types.specs.declared.insn.Insn.{Insn}
use Rattle.bpf_step_model.specs.{Run.{BoundedResult, Ended, mapped}, Iteration.{Iterated}}
use Rattle.bpf_step_model.specs.LoopRows.{looping, worked_call, add_index, shift_right, shift_left, last_writer}
use Rattle.bpf_step_model.specs.LoopRows.{mixed_operators, and_operands}
use Rattle.loop_core_model.specs.{Conflict.{at_element}, LeastBreak.{accesses_of_each}, Block.{block_run}}
use Rattle.loop_core_model.specs.{VerdictRows.{add_halves, add_half_and_whole, store_half}, Kept.{Kept, kept}}
use Rattle.loop_core_model.specs.Marks.{Marks, marks_of, numbered}

-- the loop of n iterations of a callback over n elements, and its block of an interval
abbrev pub block_of : (elements n : ℕ) → List Insn → (before : List ℕ) (first past : ℕ) → BoundedResult (List Iterated)
block_of elements n callback before first past = block_run (looping (elements ∷ []) n callback) 20 (worked_call n)
    before first past

-- the marks of an element
abbrev pub marks_at : ℕ → ℕ → List Iterated → Marks
marks_at first e ran = marks_of (numbered first (at_element e (accesses_of_each ran)))

-- the elements of one map that have a mark
abbrev pub marked : (elements first : ℕ) → (Marks → Bool) → BoundedResult (List Iterated) → BoundedResult (List ℕ)
marked elements first mark ran = mapped (λ its. filter (λ e. mark (marks_at first e its)) (range_with_len 0 elements))
    ran

-- something of the marks of each element
abbrev pub of_each : {A : Type 0} → (elements first : ℕ) → (Marks → A) → BoundedResult (List Iterated)
    → BoundedResult (List A)
of_each elements first pick ran = mapped (λ its. map (λ e. pick (marks_at first e its)) (range_with_len 0 elements)) ran

-- what is kept of a block at element 0
abbrev pub kept_at_0 : BoundedResult (List Iterated) → ℕ → BoundedResult Kept
kept_at_0 ran word = mapped (λ its. kept (at_element 0 (accesses_of_each its)) word) ran

-- each element gets the one before it: elements 1 to 4 are written, 0 to 3 read
abbrev pub right : BoundedResult (List Iterated)
right = block_of 5 4 shift_right (9 ∷ 0 ∷ 0 ∷ 0 ∷ 0 ∷ []) 0 4

pub record RightRows : Type 0 where
  pub first : of_each 5 0 (λ m. m.first) right ≡ Ended (None ∷ Some 0 ∷ Some 1 ∷ Some 2 ∷ Some 3 ∷ [])
  pub last : of_each 5 0 (λ m. m.last) right ≡ Ended (1 ∷ 2 ∷ 3 ∷ 4 ∷ 0 ∷ [])

-- each element gets the one after it: each is read before it is written
abbrev pub left : BoundedResult (List Iterated)
left = block_of 5 4 shift_left (1 ∷ 2 ∷ 3 ∷ 4 ∷ 5 ∷ []) 0 4

pub record ShiftLeftRows : Type 0 where
  pub first : of_each 5 0 (λ m. m.first) left ≡ Ended (Some 0 ∷ Some 1 ∷ Some 2 ∷ Some 3 ∷ None ∷ [])
  pub last : of_each 5 0 (λ m. m.last) left ≡ Ended (0 ∷ 1 ∷ 2 ∷ 3 ∷ 4 ∷ [])

-- four iterations that add or or to one element, as one block, and its later half
abbrev pub mixed : BoundedResult (List Iterated)
mixed = block_of 1 4 mixed_operators (1 ∷ []) 0 4

pub record MixedRows : Type 0 where
  pub ends : of_each 1 0 (λ m. m.first) mixed ≡ Ended (Some 0 ∷ [])
  pub later : of_each 1 2 (λ m. m.first) (block_of 1 4 mixed_operators (1 ∷ []) 2 4) ≡ Ended (Some 2 ∷ [])
  pub last : of_each 1 2 (λ m. m.last) (block_of 1 4 mixed_operators (1 ∷ []) 2 4) ≡ Ended (4 ∷ [])
  pub kept : kept_at_0 mixed 1 ≡ Ended (record { last_value = Some 9; partial = None })

-- five iterations that write an element before they read it: the last of all wins
abbrev pub writers : BoundedResult (List Iterated)
writers = block_of 1 5 last_writer (3 ∷ []) 0 5

pub record WriterRows : Type 0 where
  pub readers : of_each 1 0 (λ m. m.last) writers ≡ Ended (0 ∷ [])
  pub kept : kept_at_0 writers 3 ≡ Ended (record { last_value = Some 4; partial = None })
  pub empty : kept_at_0 (block_of 1 5 last_writer (3 ∷ []) 2 2) 3 ≡ Ended (record { last_value = None; partial = None })

-- operands of blocks, from the first on
pub record PartialRows : Type 0 where
  pub add_low : kept_at_0 (block_of 1 8 add_index (10 ∷ []) 0 4) 10 ≡ Ended (record {
    last_value = Some 13;
    partial = Some (Add, 6);
  })
  pub add_high : kept_at_0 (block_of 1 8 add_index (10 ∷ []) 4 8) 10 ≡ Ended (record {
    last_value = Some 17;
    partial = Some (Add, 22);
  })
  pub ands : kept_at_0 (block_of 1 3 and_operands (15 ∷ []) 0 3) 15 ≡ Ended (record {
    last_value = Some 14;
    partial = Some (And, 12);
  })

-- halves that are added apart: a block of four, and marks of a mix with whole words
pub record HalfBlockRows : Type 0 where
  pub kept : kept_at_0 (block_of 1 4 add_halves (4294967295 ∷ []) 0 4) 4294967295
      ≡ Ended (record { last_value = Some 12884901888; partial = Some (AddH, 25769803780) })
  pub addh : marked 1 0 (λ m. m.by AddH) (block_of 1 4 add_halves (4294967295 ∷ []) 0 4) ≡ Ended (0 ∷ [])
  pub no_add : marked 1 0 (λ m. m.by Add) (block_of 1 4 add_halves (4294967295 ∷ []) 0 4) ≡ Ended []
  pub both : marked 1 0 (λ m. m.by Add && m.by AddH) (block_of 1 2 add_half_and_whole (0 ∷ []) 0 2) ≡ Ended (0 ∷ [])
  pub stored : marked 1 0 (λ m. m.read_and_written && (m.written_by_two && m.plain)) (block_of 1 2 store_half (0 ∷ []) 0
      2) ≡ Ended (0 ∷ [])

-- all of them
pub record BlockRows : Type 0 where
  pub right : RightRows
  pub left : ShiftLeftRows
  pub mixed : MixedRows
  pub writer : WriterRows
  pub partial : PartialRows
  pub halves : HalfBlockRows
