-- The values of a lane, one after another.
use Rattle.std.proofs.Common.{◌≡◌, ℕ, zero, suc, ◌+◌, ◌-◌, ◌*◌, ◌%◌, ◌^◌, ◌<◌, ◌≤◌, Bool, true, false, ◌&&◌, ◌||◌}
use Rattle.std.proofs.Common.{if◌then◌else◌, inl, inr, List, [], ◌∷◌, ◌++◌, length, slice_index, refl, sym, ap, subst}
use Rattle.std.{proofs.Common.{◌∙◌, arith}, specs.Prelude.{◌/◌, not, nat_lt, slice_get, Option, Some, None, drop}}
use Rattle.std.{specs.List.{AllByRecursion}, proofs.Math.Seq.{get_or-append_seam}}
use Rattle.std.proofs.lemmas.Bool.{cases_lt, Decides.{nat_tests}}
use Rattle.std.proofs.lemmas.List.{get_or_append_left, get_or-append_right, get_or-drop, length-append}
use Rattle.array_maps.specs.Accesses.{Access, words_after_all}
use Rattle.array_maps.specs.{MapList.{AreWords}, declared.access.{Half.TheVariants.{Low, High}, Part.{Part}}}
use Rattle.array_maps.specs.{declared.access.Part.TheVariants.{Whole, Half as Of}, Halves.{half_of, part_of}}
use Rattle.bpf_insn_types.specs.declared.extension.Extension.{Extension, TheVariants.{Zeros}}
use Rattle.bpf_insn_types.{specs.{WordBounds.{ResultsFit}, Words.{holds}}, proofs.WordLaws.{modulus-most}}
use Rattle.bpf_step_model.specs.{Step.{Request, Load as Loads, Fetch as Fetches, extended}, Run.{part_bytes}}
use Rattle.bpf_step_model.specs.AreaWords.{looked_up_word, area_word}
use Rattle.loop_core_model.proofs.Sparing.{word_fits}
use Rattle.row_list.specs.{declared.row_op.RowOp.{RowOp}, Places.{taken_by}}
use Rattle.row_list.specs.declared.row_op.RowOp.TheVariants.{All, Number, Caller, Index, Alu, Neg, Movsx, Endian, Found}
use Rattle.row_list.specs.declared.row_op.RowOp.TheVariants.{Holds, Without, Either, Choice}
use Rattle.row_list.specs.Rows.{RowAccess, bit, is_in, returned, row_value, row_access, AreValuesOn, IsReturned}
use Rattle.row_list.specs.Rows.{IsRowValue}
use Rattle.row_list.specs.Lanes.{row_accesses, run_words}
use Rattle.row_facts.{specs.Ordered.{TakesBelow, IsOrdered}, proofs.SiteLaws.{some-same}}
use Rattle.row_run.proofs.LoadLaws.{chosen_small, loaded_small}
use Rattle.loop_inspector.proofs.FrameNumbers.{AreBytes, frame_number}
use Rattle.row_list.proofs.SameLanes.{Lane, TakesSame, all_by, lane_of, same_accesses, same_lane}
use Rattle.row_list.proofs.ValueLaws.{fit_after_access}

-- all that an operation takes comes before a position
pub takes_below : (k : ℕ) (op : RowOp) → TakesBelow k op → AllByRecursion (λ j. j < k) (taken_by op)
takes_below k All below = tt
takes_below k _ below = assumption

-- results are words
bit_small : (b : Bool) → bit b < 2 ^ 64
bit_small b = chosen_small b 1 0 (omega arith) (omega arith)

found_small : (first count key : ℕ) → first < 2 ^ 32 → count < 2 ^ 32 → looked_up_word first count key < 2 ^ 64
found_small first count key x y = go (nat_lt key count) refl
  where
    go : (b : Bool) → nat_lt key count ≡ b → (if b then area_word (8 * (first + key)) else 0) < 2 ^ 64
    go true h =
        let below : key < count = grind (arith, nat_tests) in
        omega (arith, below, x, y)
    go false h = omega arith

returned_small : (request : Request) (word : ℕ) → word < 2 ^ 64 → returned request word < 2 ^ 64
returned_small (Loads part extension into) word h = loaded_small part extension word h
returned_small (Fetches part rmw value compare into) word h = loaded_small part Zeros word h
returned_small _ word h = omega arith

-- numbers of a list are words
abbrev AreSmall : List ℕ → Type 0
AreSmall values = (k : ℕ) → slice_index values k < 2 ^ 64

one_small : (more : ℕ) → more < 2 ^ 64 → AreSmall (more ∷ [])
one_small more less zero = less
one_small more less (suc k) = omega arith

both_small : (one two : List ℕ) → AreSmall one → AreSmall two → AreSmall (one ++ two)
both_small one two x y k = elim (cases_lt k (length one)) [
  | inl l ↦ rw (get_or_append_left one two 0 k l) (x k)
  | inr l ↦ rw (get_or-append_right one two (length one) k 0 refl l) (y (k - length one))
]

-- a value; or of an access what it returns, where the lane makes it, and else another number
abbrev made_by : Option RowAccess → (there : Bool) → (words : List ℕ) → (value other : ℕ) → ℕ
made_by None there words value other = value
made_by (Some access) there words value other =
    if there then returned access.request (slice_index words (access.byte / 8)) else other

abbrev is_there : Option RowAccess → (values : List ℕ) → Bool
is_there None values = false
is_there (Some access) values = is_in values access.mask

own : (there : Bool) (found n : ℕ) → (there ≡ true → n ≡ found) → (if there then found else n) ≡ n
own true found n is = sym (is refl)
own false found n is = refl

module _ (fits : ResultsFit) (index : ℕ) (caller : List ℕ) where
  -- what an operation makes, by the values before it, on the words that it finds
  pub made : RowOp → (values words : List ℕ) → (other : ℕ) → ℕ
  made op values words other =
      let lane : Lane = lane_of index caller op values in made_by lane.access lane.there words lane.value other

  -- it is the same where what it takes is
  same_made : (op : RowOp) (values others words : List ℕ) (other : ℕ) → TakesSame op values others
      → made op values words other ≡ made op others words other
  unfolding made
  same_made op values others words other same =
      ap (λ (lane : Lane). made_by lane.access lane.there words lane.value other)
      (same_lane index caller op values others same)

  -- it is the operation's value, and any that is, is it
  is_made : (op : RowOp) (values words : List ℕ) (other n : ℕ) → n ≡ made op values words other
      → IsRowValue op index caller values words n
  unfolding made
  is_made op values words other n is = go (row_access op values) (row_value op index caller values) is
    where
      go : (o : Option RowAccess) (value : ℕ) → n ≡ made_by o (is_there o values) words value other
          → IsReturned o values words value n
      go None value is = is
      go (Some access) value is = λ there.
          is ∙ ap (λ (b : Bool). if b then returned access.request (slice_index words (access.byte / 8)) else other)
          there

  pub made_of_own : (op : RowOp) (values words : List ℕ) (n : ℕ) → IsRowValue op index caller values words n
      → made op values words n ≡ n
  unfolding made
  made_of_own op values words n is = go (row_access op values) (row_value op index caller values) is
    where
      go : (o : Option RowAccess) (value : ℕ) → IsReturned o values words value n
          → made_by o (is_there o values) words value n ≡ n
      go None value is = sym is
      go (Some access) value is =
          own (is_in values access.mask) (returned access.request (slice_index words (access.byte / 8))) n is

  -- and it is a word
  value_small : AreBytes caller → index < 2 ^ 64 → (k : ℕ) (op : RowOp) (values : List ℕ) → TakesBelow k op
      → AreSmall values → row_value op index caller values < 2 ^ 64
  value_small bytes low k (Number n) values below small = below
  value_small bytes low k (Caller size extension position) values below small =
      frame_number caller bytes size extension position
  value_small bytes low k Index values below small = low
  value_small bytes low k (Alu width op first second) values below small =
      omega (arith, fits.alu_fits width op (slice_index values first) (slice_index values second), modulus-most width)
  value_small bytes low k (Neg width value) values below small =
      omega (arith, fits.negated_fits width (slice_index values value), modulus-most width)
  value_small bytes low k (Movsx width bits value) values below small =
      omega (arith, fits.moved_signed_fits width bits (slice_index values value), modulus-most width)
  value_small bytes low k (Endian order bits value) values below small =
      fits.in_order_is_word order bits (slice_index values value)
  value_small bytes low k (Found first count key) values below small = found_small first count _ below.0 below.1
  value_small bytes low k (Holds mask width compare first second) values below small =
      bit_small (is_in values mask && holds width compare (slice_index values first) (slice_index values second))
  value_small bytes low k (Without mask other) values below small =
      bit_small (is_in values mask && not (is_in values other))
  value_small bytes low k (Either first second) values below small =
      bit_small (is_in values first || is_in values second)
  value_small bytes low k (Choice mask first second) values below small =
      chosen_small (is_in values mask) _ _ (small first) (small second)
  value_small bytes low k _ values below small = omega arith

  made_small : (words : List ℕ) → AreWords words → (o : Option RowAccess) (there : Bool) (value other : ℕ)
      → value < 2 ^ 64 → other < 2 ^ 64 → made_by o there words value other < 2 ^ 64
  made_small words fit None there value other x y = x
  made_small words fit (Some access) there value other x y =
      chosen_small there _ other (returned_small access.request _ (word_fits words (access.byte / 8) fit)) y

  -- the values of a list, after others, in a lane that alone changes the words; of accesses that it doesn't make others
  module _ (others : List ℕ) where
    pub record After (before : List ℕ) (list : List RowOp) (now : List ℕ) : Type 0 where
      pub values : List ℕ
      pub kept : (k : ℕ) → k < length before → slice_index values k ≡ slice_index before k
      pub each : (j k : ℕ) (op : RowOp) → length before + j ≡ k → slice_get list j ≡ Some op
          → slice_index values k ≡ made op values (run_words list values now j) (slice_index others k)
      pub past : (k : ℕ) → length before + length list ≤ k → slice_index values k ≡ slice_index others k
      pub small : AreBytes caller → index < 2 ^ 64 → AreSmall others → AreWords now → AreSmall before → AreSmall values

    -- one operation more in front
    module _ (before : List ℕ) (op : RowOp) (list : List RowOp) (now : List ℕ) (takes : TakesBelow (length before) op)
      where
        abbrev next : ℕ
        next = made op before now (slice_index others (length before))

        abbrev then_words : List ℕ
        then_words = words_after_all (row_accesses op before now) now

        longer : length (before ++ next ∷ []) ≡ length before + 1
        longer = length-append before (next ∷ [])

        next_small : AreBytes caller → index < 2 ^ 64 → AreSmall others → AreWords now → AreSmall before → next < 2 ^ 64
        unfolding made
        next_small bytes low small fit few = made_small now fit (row_access op before) _ _ _
            (value_small bytes low (length before) op before takes few) (small (length before))

        module _ (rest : After (before ++ next ∷ []) list then_words) where
          kept : (k : ℕ) → k < length before → slice_index rest.values k ≡ slice_index before k
          kept k h = rest.kept k (omega (arith, longer, h)) ∙ get_or_append_left before (next ∷ []) 0 k h

          same : TakesSame op before rest.values
          same = all_by (taken_by op) (λ k h. sym (kept k h)) (takes_below (length before) op takes)

          each : (j k : ℕ) (o : RowOp) → length before + j ≡ k → slice_get (op ∷ list) j ≡ Some o
              → slice_index rest.values k ≡ made o rest.values (run_words (op ∷ list) rest.values now j) (slice_index
              others k)
          each zero k o at there =
              let here : length before ≡ k = omega (arith, at) in
              rw (← here, ← some-same op o there)
              (rest.kept (length before) (omega (arith, longer)) ∙ get_or-append_seam before next [] 0
              ∙ same_made op before rest.values now (slice_index others (length before)) same)
          each (suc j) k o at there =
              rest.each j k o (omega (arith, at, longer)) there
              ∙ ap (λ (accesses : List Access). made o rest.values (run_words list rest.values (words_after_all accesses
              now)
              j) (slice_index others k)) (same_accesses op now before rest.values same)

          more : After before (op ∷ list) now
          more = record {
            values = rest.values;
            kept = kept;
            each = each;
            past = λ k h. rest.past k (omega (arith, longer, h));
            small = λ bytes low small fit few. rest.small bytes low small (fit_after_access fits op before now few fit)
                (both_small before (next ∷ []) few (one_small next (next_small bytes low small fit few)));
          }

    -- all that each takes comes before it
    abbrev TakeBelow : (count : ℕ) → List RowOp → Type 0
    TakeBelow count list = (j k : ℕ) (op : RowOp) → count + j ≡ k → slice_get list j ≡ Some op → TakesBelow k op

    after : (before : List ℕ) (list : List RowOp) (now : List ℕ) → TakeBelow (length before) list
        → After before list now
    after before [] now below = record {
      values = before ++ drop (length before) others;
      kept = λ k h. get_or_append_left before (drop (length before) others) 0 k h;
      each = λ j k op at there. absurd (cc there);
      past = λ k h.
          let same : length before + (k - length before) ≡ k = omega (arith, h) in
          get_or-append_right before (drop (length before) others) (length before) k 0 refl (omega (arith, h))
          ∙ get_or-drop (length before) others (k - length before) 0 ∙ ap (slice_index others) same;
      small = λ bytes low small fit few. both_small before (drop (length before) others) few
          (λ k. rw (get_or-drop (length before) others k 0) (small (length before + k)));
    }
    after before (op ∷ list) now below =
        let takes : TakesBelow (length before) op = below 0 (length before) op (omega arith) refl in
        let n : length (before ++ next before op list now takes ∷ []) ≡ length before + 1 =
        longer before op list now takes in
        more before op list now takes (after (before ++ next before op list now takes ∷ []) list
        (then_words before op list now takes) (λ j k o at there. below (suc j) k o (omega (arith, at, n)) there))

    pub lane_after : (list : List RowOp) (words : List ℕ) → IsOrdered list → After [] list words
    lane_after list words ordered = after [] list words (λ j k op at there.
        let same : j ≡ k = omega (arith, at) in subst (λ (i : ℕ). TakesBelow i op) same (ordered.each j op there))

    -- they are a lane's
    pub are_values : (list : List RowOp) (words : List ℕ) (lane : After [] list words) → AreBytes caller
        → index < 2 ^ 64 → AreSmall others → AreWords words
        → AreValuesOn list index caller (run_words list lane.values words) lane.values
    are_values list words lane bytes low small fit = record {
      each = λ k op there. is_made op lane.values (run_words list lane.values words k) (slice_index others k)
          (slice_index lane.values k) (lane.each k k op (omega arith) there);
      fit = lane.small bytes low small fit (λ k. omega arith);
    }
