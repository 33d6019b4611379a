-- The longest paths in a list of numbers, filled from the end of a program on.
use Rattle.std.proofs.Common.{◌≡◌, ◌≢◌, ℕ, zero, suc, ◌+◌, ◌-◌, ◌<◌, ◌≤◌, Bool, true, false, List, [], ◌∷◌, length}
use Rattle.std.proofs.Common.{get_or, set, refl, ap, sym, ◌∙◌, arith, Some, None, take, replicate, map}
use Rattle.std.{specs.Prelude.{nat_eq, nat_lt}, proofs.lemmas.Bool.Decides.{nat_tests}}
use Rattle.std.proofs.lemmas.List.{get_or-set_same, get_or-set_other}
use Rattle.bpf_insn_types.specs.{declared.insn.Insn.{Insn}, Slots.{slots_of}}
use Rattle.bpf_insn_types.specs.Program.{slot_count, insn_at, callback_starts}
use Rattle.bpf_insn_types.proofs.ProgramLaws.{slots_some, slot_count-more, slot_count-front, insn_at-index}
use Rattle.bpf_insn_types.proofs.ProgramLaws.{insn_at-index_inner}
use Rattle.bpf_verify_model.specs.Count.{through, longest, count_of, JumpsForward}
use Rattle.bpf_verify_model.proofs.LongestLaws.{through-congr, longest-end, longest-step, longest-small}
use Rattle.bpf_verify.specs.Counting.{most_at}

-- an instruction at an index from the end
pub record Back (insns : List Insn) (n slot slot' i : ℕ) (x : Insn) : Type 0 where
  pub low : slot' ≡ slot_count (take i insns)
  pub step : slot ≡ slot' + slots_of x
  pub here : insn_at insns slot' ≡ Some x
  pub inside : slot ≤ n
  pub some : 1 ≤ slots_of x
  pub inner : (k : ℕ) → slot' < k → k < slot → insn_at insns k ≡ None

pub back-index : (insns : List Insn) (n slot size left : ℕ) (x : Insn) → 0 < left → left ≤ length insns
    → slot ≡ slot_count (take left insns) →
    x ≡ get_or insns (left - 1) x → size ≡ slots_of x → slot_count insns ≡ n
    → Back insns n slot (slot - size) (left - 1) x
back-index insns n slot size left x some within low read size_is counted =
    let inside : left - 1 < length insns = omega arith in
    let left_is : left - 1 + 1 ≡ left = omega arith in
    let more : slot ≡ slot_count (take (left - 1) insns) + slots_of x =
    low ∙ sym (ap (λ (k : ℕ). slot_count (take k insns)) left_is) ∙ slot_count-more insns (left - 1) x inside read in
    let there : slot - size ≡ slot_count (take (left - 1) insns) = omega arith in
    record {
      low = there;
      step = omega arith;
      here = ap (insn_at insns) there ∙ insn_at-index insns (left - 1) x inside read;
      inside = omega (arith, slot_count-front insns (left - 1) x inside read);
      some = slots_some x;
      inner = λ k m h. insn_at-index_inner insns (left - 1) x k inside read (omega arith) (omega arith);
    }

-- the numbers from a slot on
pub record CountsFrom (insns : List Insn) (n slot : ℕ) (xs : List ℕ) : Type 0 where
  pub done : (k : ℕ) → slot ≤ k → get_or xs k 0 ≡ longest insns n k
  pub before : (k : ℕ) → k < slot → get_or xs k 0 ≡ 0
  pub small : (k : ℕ) → get_or xs k 0 ≤ 4096

-- at no slot's instruction there is none
longest-none : (insns : List Insn) (n k : ℕ) → JumpsForward insns → slot_count insns ≡ n → 0 < n
    → insn_at insns k ≡ None → longest insns n k ≡ 0
longest-none insns n k forward counted some none = longest-step insns n k None forward counted some none

-- an instruction's number
most-is : (insns : List Insn) (n slot slot' i most : ℕ) (x : Insn) (xs : List ℕ) → JumpsForward insns
    → slot_count insns ≡ n →
    Back insns n slot slot' i x → CountsFrom insns n slot xs → most ≡ through (most_at xs) slot' (Some x)
    → most ≡ longest insns n slot'
most-is insns n slot slot' i most x xs forward counted back counts is =
    is ∙ through-congr (most_at xs) (longest insns n) slot' x (λ k h. counts.done k (omega (arith, back.step, h)))
    (λ target jump_outflow. forward.later slot' x target back.here jump_outflow)
    ∙ sym (longest-step insns n slot' (Some x) forward counted (omega (arith, back.inside, back.step, back.some))
    back.here)

-- the numbers from the slot before on
pub counts-more : (insns : List Insn) (n slot slot' i most : ℕ) (x : Insn) (xs xs' : List ℕ) → JumpsForward insns
    → slot_count insns ≡ n → n ≤ 4096 →
    Back insns n slot slot' i x → length xs ≡ n → CountsFrom insns n slot xs
    → most ≡ through (most_at xs) slot' (Some x) →
    xs' ≡ set xs slot' most → CountsFrom insns n slot' xs'
counts-more insns n slot slot' i most x xs xs' forward counted few back size counts is written =
    let inside : slot' < length xs = omega (arith, back.inside, back.step, back.some) in
    let most_is : most ≡ longest insns n slot' = most-is insns n slot slot' i most x xs forward counted back counts is
    in
    let at_slot : get_or xs' slot' 0 ≡ most = ap (λ (l : List ℕ). get_or l slot' 0) written
    ∙ get_or-set_same xs slot' most 0 inside in
    let elsewhere : (k : ℕ) → k ≢ slot' → get_or xs' k 0 ≡ get_or xs k 0 =
    λ k other. ap (λ (l : List ℕ). get_or l k 0) written ∙ get_or-set_other xs slot' k most 0 other in
    record {
      done = λ k h. from_here insns n slot slot' i k x xs xs' forward counted back counts (at_slot ∙ most_is)
          (elsewhere k) h (nat_eq k slot') refl (nat_lt k slot) refl;
      before = λ k h.
          let other : k ≢ slot' = λ e. omega (arith, e, h) in
          let below : k < slot = omega (arith, back.step, h) in
          elsewhere k other ∙ counts.before k below;
      small = λ k. bounded insns n slot' k most xs xs' few at_slot most_is (elsewhere k) counts.small (nat_eq k slot')
          refl;
    }
  where
    from_here : (insns : List Insn) (n slot slot' i k : ℕ) (x : Insn) (xs xs' : List ℕ) → JumpsForward insns
        → slot_count insns ≡ n →
        Back insns n slot slot' i x → CountsFrom insns n slot xs → get_or xs' slot' 0 ≡ longest insns n slot'
        → (k ≢ slot' → get_or xs' k 0 ≡ get_or xs k 0) →
        slot' ≤ k → (same : Bool) → nat_eq k slot' ≡ same → (inner : Bool) → nat_lt k slot ≡ inner
        → get_or xs' k 0 ≡ longest insns n k
    from_here insns n slot slot' i k x xs xs' forward counted back counts here elsewhere h true e inner f =
        let same : k ≡ slot' = grind (arith, nat_tests) in
        ap (λ (j : ℕ). get_or xs' j 0) same ∙ here ∙ sym (ap (longest insns n) same)
    from_here insns n slot slot' i k x xs xs' forward counted back counts here elsewhere h false e true f =
        let other : k ≢ slot' = grind (arith, nat_tests) in
        let below : k < slot = grind (arith, nat_tests) in
        let above : slot' < k = omega (arith, other) in
        elsewhere other ∙ counts.before k below
        ∙ sym (longest-none insns n k forward counted (omega (arith, back.inside, below))
        (back.inner k above below))
    from_here insns n slot slot' i k x xs xs' forward counted back counts here elsewhere h false e false f =
        let other : k ≢ slot' = grind (arith, nat_tests) in
        let past : slot ≤ k = grind (arith, nat_tests) in
        elsewhere other ∙ counts.done k past

    bounded : (insns : List Insn) (n slot' k most : ℕ) (xs xs' : List ℕ) → n ≤ 4096 → get_or xs' slot' 0 ≡ most
        → most ≡ longest insns n slot' →
        (k ≢ slot' → get_or xs' k 0 ≡ get_or xs k 0) → ((k : ℕ) → get_or xs k 0 ≤ 4096) → (same : Bool)
        → nat_eq k slot' ≡ same → get_or xs' k 0 ≤ 4096
    bounded insns n slot' k most xs xs' few here most_is elsewhere small true e =
        let same : k ≡ slot' = grind (arith, nat_tests) in
        let at : get_or xs' k 0 ≡ longest insns n slot' = ap (λ (j : ℕ). get_or xs' j 0) same ∙ here ∙ most_is in
        omega (arith, at, longest-small insns n slot')
    bounded insns n slot' k most xs xs' few here most_is elsewhere small false e =
        let other : k ≢ slot' = grind (arith, nat_tests) in
        omega (arith, elsewhere other, small k)

-- before the first, all numbers are 0
pub counts-none : (insns : List Insn) (n : ℕ) (xs : List ℕ) → slot_count insns ≡ n → ((k : ℕ) → get_or xs k 0 ≡ 0)
    → CountsFrom insns n n xs
counts-none insns n xs counted zeros = record {
  done = λ k h. zeros k ∙ sym (longest-end insns n k (omega (arith, h)));
  before = λ k h. zeros k;
  small = λ k. omega (arith, zeros k);
}

-- a list of one number
zeros_at : (z n k : ℕ) → get_or (replicate n z) k z ≡ z
zeros_at z zero k = refl
zeros_at z (suc n) zero = refl
zeros_at z (suc n) (suc k) = zeros_at z n k

pub get_or-zeros : (xs : List ℕ) (n k : ℕ) → xs ≡ replicate n 0 → get_or xs k 0 ≡ 0
get_or-zeros xs n k is = ap (λ (l : List ℕ). get_or l k 0) is ∙ zeros_at 0 n k

-- a function of each
get_or-map : (g : ℕ → ℕ) (xs : List ℕ) (k : ℕ) → k < length xs → get_or (map g xs) k 0 ≡ g (get_or xs k 0)
get_or-map g [] k h = absurd (omega arith)
get_or-map g (x ∷ xs) zero h = refl
get_or-map g (x ∷ xs) (suc k) h = get_or-map g xs k (omega arith)

-- a function's count is its start's
pub count-at : (insns : List Insn) (starts counts : List ℕ) (f : ℕ) → starts ≡ callback_starts insns →
    counts ≡ map (longest insns (slot_count insns)) (0 ∷ starts) → f ≤ length starts
    → get_or counts f 0 ≡ count_of insns f
unfolding count_of
count-at insns starts counts zero starts_are counts_are h = ap (λ (l : List ℕ). get_or l 0 0) counts_are
count-at insns starts counts (suc k) starts_are counts_are h =
    ap (λ (l : List ℕ). get_or l (suc k) 0) counts_are ∙ get_or-map (longest insns (slot_count insns)) starts k
    (omega arith)
    ∙ ap (λ (l : List ℕ). longest insns (slot_count insns) (get_or l k 0)) starts_are
