-- What one event keeps.
use Rattle.std.proofs.Common.{◌≡◌, ℕ, zero, suc, ◌+◌, ◌-◌, ◌<◌, ◌≤◌, Bool, true, false, ◌⊎◌, inl, inr, List, [], ◌∷◌}
use Rattle.std.proofs.{Common.{Option, Some, None, refl, sym, ◌∙◌, ap, subst, arith}, Math.Nat.{min-le_right}}
use Rattle.std.specs.Prelude.{◌==◌, nat_lt, min, if◌then◌else◌}
use Rattle.std.proofs.lemmas.Bool.{ltb-false, ltb-true, eqb-true, eqb-false, lt-ltb, eq-eqb, ne_eqb, cases_eq}
use Rattle.loop_core_model.{specs.{LeastBreak.{lesser}, Split.{falls}, Gather.{starts_late}}, proofs.SplitLaws.{rising}}
use Rattle.loop_core_model.specs.declared.event.EventKind.{EventKind, TheVariants.{Claim, Look, Turn, Post, Stop}}
use Rattle.loop_core_model.specs.Intervals.{blocks_of, start_of, end_of}
use Rattle.loop_core_model.specs.Events.{Worker, Idle, Holding, Running, Posting, Drained, Stopped, Shared, Moved}
use Rattle.loop_core_model.specs.Events.{having_run, claims, looks, iterates, posts, transition}
use Rattle.loop_core_model.proofs.Least.{lesser_swap, lesser_assoc}

abbrev pub bit : Bool → ℕ
bit true = 1
bit false = 0

-- how often a worker has a block in hand, and how often it was run
abbrev pub holds : ℕ → Worker → ℕ
holds k Idle = 0
holds k (Holding block) = bit (block == k)
holds k (Running block index) = bit (block == k)
holds k (Posting index) = 0
holds k Drained = 0
holds k Stopped = 0

abbrev pub times : ℕ → List ℕ → ℕ
times k [] = 0
times k (block ∷ runs) = bit (block == k) + times k runs

-- of n indices from this one on, the first that breaks
abbrev pub first_break : (ℕ → Bool) → (left index : ℕ) → Option ℕ
first_break breaks zero index = None
first_break breaks (suc left) index = if breaks index then Some index else first_break breaks left (index + 1)

-- the first of a block, and the least of the first ones of blocks
abbrev pub break_of : (ℕ → Bool) → List ℕ → ℕ → Option ℕ
break_of breaks bounds block = first_break breaks (end_of bounds block - start_of bounds block) (start_of bounds block)

abbrev pub least_break_of : (ℕ → Bool) → List ℕ → List ℕ → Option ℕ
least_break_of breaks bounds [] = None
least_break_of breaks bounds (block ∷ runs) = lesser (break_of breaks bounds block) (least_break_of breaks bounds runs)

-- what a worker has yet to post
abbrev pub to_post : Worker → Option ℕ
to_post Idle = None
to_post (Holding block) = None
to_post (Running block index) = None
to_post (Posting index) = Some index
to_post Drained = None
to_post Stopped = None

pub bit_cases : (a b : ℕ) → ((a ≡ b) × (bit (a == b) ≡ 1)) ⊎ ((a ≡ b → ⊥) × (bit (a == b) ≡ 0))
bit_cases a b = elim (cases_eq a b) [
  | inl same ↦ inl (same, ap bit (eq-eqb a b same))
  | inr other ↦ inr (other, ap bit (ne_eqb a b other))
]

late_lesser : (start index : ℕ) (least : Option ℕ) → starts_late least start ≡ true
    → starts_late (lesser (Some index) least) start ≡ true
late_lesser start index None h = absurd (cc)
late_lesser start index (Some p) h = lt-ltb (min index p) start (let low = ltb-true p start h in
    let m = min-le_right index p in omega arith)

-- a worker within a block: it has met no break yet
pub record RunsFrom (breaks : ℕ → Bool) (bounds : List ℕ) (block index : ℕ) : Type 0 where
  pub within : block < blocks_of bounds
  pub before_end : index < end_of bounds block
  pub no_break : break_of breaks bounds block ≡ first_break breaks (end_of bounds block - index) index

-- what is known of a worker where n blocks were taken
abbrev pub Fits : (ℕ → Bool) → List ℕ → ℕ → Worker → Type 0
Fits breaks bounds next Idle = Unit {0}
Fits breaks bounds next (Holding block) = block < blocks_of bounds
Fits breaks bounds next (Running block index) = RunsFrom breaks bounds block index
Fits breaks bounds next (Posting index) = Unit {0}
Fits breaks bounds next Drained = next ≡ blocks_of bounds
Fits breaks bounds next Stopped = next ≡ blocks_of bounds

-- how often a block is in hand or was run: once, save where it wasn't taken yet or may be skipped
pub record CountsTo (bounds : List ℕ) (next : ℕ) (least : Option ℕ) (k count : ℕ) : Type 0 where
  pub once : count ≤ 1
  pub not_taken : next ≤ k → count ≡ 0
  pub taken : k < next → (count ≡ 1) ⊎ (starts_late least (start_of bounds k) ≡ true)

recount : (bounds : List ℕ) (next : ℕ) (least : Option ℕ) (k a b : ℕ) → a ≡ b → CountsTo bounds next least k a
    → CountsTo bounds next least k b
recount bounds next least k a b same c = subst (λ (n : ℕ). CountsTo bounds next least k n) same c

-- what an event keeps, whatever the other workers do
pub record Kept (breaks : ℕ → Bool) (bounds : List ℕ) (old : Worker) (shared : Shared) (new : Worker)
    (after : Shared) : Type 0 where
  pub within : after.next ≤ blocks_of bounds
  pub fits : Fits breaks bounds after.next new
  pub fit_on : (w : Worker) → Fits breaks bounds shared.next w → Fits breaks bounds after.next w
  pub counts : (k rest : ℕ) → CountsTo bounds shared.next shared.least k (times k shared.runs + (holds k old + rest)) →
      CountsTo bounds after.next after.least k (times k after.runs + (holds k new + rest))
  pub least : (rest : Option ℕ) → least_break_of breaks bounds shared.runs ≡ lesser shared.least
      (lesser (to_post old) rest) →
      least_break_of breaks bounds after.runs ≡ lesser after.least (lesser (to_post new) rest)

abbrev pub KeptBy : (ℕ → Bool) → List ℕ → Worker → Shared → Moved → Type 0
KeptBy breaks bounds old shared m = Kept breaks bounds old shared m.worker m.shared

module _ (breaks : ℕ → Bool) (bounds : List ℕ) (rises : falls 0 bounds ≡ false) where
  -- a worker that does something else alone
  stays : (old new : Worker) (shared : Shared) → shared.next ≤ blocks_of bounds → Fits breaks bounds shared.next new →
      ((k : ℕ) → holds k old ≡ holds k new) → to_post old ≡ to_post new → Kept breaks bounds old shared new shared
  stays old new shared within fits same post = record {
    within = within;
    fits = fits;
    fit_on = λ w h. h;
    counts = λ k rest c. recount bounds shared.next shared.least k _ _ (let e = same k in omega arith) c;
    least = λ rest h. h ∙ ap (λ (o : Option ℕ). lesser shared.least (lesser o rest)) post;
  }

  fit_next : (next : ℕ) → next < blocks_of bounds → (w : Worker) → Fits breaks bounds next w
      → Fits breaks bounds (next + 1) w
  fit_next next below Drained h = absurd (omega arith)
  fit_next next below Stopped h = absurd (omega arith)
  fit_next next below _ h = h

  -- a block more is taken
  taken_one : (next : ℕ) (least : Option ℕ) (k t rest : ℕ) → CountsTo bounds next least k (t + (0 + rest))
      → CountsTo bounds (next + 1) least k (t + (bit (next == k) + rest))
  taken_one next least k t rest c = elim (bit_cases next k) [
    | inl this ↦
        let same = this.0 in
        let one = this.1 in
        let none : t + (0 + rest) ≡ 0 = c.not_taken (omega arith) in
        record { once = omega arith; not_taken = λ h. absurd (omega arith); taken = λ h. inl (omega arith) }
    | inr other ↦
        let apart = other.0 in
        let none = other.1 in
        let same : t + (0 + rest) ≡ t + (bit (next == k) + rest) = omega arith in
        recount bounds (next + 1) least k _ _ same
        (record { once = c.once; not_taken = λ h. c.not_taken (omega arith); taken = λ h. c.taken (omega arith) })
  ]

  -- by a test, one or the other
  by_test : (old : Worker) (shared : Shared) (b : Bool) (x y : Moved) → (b ≡ true → KeptBy breaks bounds old shared x)
      → (b ≡ false → KeptBy breaks bounds old shared y) → KeptBy breaks bounds old shared (if b then x else y)
  by_test old shared true x y one other = one refl
  by_test old shared false x y one other = other refl

  claimed : (shared : Shared) → shared.next ≤ blocks_of bounds → KeptBy breaks bounds Idle shared (claims bounds shared)
  claimed shared within = by_test Idle shared (nat_lt shared.next (blocks_of bounds)) _ _
      (λ e. (let below : shared.next < blocks_of bounds = ltb-true shared.next (blocks_of bounds) e in record {
        within = omega arith;
        fits = below;
        fit_on = fit_next shared.next below;
        counts = λ k rest c. taken_one shared.next shared.least k (times k shared.runs) rest c;
        least = λ rest h. h;
      }))
      (λ e. (let above : blocks_of bounds ≤ shared.next = ltb-false shared.next (blocks_of bounds) e in
      stays Idle Drained shared within (omega arith) (λ k. refl) refl))

  -- a block is skipped
  skipped_one : (next : ℕ) (least : Option ℕ) (block k t rest : ℕ) → starts_late least (start_of bounds block) ≡ true →
      CountsTo bounds next least k (t + (bit (block == k) + rest)) → CountsTo bounds next least k (t + (0 + rest))
  skipped_one next least block k t rest past c = elim (bit_cases block k) [
    | inl this ↦
        let one = this.1 in
        let most = c.once in record {
          once = omega arith;
          not_taken = λ h. (let none = c.not_taken h in omega arith);
          taken = λ h. inr (subst (λ (i : ℕ). starts_late least (start_of bounds i) ≡ true) this.0 past);
        }
    | inr other ↦ (let none = other.1 in recount bounds next least k _ _ (omega arith) c)
  ]

  -- a block is run to its end, or to a break
  has_run : (old new : Worker) (shared : Shared) (block : ℕ) → shared.next ≤ blocks_of bounds
      → Fits breaks bounds shared.next new →
      ((k : ℕ) → holds k old ≡ bit (block == k) + holds k new) → to_post old ≡ None
      → to_post new ≡ break_of breaks bounds block →
      KeptBy breaks bounds old shared (having_run block new shared)
  has_run old new shared block within fits one nothing post = record {
    within = within;
    fits = fits;
    fit_on = λ w h. h;
    counts = λ k rest c. recount bounds shared.next shared.least k _ _ (let e = one k in omega arith) c;
    least = λ rest h.
        ap (lesser (break_of breaks bounds block)) (h ∙ ap (λ (o : Option ℕ). lesser shared.least (lesser o rest))
        nothing)
        ∙ (lesser_swap (break_of breaks bounds block) shared.least rest
        ∙ ap (λ (o : Option ℕ). lesser shared.least (lesser o rest)) (sym post));
  }

  looked : (shared : Shared) (block : ℕ) → shared.next ≤ blocks_of bounds → block < blocks_of bounds
      → KeptBy breaks bounds (Holding block) shared (looks bounds block shared)
  looked shared block within below =
      by_test (Holding block) shared (starts_late shared.least (start_of bounds block)) _ _
      (λ late. record {
        within = within;
        fits = tt;
        fit_on = λ w h. h;
        counts = λ k rest c. skipped_one shared.next shared.least block k (times k shared.runs) rest late c;
        least = λ rest h. h;
      })
      (λ on_time. by_test (Holding block) shared (start_of bounds block == end_of bounds block) _ _
      (λ e. (let same = eqb-true (start_of bounds block) (end_of bounds block) e in
      let none : end_of bounds block - start_of bounds block ≡ 0 = omega arith in
      has_run (Holding block) Idle shared block within tt (λ k. omega arith) refl (rw none refl)))
      (λ e. (let apart = eqb-false (start_of bounds block) (end_of bounds block) e in
      let up = rising 0 bounds rises block (block + 1) (omega arith) (omega arith) in
      stays (Holding block) (Running block (start_of bounds block)) shared within
      (record { within = below; before_end = omega arith; no_break = refl }) (λ k. refl) refl)))

  -- the break of a block from an index on
  break_here : (block index : ℕ) (b : Bool) → RunsFrom breaks bounds block index → breaks index ≡ b →
      break_of breaks bounds block ≡ (if b then Some index else first_break breaks (end_of bounds block - (index + 1))
      (index + 1))
  break_here block index b from e =
      let high = from.before_end in
      let one_more : end_of bounds block - index ≡ suc (end_of bounds block - (index + 1)) = omega arith in
      from.no_break ∙ rw (one_more, e) refl

  turned : (shared : Shared) (block index : ℕ) → shared.next ≤ blocks_of bounds → RunsFrom breaks bounds block index
      → KeptBy breaks bounds (Running block index) shared (iterates breaks bounds block index shared)
  turned shared block index within from = by_test (Running block index) shared (breaks index) _ _
      (λ e. has_run (Running block index) (Posting index) shared block within tt (λ k. omega arith) refl
      (sym (break_here block index true from e)))
      (λ going. by_test (Running block index) shared (index + 1 == end_of bounds block) _ _
      (λ e. (let same = eqb-true (index + 1) (end_of bounds block) e in
      let none : end_of bounds block - (index + 1) ≡ 0 = omega arith in
      has_run (Running block index) Idle shared block within tt (λ k. omega arith) refl
      (sym (break_here block index false from going ∙ ap (λ (left : ℕ). first_break breaks left (index + 1)) none))))
      (λ e. (let apart = eqb-false (index + 1) (end_of bounds block) e in
      let high = from.before_end in
      stays (Running block index) (Running block (index + 1)) shared within
      (record { within = from.within; before_end = omega arith; no_break = break_here block index false from going })
      (λ k. refl) refl)))

  posted : (shared : Shared) (index : ℕ) → shared.next ≤ blocks_of bounds → KeptBy breaks bounds (Posting index) shared
      (posts index shared)
  posted shared index within = record {
    within = within;
    fits = tt;
    fit_on = λ w h. h;
    counts = λ k rest c. record {
      once = c.once;
      not_taken = c.not_taken;
      taken = λ h. elim (c.taken h) [
        | inl one ↦ inl one
        | inr past ↦ inr (late_lesser (start_of bounds k) index shared.least past)
      ];
    };
    least = λ rest h. h ∙ lesser_swap shared.least (Some index) rest
        ∙ sym (lesser_assoc (Some index) shared.least rest);
  }

  abbrev pub KeptIfEnabled : Worker → Shared → Option Moved → Type 0
  KeptIfEnabled old shared None = Unit {0}
  KeptIfEnabled old shared (Some m) = KeptBy breaks bounds old shared m

  pub event_keeps : (kind : EventKind) (old : Worker) (shared : Shared) → shared.next ≤ blocks_of bounds
      → Fits breaks bounds shared.next old →
      KeptIfEnabled old shared (transition breaks bounds kind old shared)
  event_keeps Claim Idle shared within fits = claimed shared within
  event_keeps Look (Holding block) shared within fits = looked shared block within fits
  event_keeps Turn (Running block index) shared within fits = turned shared block index within fits
  event_keeps Post (Posting index) shared within fits = posted shared index within
  event_keeps Stop Drained shared within fits = stays Drained Stopped shared within fits (λ k. refl) refl
  event_keeps kind old shared within fits = tt
