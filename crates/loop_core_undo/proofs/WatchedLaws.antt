-- What accesses do to watched maps, one after another.
use Rattle.std.proofs.Common.{◌≡◌, ℕ, ◌<◌, Bool, true, false, ◌||◌, ◌&&◌, ◌==◌, not, cond, if◌then◌else◌, List, [], ◌∷◌}
use Rattle.std.proofs.Common.{length, get_or, set, inl, inr, refl, sym, ◌∙◌, ap, subst, arith, get_or-set_other}
use Rattle.std.proofs.lemmas.Bool.{cases_eq, cases_lt, cases_Bool, both_ways, or_parts, or_left, eq-eqb, ne_eqb}
use Rattle.std.proofs.lemmas.List.{get_or_past, set-get_or}
use Rattle.array_maps.specs.Accesses.{Access, Action, Read, Write, ReadWrite, Reduce, actions_at, left_by, words_after}
use Rattle.array_maps.specs.{Accesses.{words_after_all}, MapList.{MapList}, Store.{Effects}}
use Rattle.loop_core_model.specs.Actions.{is_write, is_plain_write, writes, exposed}
use Rattle.loop_core_undo.specs.{declared.watched.Watched.{Watched}, Undo.{log_elements, is_written}}
use Rattle.loop_core_undo.specs.Watching.{IsWatched, MeetsWritten, WatchedAll}

-- an action that leaves no word
leaves_word : (action : Action) (word : ℕ) → is_write action ≡ false → left_by action word ≡ word
leaves_word (Read saw) word none = refl
leaves_word (Write left) word none = cc
leaves_word (ReadWrite saw left) word none = cc
leaves_word (Reduce op operand) word none = cc

-- an element at which an access leaves no word
same_word : (access : Access) (words : List ℕ) (e : ℕ) → ((access.element == e) && is_write access.action) ≡ false
    → get_or (words_after access words) e 0 ≡ get_or words e 0
same_word access words e none = elim (cases_eq e access.element) [
  | inl same ↦
      let silent : is_write access.action ≡ false =
      sym (ap (λ (at : Bool). at && is_write access.action) (eq-eqb access.element e (sym same))) ∙ none in
      ap (λ (ws : List ℕ). get_or ws e 0)
      (ap (λ (w : ℕ). set words access.element w)
      (leaves_word access.action (get_or words access.element 0) silent) ∙ set-get_or words access.element 0)
  | inr other ↦
      get_or-set_other words access.element e (left_by access.action (get_or words access.element 0)) 0 other
]

-- whether an element is told written, one access more
told_more : (was at wrote rest : Bool) → ((was || (at && wrote)) || rest) ≡ (was || cond at (wrote || rest) rest)
told_more true at wrote rest = refl
told_more false true wrote rest = refl
told_more false false wrote rest = refl

writes_more : (at : Bool) (action : Action) (actions : List Action)
    → cond at (is_write action || writes actions) (writes actions) ≡ writes (cond at (action ∷ actions) actions)
writes_more true action actions = refl
writes_more false action actions = refl

or_none : (b : Bool) → (b || false) ≡ b
or_none true = refl
or_none false = refl

-- a flag that is set stands in the list
in_range : (flags : List Bool) (e : ℕ) → get_or flags e false ≡ true → e < length flags
in_range flags e set_there = elim (cases_lt e (length flags)) [
  | inl inside ↦ inside
  | inr past ↦ absurd (both_ways (get_or flags e false) (get_or_past flags e false past) set_there)
]

or_right : (a b : Bool) → b ≡ true → (a || b) ≡ true
or_right true b h = refl
or_right false b h = h

-- one access met something
met_here : (old between : Watched) (access : Access) (accesses : List Access) → IsWatched old access between
    → old.met ≡ false → between.met ≡ true → MeetsWritten (is_written old.log.now) (access ∷ accesses)
met_here old between access accesses one before met =
    by_kind (is_plain_write access.action) refl
  where
    here : (plain : Bool) → is_plain_write access.action ≡ plain
        → (if plain then old.met else (old.met || is_written old.log.now access.element)) ≡ true
    here plain is =
        ap (λ (b : Bool). if b then old.met else (old.met || is_written old.log.now access.element)) (sym is)
        ∙ sym one.met ∙ met

    by_kind : (plain : Bool) → is_plain_write access.action ≡ plain
        → MeetsWritten (is_written old.log.now) (access ∷ accesses)
    by_kind true is = absurd (both_ways old.met before (here true is))
    by_kind false is = record {
      front = [];
      access = access;
      back = accesses;
      are = refl;
      sees = is;
      was = or_left (is_written old.log.now access.element) false
          (sym (ap (λ (b : Bool). b || is_written old.log.now access.element) before) ∙ here false is);
    }

-- an element that was written after one access was written before it, or by it
was_before : (old between : Watched) (access : Access) → IsWatched old access between → (e : ℕ) (front : List Access)
    → (is_written between.log.now e || writes (actions_at e front)) ≡ true
    → (is_written old.log.now e || writes (actions_at e (access ∷ front))) ≡ true
was_before old between access one e front was = elim (cases_lt e (log_elements old.log.now)) [
  | inl inside ↦
      sym (ap (λ (b : Bool). b || writes (actions_at e front)) (one.written e inside)
      ∙ told_more (is_written old.log.now e) (access.element == e) (is_write access.action)
      (writes (actions_at e front))
      ∙ ap (λ (wrote : Bool). is_written old.log.now e || wrote)
      (writes_more (access.element == e) access.action (actions_at e front)))
      ∙ was
  | inr past ↦
      let count = one.count in
      let none : is_written between.log.now e ≡ false =
      get_or_past between.log.now.written.items e false (omega (arith, past, count)) in
      let wrote : writes (actions_at e front) ≡ true =
      sym (ap (λ (b : Bool). b || writes (actions_at e front)) none) ∙ was in
      or_right (is_written old.log.now e) (writes (actions_at e (access ∷ front)))
      (sym (writes_more (access.element == e) access.action (actions_at e front))
      ∙ later (access.element == e) (is_write access.action) (writes (actions_at e front)) wrote)
]
  where
    later : (at wrote rest : Bool) → rest ≡ true → cond at (wrote || rest) rest ≡ true
    later true wrote rest h = or_right wrote rest h
    later false wrote rest h = h

-- a later one did
met_later : (old between : Watched) (access : Access) (accesses : List Access) → IsWatched old access between
    → MeetsWritten (is_written between.log.now) accesses → MeetsWritten (is_written old.log.now) (access ∷ accesses)
met_later old between access accesses one later = record {
  front = access ∷ later.front;
  access = later.access;
  back = later.back;
  are = ap (λ (rest : List Access). access ∷ rest) later.are;
  sees = later.sees;
  was = was_before old between access one later.access.element later.front later.was;
}

pub none_watched : (old : Watched) → WatchedAll old [] old
none_watched old = record {
  same_maps = refl;
  same_log = refl;
  sizes = refl;
  words = refl;
  count = refl;
  written = λ e inside. sym (or_none (is_written old.log.now e));
  before = λ e inside. refl;
  unwritten = λ e inside untold. refl;
  met = λ before met. absurd (both_ways old.met before met);
  first = λ unmet. unmet;
  unmet = λ unmet e told. refl;
}

pub more_watched : (old between new : Watched) (access : Access) (accesses : List Access) → IsWatched old access between
    → WatchedAll between accesses new → WatchedAll old (access ∷ accesses) new
more_watched old between new access accesses one all =
    let count = one.count in
    let writes_here : (e : ℕ) → cond (access.element == e) (is_write access.action || writes (actions_at e accesses))
    (writes (actions_at e accesses)) ≡ writes (actions_at e (access ∷ accesses)) =
    λ e. writes_more (access.element == e) access.action (actions_at e accesses) in
    let told : (e : ℕ) → e < log_elements old.log.now → is_written new.log.now e
    ≡ (is_written between.log.now e || writes (actions_at e accesses)) =
    λ e inside. all.written e (omega (arith, inside, count)) in
    record {
      same_maps = all.same_maps ∙ one.same_maps;
      same_log = all.same_log ∙ one.same_log;
      sizes = all.sizes ∙ ap (λ (maps : MapList). maps.sizes) one.maps;
      words = all.words ∙ ap (λ (maps : MapList). words_after_all accesses maps.words) one.maps;
      count = all.count ∙ one.count;
      written = λ e inside. told e inside
          ∙ ap (λ (was : Bool). was || writes (actions_at e accesses)) (one.written e inside)
          ∙ told_more (is_written old.log.now e) (access.element == e) (is_write access.action)
          (writes (actions_at e accesses))
          ∙ ap (λ (wrote : Bool). is_written old.log.now e || wrote) (writes_here e);
      before = λ e inside. all.before e (omega (arith, inside, count)) ∙ one.before e inside;
      unwritten = λ e inside untold.
          let still : is_written between.log.now e ≡ false =
          (or_parts (is_written between.log.now e) (writes (actions_at e accesses)) (sym (told e inside) ∙ untold)).0 in
          let silent : ((access.element == e) && is_write access.action) ≡ false =
          (or_parts (is_written old.log.now e) ((access.element == e) && is_write access.action)
          (sym (one.written e inside) ∙ still)).1 in
          all.unwritten e (omega (arith, inside, count)) untold
          ∙ ap (λ (maps : MapList). get_or maps.words e 0) one.maps ∙ same_word access old.maps.now.words e silent;
      met = λ before met. elim (cases_Bool between.met) [
        | inl here ↦ met_here old between access accesses one before here
        | inr not_yet ↦ met_later old between access accesses one (all.met not_yet met)
      ];
      first = λ unmet. one.first (all.first unmet);
      unmet = λ unmet e was. elim (cases_eq e access.element) [
        | inl same ↦
            let plain : is_plain_write access.action ≡ true =
            elim (cases_Bool (is_plain_write access.action)) [
              | inl yes_plain ↦ yes_plain
              | inr reads ↦
                  absurd (both_ways (is_written old.log.now e)
                  (ap (λ (k : ℕ). is_written old.log.now k) same ∙ one.unmet (all.first unmet) reads) was)
            ] in
            ap (λ (at : Bool). exposed (cond at (access.action ∷ actions_at e accesses) (actions_at e accesses)))
            (eq-eqb access.element e (sym same)) ∙ ap not plain
        | inr other ↦
            let inside : e < log_elements old.log.now = in_range old.log.now.written.items e was in
            let still : is_written between.log.now e ≡ true =
            one.written e inside
            ∙ or_left (is_written old.log.now e) ((access.element == e) && is_write access.action) was in
            ap (λ (at : Bool). exposed (cond at (access.action ∷ actions_at e accesses) (actions_at e accesses)))
            (ne_eqb access.element e (λ same. other (sym same))) ∙ all.unmet unmet e still
      ];
    }

-- what a list of accesses does to watched maps, each by its effect
pub watched_all : (old new : Watched) (accesses : List Access) → Effects IsWatched old accesses new
    → WatchedAll old accesses new
watched_all old new [] same = subst (λ (last : Watched). WatchedAll old [] last) (sym same) (none_watched old)
watched_all old new (access ∷ accesses) effects =
    more_watched old effects.0 new access accesses effects.1 (watched_all effects.0 new accesses effects.2)
