-- Journals that undo one access more.
use Rattle.std.proofs.Common.{◌≡◌, ℕ, ◌<◌, List, [], ◌∷◌, ◌++◌, length, get_or, set, refl, sym, ap, ◌∙◌}
use Rattle.std.{proofs.lemmas.List.{set-set, set-get_or, length-set}, specs.List.{AllByRecursion}}
use Rattle.array_maps.specs.MapList.{MapList}
use Rattle.loop_core_trace.specs.{declared.journal.Note.{Note}, Journals.{unwound, Undoes}}

-- the last is put back first
pub unwound_last : (notes : List Note) (note : Note) (words : List ℕ) → unwound (notes ++ note ∷ []) words
    ≡ unwound notes (set words note.element note.word)
unwound_last [] note words = refl
unwound_last (first ∷ notes) note words = ap (λ (ws : List ℕ). set ws first.element first.word)
    (unwound_last notes note words)

-- of all notes but the last, and of the last
pub all_but_last : {A : Type 0} (P : A → Type 0) (xs : List A) (x : A) → AllByRecursion P (xs ++ x ∷ [])
    → AllByRecursion P xs
all_but_last P [] x all = tt
all_but_last P (first ∷ xs) x all = (all.0, all_but_last P xs x all.1)

pub all_and_last : {A : Type 0} (P : A → Type 0) (xs : List A) (x : A) → AllByRecursion P xs → P x
    → AllByRecursion P (xs ++ x ∷ [])
all_and_last P [] x all last = (last, tt)
all_and_last P (first ∷ xs) x all last = (all.0, all_and_last P xs x all.1 last)

-- an access that was noted
pub undoes_next : (journal : List Note) (maps before after : MapList) (note : Note) (left : ℕ)
    → Undoes journal maps before → note.element < length maps.words →
    note.word ≡ get_or maps.words note.element 0 → after.sizes ≡ maps.sizes → after.words ≡ set maps.words note.element
    left → Undoes (journal ++ note ∷ []) after before
undoes_next journal maps before after note left undoes inside word sizes words =
    let long : length after.words ≡ length maps.words = ap length words ∙ length-set maps.words note.element left in
    record {
      within =
          rw long (all_and_last (λ (n : Note). n.element < length maps.words) journal note undoes.within inside);
      words = unwound_last journal note after.words
          ∙ ap (unwound journal)
          (ap (λ (ws : List ℕ). set ws note.element note.word) words
          ∙ set-set maps.words note.element left note.word
          ∙ ap (set maps.words note.element) word
          ∙ set-get_or maps.words note.element 0)
          ∙ undoes.words;
      sizes = sizes ∙ undoes.sizes;
    }

-- the last note is undone
pub one_undone : (journal rest : List Note) (note : Note) (maps after before : MapList) → journal ≡ rest ++ note ∷ []
    → after ≡ record { sizes = maps.sizes; words = set maps.words note.element note.word } → Undoes journal maps before
    → Undoes rest after before
one_undone journal rest note maps after before is put undoes =
    let words : after.words ≡ set maps.words note.element note.word = ap (λ (m : MapList). m.words) put in
    let long : length after.words ≡ length maps.words =
    ap length words ∙ length-set maps.words note.element note.word in
    record {
      within = rw long (all_but_last (λ (n : Note). n.element < length maps.words) rest note (rw is at undoes.within));
      words = ap (unwound rest) words ∙ sym (unwound_last rest note maps.words)
          ∙ ap (λ (ns : List Note). unwound ns maps.words) (sym is) ∙ undoes.words;
      sizes = ap (λ (m : MapList). m.sizes) put ∙ undoes.sizes;
    }

-- all of them are
pub all_undone : (journal : List Note) (maps before : MapList) → journal ≡ [] → Undoes journal maps before
    → maps ≡ before
all_undone journal maps before none undoes =
    let words : maps.words ≡ before.words = rw none at undoes.words in
    λ i. record { sizes = undoes.sizes i; words = words i }
