-- The bytes of a frame, and which of them are known to be written.
use Rattle.std.proofs.Common.{◌≡◌, ℕ, zero, suc, ◌+◌, ◌-◌, ◌^◌, ◌<◌, ◌≤◌, Bool, true, false, List, [], ◌∷◌, ◌++◌}
use Rattle.std.proofs.Common.{length, take, drop, replicate, map, Option, Some, None, refl, sym, ap, ◌∙◌, subst, arith}
use Rattle.std.specs.{Prelude.{slice_range}, List.{list_all}, Int.{bytes_low_first, byte_at}}
use Rattle.std.proofs.{Math.Nat.{pow-suc}, lemmas.List.{length-replicate, Folds.{drop_split}}}
use Rattle.std.proofs.lemmas.List.{length-take-le, length-drop, length-append, take-append-drop, append_assoc}
use Rattle.bpf_verify_model.specs.Written.{all_written, written_from}
use Rattle.bpf_step_model.specs.{State.{Bytes}, Memory.{with_low_byte, number_of, number_at, written_at}}
use Rattle.bpf_verify_sound.specs.Containment.{IsWritten, AreWritten}

-- a number of n bytes
abbrev pub IsNumberOf : ℕ → Option ℕ → Type 0
IsNumberOf size None = ⊥
IsNumberOf size (Some n) = n < 256 ^ size

split-written : (marks : List Bool) (bytes : Bytes) (k : ℕ) → AreWritten marks bytes
    → AreWritten (take k marks) (take k bytes) × AreWritten (drop k marks) (drop k bytes)
split-written marks bytes zero c = (tt, c)
split-written [] bytes (suc k) c = (tt, tt)
split-written (x ∷ marks) [] (suc k) c = absurd c
split-written (x ∷ marks) (b ∷ bytes) (suc k) c =
    let rest = split-written marks bytes k c.1 in
    ((c.0, rest.0), rest.1)

append-written : (xs ys : List Bool) (bs cs : Bytes) → length xs ≡ length bs → AreWritten xs bs → AreWritten ys cs
    → AreWritten (xs ++ ys) (bs ++ cs)
append-written [] ys [] cs same c d = d
append-written [] ys (b ∷ bs) cs same c d = absurd (omega arith)
append-written (x ∷ xs) ys [] cs same c d = absurd c
append-written (x ∷ xs) ys (b ∷ bs) cs same c d = (c.0, append-written xs ys bs cs (omega arith) c.1 d)

-- one more byte below
low-byte : (byte size : ℕ) (n : Option ℕ) → byte < 256 → IsNumberOf size n
    → IsNumberOf (suc size) (with_low_byte byte n)
low-byte byte size None b h = h
low-byte byte size (Some high) b h = omega (arith, pow-suc 256 size)

-- bytes that are all written are a number
number-of-written : (marks : List Bool) (bytes : Bytes) → length marks ≡ length bytes → AreWritten marks bytes
    → list_all (λ byte. byte) marks ≡ true →
    IsNumberOf (length bytes) (number_of bytes)
number-of-written [] [] same c all = omega arith
number-of-written [] (b ∷ bytes) same c all = absurd (omega arith)
number-of-written (x ∷ marks) [] same c all = absurd c
number-of-written (false ∷ marks) (b ∷ bytes) same c all = absurd cc
number-of-written (true ∷ marks) (None ∷ bytes) same c all = absurd c.0
number-of-written (true ∷ marks) (Some b ∷ bytes) same c all =
    low-byte b (length bytes) (number_of bytes) c.0 (number-of-written marks bytes (omega arith) c.1 all)

length-range : {A : Type 0} (xs : List A) (p size : ℕ) → p + size ≤ length xs → length (slice_range xs p (p + size))
    ≡ size
length-range xs p size h =
    let some : p + size - p ≤ length (drop p xs) = omega (arith, length-drop p xs) in
    length-take-le (p + size - p) (drop p xs) some ∙ omega arith

-- written bytes are written, whatever is known
pub byte-below : (i n : ℕ) → byte_at i n < 256
byte-below zero n = omega arith
byte-below (suc i) n = omega arith

any-written : (x : Bool) (b : ℕ) → b < 256 → IsWritten x (Some b)
any-written true b h = h
any-written false b h = tt

low-written : (marks : List Bool) (i size n : ℕ) → length marks ≤ size
    → AreWritten marks (map Some (bytes_low_first i size n))
low-written [] i size n h = tt
low-written (x ∷ marks) i zero n h = absurd (omega arith)
low-written (x ∷ marks) i (suc size) n h = (
  any-written x (byte_at i n) (byte-below i n),
  low-written marks (suc i) size n (omega arith),
)

pub length-low : (i size n : ℕ) → length (map Some (bytes_low_first i size n)) ≡ size
length-low i zero n = refl
length-low i (suc size) n = ap suc (length-low (suc i) size n)

-- take p, size more and the rest
parts : (marks : List Bool) (p size : ℕ) → p + size ≤ length marks → take p marks ++ slice_range marks p (p + size)
    ++ drop (p + size) marks ≡ marks
parts marks p size h =
    append_assoc (take p marks) (slice_range marks p (p + size)) (drop (p + size) marks)
    ∙ ap (λ (l : List Bool). take p marks ++ l) (sym (drop_split marks p (p + size) (omega arith)))
    ∙ take-append-drop p marks

module _ (marks : List Bool) (bytes : Bytes) (p size : ℕ) (c : AreWritten marks bytes) (h : p + size ≤ length marks)
    (k : p + size ≤ length bytes) where
  -- bytes from a position on that are all written are a number
  pub number-known : all_written marks p size ≡ true → IsNumberOf size (number_at bytes p size)
  number-known all =
      subst (λ (n : ℕ). IsNumberOf n (number_at bytes p size)) (length-range bytes p size k)
      (number-of-written (slice_range marks p (p + size)) (slice_range bytes p (p + size)) (length-range marks p size h
      ∙ sym (length-range bytes p size k))
      (split-written (drop p marks) (drop p bytes) (p + size - p) (split-written marks bytes p c).1).0 all)

  -- some bytes written from a position on
  middle-written : (middle : List Bool) (n : ℕ) → length middle ≡ size
      → AreWritten (take p marks ++ middle ++ drop (p + size) marks) (written_at bytes p size n)
  middle-written middle n same =
      let first : length (take p marks) ≡ length (take p bytes) = omega (
        arith,
        length-take-le p marks (omega arith),
        length-take-le p bytes (omega arith),
      ) in
      let low : length middle ≡ length (map Some (bytes_low_first 0 size n)) = same ∙ sym (length-low 0 size n) in
      append-written (take p marks ++ middle) (drop (p + size) marks) (take p bytes
      ++ map Some (bytes_low_first 0 size n)) (drop (p + size) bytes) (simp length-append (omega (arith, first, low)))
      (append-written (take p marks) middle (take p bytes) (map Some (bytes_low_first 0 size n)) first
      (split-written marks bytes p c).0 (low-written middle 0 size n (omega arith)))
      (split-written marks bytes (p + size) c).1

  -- a write that is known, and one that isn't
  pub write-known : (n : ℕ) → AreWritten (written_from marks p size) (written_at bytes p size n)
  write-known n = middle-written (replicate size true) n (length-replicate size true)

  pub write-unknown : (n : ℕ) → AreWritten marks (written_at bytes p size n)
  write-unknown n = subst (λ (l : List Bool). AreWritten l (written_at bytes p size n)) (parts marks p size h)
      (middle-written (slice_range marks p (p + size)) n (length-range marks p size h))
