-- Laws of the bytes that are known of streams.
use Rattle.std.proofs.Common.{◌≡◌, ℕ, ◌+◌, ◌-◌, ◌≤◌, List, ◌++◌, Option, None, Some, length, take, drop, sym, ap, ◌∙◌}
use Rattle.std.proofs.{Common.{subst, arith, length-drop, length-append, append_assoc}, lemmas.List.{take_all}}
use Rattle.std.proofs.{Math.Seq.{take-add}, KnownBytes.{Appends-trans}}
use Rattle.std.specs.Io.KnownBytes.{Appends, Consumes, Keeps, prepend_known}
use Rattle.bpfspec_output.specs.Streams.{ConsumesAtMost}

-- the rest from i on, cut to its own length
rest_whole : (bs : List ℕ) (i : ℕ) → take (length bs - i) (drop i bs) ≡ drop i bs
rest_whole bs i = take_all (length bs - i) (drop i bs) (grind (arith, length-drop))

-- the first i bytes are written, and then the first n of `bs[i..]`
pub appends_next : (a b c : Option (List ℕ)) (bs : List ℕ) (i n : ℕ) → Appends a b (take i bs)
    → Appends b c (take n (take (length bs - i) (drop i bs))) → Appends a c (take (i + n) bs)
appends_next a b c bs i n first second =
    let joined = take-add i n bs ∙ ap (λ l. take i bs ++ take n l) (sym (rest_whole bs i)) in
    subst (Appends a c) (sym joined) (Appends-trans a b c _ _ first second)

-- bytes that were read, and more that were read after them
consumes_after : (a b c : Option (List ℕ)) (read more : List ℕ) → Keeps a (prepend_known read b) → Consumes b c more
    → Consumes a c (read ++ more)
consumes_after None b c read more kept next = tt
consumes_after (Some x) None c read more kept next = absurd kept
consumes_after (Some x) (Some y) None read more kept next = absurd next
consumes_after (Some x) (Some y) (Some z) read more kept next = sym kept ∙ ap (λ l. read ++ l) next
    ∙ sym (append_assoc read more z)

-- n bytes that were read, and more that were read after them, up to the limit
pub consumes_at_most : (a b c : Option (List ℕ)) (read : List ℕ) (n limit : ℕ) → n ≡ length read → n ≤ limit
    → Keeps a (prepend_known read b) → ConsumesAtMost b c (limit - n) → ConsumesAtMost a c limit
consumes_at_most a b c read n limit counted below kept next =
    let bound : length next.0 ≤ limit - n = next.1 in
    (read ++ next.0, grind (arith, length-append), consumes_after a b c read next.0 kept next.2)
