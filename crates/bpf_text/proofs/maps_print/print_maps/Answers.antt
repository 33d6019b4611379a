use Rattle.std.proofs.Common.{◌≡◌, ℕ, zero, suc, ◌++◌, ◌+◌, ◌<◌, List, [], ◌∷◌, length, drop, get_or, Vec, Global, sym}
use Rattle.std.{proofs.Common.{ap, ◌∙◌, add-one, append_assoc, arith}, specs.String.{string_bytes}}
use Rattle.bpf_text.specs.MapsText.{lists, map_spelling, map_spellings_from}
use Rattle.bpf_text.proofs.maps_print.print_maps.Goals as goal

-- the map at an index, and the maps after it
drop-lists : (maps : List (Vec ℕ Global)) (i : ℕ) (v : Vec ℕ Global) → i < length maps → v ≡ get_or maps i v
    → drop i (lists maps) ≡ v.items ∷ drop (suc i) (lists maps)
drop-lists [] i v lt same = absurd (omega arith)
drop-lists (first ∷ maps) zero v lt same = ap (λ (w : Vec ℕ Global). w.items ∷ lists maps) (sym same)
drop-lists (first ∷ maps) (suc i) v lt same = drop-lists maps i v (omega arith) same

pub loop-number-preserved : goal.loop-number-preserved
loop-number-preserved c =
    let maps = c.args.maps.now in
    let number = c.loop-number.number in
    let values = c.index-maps-number.result.items in
    let out = string_bytes c.loop-number.out in
    let rest = drop (number + 1) (lists maps) in
    let front : drop number (lists maps) ≡ values ∷ rest =
    rw add-one (drop-lists maps number c.index-maps-number.result c.loop-number-test.true c.index-maps-number.is) in
    let added : string_bytes c.print_map.new.out ≡ out ++ map_spelling number values =
    c.in_ok-print_map.ensures ∙ ap (λ vs. out ++ map_spelling number vs) c.deref.ensures.value in
    rw added (append_assoc out (map_spelling number values) (map_spellings_from (number + 1) rest)
    ∙ ap (λ vs. out ++ map_spellings_from number vs) (sym front) ∙ c.loop-number.invariant)
