use Rattle.std.proofs.{Common.{◌≡◌, ℕ, List, ◌+◌, ◌++◌, ◌∷◌, [], length, sym, ap, ◌∙◌, arith}, lemmas.List.{map_push}}
use Rattle.std.proofs.lemmas.{List.{length-map}, Result.{err_from_is_err_and}}
use Rattle.bpf_text_lex.{specs.{Words.{words_of}, Refusals.{at_line}}, proofs.RefusalLaws.{bind_fails}}
use Rattle.bpf_text.specs.MapsText.{lists, values_read, values_held, maps_behind}
use Rattle.bpf_text.proofs.maps.read_maps.Goals as goal

-- one more map, with its values
values_held-push : (maps : List (List ℕ)) (values : List ℕ) → values_held (maps ++ values ∷ []) ≡ values_held maps
    + length values
values_held-push [] values = omega arith
values_held-push (first ∷ maps) values = let h = values_held-push maps values in omega (arith, h)

pub returns-in_err-values : goal.returns-in_err-values
unfolding maps_behind
returns-in_err-values c =
    let p = err_from_is_err_and c.from_residual.result c.from_residual.ensures.1 in
    let before = lists c.loop-line.maps.items in
    let line = c.in-Some.line in
    let count : c.len.result ≡ length before = c.len.ensures ∙ c.loop-line.maps.ok.0
    ∙ sym (length-map c.loop-line.maps.items _) in
    let all = sym c.loop-line.invariant.so_far ∙ ap (maps_behind before) c.in-Some.ensures.some in
    rw (p.1, p.2, all) (bind_fails c.in_err-values.field-0.0 (at_line line.number (values_read (length before)
    (values_held before) (words_of line.content.now))) (λ values. maps_behind (before ++ values ∷ []) c.next.new.self)
    (rw (count, c.loop-line.invariant.count) at c.in_err-values.ensures.meaning))

pub loop-line-preserved : goal.loop-line-preserved
unfolding maps_behind
loop-line-preserved c =
    let before = lists c.loop-line.maps.items in
    let values = c.in_ok-values.values.items in
    let count : c.len.result ≡ length before = c.len.ensures ∙ c.loop-line.maps.ok.0
    ∙ sym (length-map c.loop-line.maps.items _) in
    let longer : lists c.push.new.self.items ≡ before ++ values ∷ [] = ap lists c.in_ok-push.ensures.items
    ∙ map_push _ c.loop-line.maps.items c.in_ok-values.values in
    let so_far = ap (maps_behind before) (sym c.in-Some.ensures.some) ∙ c.loop-line.invariant.so_far in
    let len : c.len-held.result ≡ length values = c.len-held.ensures ∙ c.in_ok-values.values.ok.0 in
    record {
      so_far = rw longer (rw (rw (count, c.loop-line.invariant.count) at c.in_ok-values.ensures.meaning) at so_far);
      count = rw (longer, values_held-push before values) (omega (arith, c.loop-line.invariant.count, len));
      room = omega (arith, c.in_ok-values.ensures.room, c.len-held.ensures);
    }

pub returns : goal.returns
unfolding maps_behind
returns c = sym c.loop-line.invariant.so_far ∙ ap (maps_behind (lists c.loop-line.maps.items)) c.in_default.ensures.none
