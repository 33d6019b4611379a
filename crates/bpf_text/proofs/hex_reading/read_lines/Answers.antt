use Rattle.std.proofs.{Common.{◌≡◌, ◌++◌, length, sym, ap, ◌∙◌, arith}, lemmas.Result.{err_from_is_err_and}}
use Rattle.bpf_text_lex.{specs.{Words.{words_of}, Refusals.{at_line}}, proofs.RefusalLaws.{bind_fails}}
use Rattle.bpf_text.specs.HexText.{bytes_of_lines, bytes_behind}
use Rattle.bpf_text.proofs.hex_reading.read_lines.Goals as goal

pub returns-in_err-more : goal.returns-in_err-more
unfolding bytes_behind
returns-in_err-more c =
    let p = err_from_is_err_and c.from_residual.result c.from_residual.ensures.1 in
    let before = c.loop-line.bytes.items in
    let line = c.in-Some.line in
    let count : c.len.result ≡ length before = c.len.ensures ∙ c.loop-line.bytes.ok.0 in
    let all = sym c.loop-line.invariant.so_far ∙ ap (bytes_behind before) c.in-Some.ensures.some in
    rw (p.1, p.2, all) (bind_fails c.in_err-more.field-0.0 (at_line line.number (bytes_of_lines (length before)
    (words_of line.content.now))) (λ bytes. bytes_behind (before ++ bytes) c.next.new.self)
    (rw count at c.in_err-more.ensures.meaning))

pub loop-line-preserved : goal.loop-line-preserved
unfolding bytes_behind
loop-line-preserved c =
    let before = c.loop-line.bytes.items in
    let count : c.len.result ≡ length before = c.len.ensures ∙ c.loop-line.bytes.ok.0 in
    let longer : c.extend_from_slice.new.self.items ≡ before ++ c.in_ok-more.more.items =
    c.in_ok-extend_from_slice.ensures.items ∙ ap (λ m. before ++ m) c.deref.ensures.value in
    let so_far = ap (bytes_behind before) (sym c.in-Some.ensures.some) ∙ c.loop-line.invariant.so_far in
    record {
      so_far = rw longer (rw (rw count at c.in_ok-more.ensures.meaning) at so_far);
      room = omega (
        arith,
        c.in_ok-more.ensures.room,
        c.in_ok-extend_from_slice.ensures.len,
        c.deref.ensures.len,
        c.len.ensures,
      );
    }

pub returns : goal.returns
unfolding bytes_behind
returns c = sym c.loop-line.invariant.so_far ∙ ap (bytes_behind c.loop-line.bytes.items) c.in_default.ensures.none
