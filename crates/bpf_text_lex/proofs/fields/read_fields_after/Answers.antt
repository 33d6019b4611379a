use Rattle.std.proofs.Common.{sym, ap, ◌∙◌, arith, Ok}
use Rattle.bpf_text_lex.{specs.Words.{words_of}, proofs.FieldLaws.{fields_small}}
use Rattle.bpf_text_lex.proofs.fields.read_fields_after.Goals as goal

pub narrowed-requires : goal.narrowed-requires
narrowed-requires c k d lt =
    let h = fields_small c.from.result c.args.line (words_of c.in-Some.rest.now) c.deref.result.now
    (c.in_ok-numbers-in-Some.ensures ∙ ap (λ ns. Ok ns) (sym c.deref.ensures.value)) k d lt in
    omega (arith, h, c.from.ensures)
