use Rattle.std.proofs.{Common.{rules, ◌≡◌, ◌+◌, refl, drop}, lemmas.Str.{IsCharBoundary-start}}
use Rattle.bpfspec_serve.proofs.SectionLaws.{left_behind, lines_behind, line_boundary, section_goes_on, text_of_lines}
use Rattle.bpfspec_serve.specs.Sections.{behind_mark, whole_lines}
use Rattle.bpfspec_serve.proofs.sections.part.Goals as goal

pub loop-at-init : goal.loop-at-init
loop-at-init c = record { section = refl; rest = refl; boundary = IsCharBoundary-start c.args.text.now c.utf8.text }

pub loop-at-preserved : goal.loop-at-preserved
loop-at-preserved c =
    let rest = left_behind c.args.text.now c.as_bytes-bytes.result.now c.loop-at.at c.as_bytes-bytes.ensures.value in
    record {
      section = section_goes_on c.args.text.now _ c.loop-at.at c.line_length-length.result rest
          c.line_length-length.ensures.line c.if-is_mark.ensures c.loop-at.invariant.section;
      rest = rw (
        c.loop-at.invariant.rest,
        lines_behind c.args.text.now _ c.loop-at.at c.line_length-length.result rest
            c.line_length-length.ensures.line,
        ← c.if-is_mark.ensures,
      );
      boundary = line_boundary c.args.text.now _ c.loop-at.at c.line_length-length.result c.utf8.text rest
          c.loop-at.invariant.boundary.0 c.line_length-length.ensures.some c.line_length-length.ensures.within
          c.line_length-length.ensures.newline;
    }

pub range_from-requires : goal.range_from-requires
range_from-requires c = λ _.
    let rest = left_behind c.args.text.now c.as_bytes-bytes.result.now c.loop-at.at c.as_bytes-bytes.ensures.value in
    line_boundary c.args.text.now _ c.loop-at.at c.line_length-length.result c.utf8.text rest
    c.loop-at.invariant.boundary.0 c.line_length-length.ensures.some c.line_length-length.ensures.within
    c.line_length-length.ensures.newline

pub returns-then-is_mark-clause-text : goal.returns-then-is_mark-clause-text
returns-then-is_mark-clause-text c =
    let rest = left_behind c.args.text.now c.as_bytes-bytes.result.now c.loop-at.at c.as_bytes-bytes.ensures.value in
    let cut : c.range_from.result.now ≡ drop (c.loop-at.at + c.line_length-length.result) c.args.text.now =
    search rules in
    text_of_lines c.range_from.result.now (behind_mark (whole_lines c.args.text.now)) (rw (
      cut,
      c.loop-at.invariant.rest,
      lines_behind c.args.text.now _ c.loop-at.at c.line_length-length.result rest
          c.line_length-length.ensures.line,
      ← c.if-is_mark.ensures,
    ))
