use Rattle.bpfspec_serve.proofs.SectionLaws.{line_found, line_missing, newline_stands}
use Rattle.bpfspec_serve.proofs.sections.line_length.Goals as goal

pub returns-in-Some-clause-line : goal.returns-in-Some-clause-line
returns-in-Some-clause-line c = line_found c.args.text.now c.in-Some.newline c.in-Some.ensures

pub returns-in-Some-clause-newline : goal.returns-in-Some-clause-newline
returns-in-Some-clause-newline c = λ _. newline_stands c.args.text.now c.in-Some.newline c.in-Some.ensures

pub returns-in-None-clause-line : goal.returns-in-None-clause-line
returns-in-None-clause-line c = line_missing c.args.text.now c.requires c.in-None.ensures
