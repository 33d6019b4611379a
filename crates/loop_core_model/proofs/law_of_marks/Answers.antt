use Rattle.loop_core_model.proofs.MarkLaws.{marks_tell, first_is_number, marks_merge}
use Rattle.loop_core_model.proofs.law_of_marks.Goals as goal

pub returns-clause-tell : goal.returns-clause-tell
returns-clause-tell c = marks_tell

pub returns-clause-merge : goal.returns-clause-merge
returns-clause-merge c = marks_merge

pub returns-clause-number : goal.returns-clause-number
returns-clause-number c = first_is_number
