use Rattle.std.proofs.Common.{◌%◌, ◌∙◌, sym, arith}
use Rattle.lane_stamps.{specs.Sites.{half_named}, proofs.BlendLaws.{blended, half_counts}}
use Rattle.lane_stamps.proofs.blending.replaced.Goals as goal

pub returns-clause-whole : goal.returns-clause-whole
returns-clause-whole c = blended (c.args.place % 2) c.args.word c.args.value (omega arith) (omega arith) (omega arith)

pub returns-clause-lower : goal.returns-clause-lower
returns-clause-lower c =
    blended (c.args.place % 2) c.args.word c.args.value (omega arith) (omega arith) (omega arith)
    ∙ sym (half_counts (half_named c.args.place) c.args.word c.args.value)
