-- Which way a loop call went, in words, and why.
use Rattle.std.specs.{Prelude.{ℕ, ◌==◌, if◌then◌else◌, List, [], ◌++◌, codes}, Fmt.{decimal}}
use Rattle.loop_core_model.specs.declared.verdict.Verdict.{Verdict, TheVariants.{Parallel, Conflict, Refused, InOrder}}
use Rattle.loop_core_split.specs.declared.strategy.{BlocksReason.{BlocksReason}, Strategy.{Strategy}}
use Rattle.loop_core_split.specs.declared.strategy.BlocksReason.TheVariants.{Asked, Lrpd, Work, ReadsWritten}
use Rattle.loop_core_split.specs.declared.strategy.Strategy.TheVariants as strategies

-- the ending of the name of this many things: an s, unless it is one
abbrev pub plural : ℕ → List ℕ
plural count = if count == 1 then [] else codes "s"

-- a number of things of this name
abbrev pub count_text : ℕ → List ℕ → List ℕ
count_text count thing = decimal count ++ codes " " ++ thing ++ plural count

-- what a loop that went by blocks did before: it was watched, if an iteration read what was written
abbrev pub before_blocks : BlocksReason → List ℕ
before_blocks ReadsWritten = codes "watched then "
before_blocks Asked = []
before_blocks Lrpd = []
before_blocks Work = []

-- and what it did after them: if it didn't pass, it was run in order
abbrev pub after_blocks : Verdict → List ℕ
after_blocks Parallel = []
after_blocks (Conflict count least) = codes " then in order"
after_blocks Refused = codes " then in order"
after_blocks InOrder = codes " then in order"

-- a loop whose iterations only reduce: one worker runs it in order
abbrev pub sums_text : ℕ → List ℕ
sums_text workers = if workers == 1 then codes "in order" else codes "sums"

-- the steps of a loop that came out so
abbrev pub steps_text : Strategy → Verdict → List ℕ
steps_text strategies.InOrder verdict = codes "in order"
steps_text (strategies.Sums workers) verdict = sums_text workers
steps_text strategies.Watched verdict = codes "watched"
steps_text (strategies.Blocks blocks workers why) verdict =
    before_blocks why ++ count_text blocks (codes "block") ++ after_blocks verdict

-- how many workers it had
abbrev pub workers_of : Strategy → ℕ
workers_of strategies.InOrder = 1
workers_of (strategies.Sums workers) = workers
workers_of strategies.Watched = 1
workers_of (strategies.Blocks blocks workers why) = workers

-- its steps, and its workers
abbrev pub way_text : Strategy → Verdict → List ℕ
way_text strategy verdict = steps_text strategy verdict ++ codes ", " ++ count_text (workers_of strategy) (codes "worker")

-- why a loop whose iterations only reduce went that way
abbrev pub sums_reason : ℕ → List ℕ
sums_reason workers = if workers == 1 then codes "iterations only reduce elements, several workers don't pay"
    else codes "iterations only reduce elements"

-- why a loop went by blocks
abbrev pub blocks_reason : BlocksReason → List ℕ
blocks_reason Asked = codes "asked for by --way blocks"
blocks_reason Lrpd = codes "judged by the lrpd test"
blocks_reason Work = codes "private copies pay"
blocks_reason ReadsWritten = codes "an iteration read what was written"

-- why a loop went that way
abbrev pub reason_text : Strategy → List ℕ
reason_text strategies.InOrder = codes "asked for"
reason_text (strategies.Sums workers) = sums_reason workers
reason_text strategies.Watched = codes "no iteration read what an earlier one wrote"
reason_text (strategies.Blocks blocks workers why) = blocks_reason why
