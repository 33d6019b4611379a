use Rattle.std.{proofs.Common.{take}, specs.List.{AllZip}}
use Rattle.loop_core_gather.specs.Pages.{IsLeftAt}
use Rattle.loop_core_gather.proofs.sharing.left_in_turn.Given as goal

abbrev pub invariant-loop-number : goal.invariant-loop-number
invariant-loop-number l = AllZip (IsLeftAt l.gathered.words) (take l.number-index l.numbers) l.pages.items
