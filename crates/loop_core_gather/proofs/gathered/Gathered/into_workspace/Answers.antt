use Rattle.std.proofs.{Common.{◌≡◌, Some, length, sym, ◌∙◌}, lemmas.List.Elements.{All-pop}}
use Rattle.loop_core_block.specs.{declared.block.Block.{Block as Held}, Blocks.{BlockOf}, Shown.{shown}}
use Rattle.loop_core_gather.proofs.ChoiceLaws.{all_made}
use Rattle.loop_core_gather.proofs.gathered.Gathered.into_workspace.Goals as goal

pub into_workspace-requires-clause-stand : goal.into_workspace-requires-clause-stand
into_workspace-requires-clause-stand c = (c.self.invariant.stand.visits, c.self.invariant.stand.stand)

pub into_workspace-requires-clause-elements : goal.into_workspace-requires-clause-elements
into_workspace-requires-clause-elements c =
    let held = c.self.inside in
    let all = all_made shown (λ (b : BlockOf). length b.copy.start ≡ length held.start.now) held.blocks.items
    c.self.invariant.starts in
    let its = All-pop (λ (b : Held). length (shown b).copy.start ≡ length held.start.now) held.blocks.items
    c.pop.new.self.items (Some c.in_ok-block.block) c.in_ok-block.ensures.items all in
    c.self.invariant.count ∙ sym its.1
