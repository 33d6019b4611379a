-- What a block's private fields show.
use Rattle.private_copy.specs.Shown.{copy_of}
use Rattle.loop_core_block.specs.{declared.block.Block.{Block}, Blocks.{BlockOf}}

-- the block
abbrev pub shown : Block → BlockOf
shown b = record {
  number = b.number;
  first = b.first;
  past = b.past;
  broke = b.broke;
  planes = b.planes;
  copy = copy_of b.copy;
}
