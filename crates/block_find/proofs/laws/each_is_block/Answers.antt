use Rattle.block_find.proofs.Standing.{all_are_blocks}
use Rattle.block_find.proofs.laws.each_is_block.Goals as goal

pub returns : goal.returns
returns c = all_are_blocks
