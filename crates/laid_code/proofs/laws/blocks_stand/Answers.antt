use Rattle.laid_code.proofs.Carried.{blocks_stand}
use Rattle.laid_code.proofs.laws.blocks_stand.Goals as goal

pub returns : goal.returns
returns c = blocks_stand c.each_is_block.ensures c.each_begins_one.ensures c.move_codes_move.ensures
