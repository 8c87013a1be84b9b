use Rattle.block_find.proofs.Standing.{all_begin_one}
use Rattle.block_find.proofs.laws.each_begins_one.Goals as goal

pub returns : goal.returns
returns c = all_begin_one
