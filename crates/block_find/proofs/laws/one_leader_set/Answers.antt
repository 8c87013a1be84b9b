use Rattle.block_find.proofs.LeaderSets.{same_leaders}
use Rattle.block_find.proofs.laws.one_leader_set.Goals as goal

pub returns : goal.returns
returns c = same_leaders
