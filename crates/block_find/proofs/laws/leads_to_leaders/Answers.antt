use Rattle.block_find.proofs.Standing.{all_lead_to_leaders}
use Rattle.block_find.proofs.laws.leads_to_leaders.Goals as goal

pub returns : goal.returns
returns c = all_lead_to_leaders
