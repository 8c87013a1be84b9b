use Rattle.laid_code.proofs.Decoding.{jump_leads}
use Rattle.laid_code.proofs.laws.jumps_lead.Goals as goal

pub returns : goal.returns
returns c = jump_leads
