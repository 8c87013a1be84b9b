use Rattle.upkeep.proofs.Unwritten.{host_keeps, context_keeps}
use Rattle.upkeep.proofs.laws.host_keeps_unwritten.Goals as goal

pub returns-clause-step : goal.returns-clause-step
returns-clause-step c = host_keeps

pub returns-clause-context : goal.returns-clause-context
returns-clause-context c = context_keeps
