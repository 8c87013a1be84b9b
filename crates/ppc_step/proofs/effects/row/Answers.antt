use Rattle.std.proofs.Common.{false}
use Rattle.ppc_step.proofs.effects.row.Goals as goal

pub returns : goal.returns
returns c = c.in-Ok.ensures.gives.means (λ n. false) tt
