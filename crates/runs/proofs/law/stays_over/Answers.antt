use Rattle.runs.proofs.Runs.{stays_over}
use Rattle.runs.proofs.law.stays_over.Goals as goal

pub returns : goal.returns
returns g c = λ s. stays_over (g.M.Machine.step s)
