use Rattle.runs.proofs.Runs.{keeps_calls}
use Rattle.runs.proofs.law.keeps_calls.Goals as goal

pub returns : goal.returns
returns g c = λ s. keeps_calls (g.M.Machine.step s)
