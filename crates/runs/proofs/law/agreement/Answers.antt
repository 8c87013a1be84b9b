use Rattle.runs.proofs.Follow.{agrees}
use Rattle.runs.proofs.law.agreement.Goals as goal

pub returns : goal.returns
returns g c = λ s. let i = g.S.Simulation in agrees (i.guest s) (i.host s) (i.IsClean s) (i.Meets s) (i.is_bounded s) (i.advances s)
