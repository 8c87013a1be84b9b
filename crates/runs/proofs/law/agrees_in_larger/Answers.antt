use Rattle.runs.proofs.Runs.{agrees_in_larger}
use Rattle.runs.proofs.law.agrees_in_larger.Goals as goal

pub returns : goal.returns
returns g c = λ r s. let t = g.T.TwoSpaces in agrees_in_larger (g.M.Machine.step r) (t.narrow s) (t.wide s) (t.is_narrower s)
