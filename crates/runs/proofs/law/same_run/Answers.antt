use Rattle.runs.proofs.Runs.{same_run}
use Rattle.runs.proofs.law.same_run.Goals as goal

pub returns : goal.returns
returns g c = λ s. let t = g.T.TwoSpaces in same_run (t.narrow s) (t.wide s) (t.is_narrower s)
