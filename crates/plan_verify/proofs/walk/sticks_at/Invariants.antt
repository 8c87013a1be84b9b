use Rattle.plan_verify.proofs.Walks.{IsReached}
use Rattle.plan_verify.proofs.walk.sticks_at.Given as goal

abbrev pub invariant-loop-step : goal.invariant-loop-step
invariant-loop-step l = IsReached l.problem l.steps l.step-index l.stand.left (record { place = l.stand.place; map = l.stand.map })
