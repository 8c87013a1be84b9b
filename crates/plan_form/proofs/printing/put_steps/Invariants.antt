use Rattle.std.proofs.Common.{◌≡◌, ◌++◌, map, take}
use Rattle.plan_form.specs.Prelude.{Does}
use Rattle.plan_form.proofs.TextPrinted.{lines}
use Rattle.plan_form.proofs.printing.put_steps.Given as goal

abbrev pub invariant-loop-step : goal.invariant-loop-step
invariant-loop-step l = l.out.items ≡ l.fn.out.items ++ lines (map Does (take l.step-index l.steps))
