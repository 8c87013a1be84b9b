use Rattle.std.proofs.Common.{◌≡◌, map, take}
use Rattle.plan_form.specs.Prelude.{written, text_of}
use Rattle.plan_form.proofs.printing.print.Given as goal

abbrev pub invariant-loop-plan : goal.invariant-loop-plan
invariant-loop-plan l = l.out.items ≡ text_of (map written (take l.plan-index l.plans))
