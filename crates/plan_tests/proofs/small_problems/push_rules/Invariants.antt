use Rattle.plan_form.specs.Prelude.{IsFull}
use Rattle.plan_tests.proofs.small_problems.push_rules.Given as goal

abbrev pub invariant-loop-number : goal.invariant-loop-number
invariant-loop-number l = IsFull l.problem
