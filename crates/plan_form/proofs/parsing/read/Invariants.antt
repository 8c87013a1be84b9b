use Rattle.std.proofs.Common.{◌+◌, ◌≤◌, length}
use Rattle.line_text.proofs.Reading.{IsRead}
use Rattle.plan_form.specs.Prelude.{state_of}
use Rattle.plan_form.proofs.PlanGrammar.{plans}
use Rattle.plan_form.proofs.parsing.read.Given as goal

abbrev pub invariant-loop-line : goal.invariant-loop-line
invariant-loop-line l = record { whole : IsRead plans l.text l.rest (state_of l.progress) l.n; few : l.n + length l.rest ≤ length l.text + 1 }

abbrev pub decreases-loop-line : goal.decreases-loop-line
decreases-loop-line l = length l.rest
