use Rattle.std.proofs.Common.{take}
use Rattle.std.specs.List.{AllByRecursion}
use Rattle.rule_body.specs.Prelude.{template_of, IsHostLine}
use Rattle.rule_body.proofs.body.all_fit.Given as goal

abbrev pub invariant-loop-line : goal.invariant-loop-line
invariant-loop-line l = AllByRecursion (IsHostLine (template_of l.goal)) (take l.line-index l.lines)
