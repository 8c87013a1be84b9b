use Rattle.std.proofs.Common.{◌↔◌, drop}
use Rattle.rule_body.specs.Prelude.{AreRising}
use Rattle.rule_form.proofs.literals.are_rising.Given as goal

abbrev pub invariant-loop-literal : goal.invariant-loop-literal
invariant-loop-literal l = AreRising l.low (drop l.literal-index l.literals) ↔ AreRising 0 l.literals
