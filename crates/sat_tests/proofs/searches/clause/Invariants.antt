use Rattle.std.proofs.Common.{◌≤◌}
use Rattle.std.specs.List.{All}
use Rattle.word_kit.specs.Prelude.{IsLiteral, variable}
use Rattle.sat_tests.proofs.searches.clause.Given as goal

abbrev pub invariant-loop-number : goal.invariant-loop-number
invariant-loop-number l = record {
  literals : All IsLiteral l.literals.items;
  named : All (λ literal. variable literal ≤ 123) l.literals.items;
}
