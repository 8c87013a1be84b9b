use Rattle.std.proofs.Common.{◌≤◌}
use Rattle.std.specs.List.{All}
use Rattle.word_kit.specs.Prelude.{AreClauses, variable}
use Rattle.sat_tests.proofs.searches.clauses.Given as goal

abbrev pub invariant-loop-numbers : goal.invariant-loop-numbers
invariant-loop-numbers l = record {
  literals : AreClauses l.items.items;
  named : All (λ clause. All (λ literal. variable literal ≤ 123) clause) l.items.items;
}
