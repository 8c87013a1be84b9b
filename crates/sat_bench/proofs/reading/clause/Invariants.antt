use Rattle.std.proofs.Common.{◌≤◌}
use Rattle.std.specs.List.{All}
use Rattle.word_kit.specs.Prelude.{IsLiteral, variable}
use Rattle.sat_bench.proofs.reading.clause.Given as goal

abbrev pub invariant-loop-word : goal.invariant-loop-word
invariant-loop-word l = record {
  literals : All IsLiteral l.literals.items;
  named : All (λ literal. variable literal ≤ l.variables) l.literals.items;
}
