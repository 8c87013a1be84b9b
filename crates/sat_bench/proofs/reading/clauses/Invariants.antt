use Rattle.std.proofs.Common.{◌≤◌}
use Rattle.std.specs.List.{All}
use Rattle.word_kit.specs.Prelude.{AreClauses, variable}
use Rattle.sat_bench.proofs.reading.clauses.Given as goal

abbrev pub invariant-loop-line : goal.invariant-loop-line
invariant-loop-line l = record {
  literals : AreClauses l.items.items;
  named : All (λ clause. All (λ literal. variable literal ≤ l.variables) clause) l.items.items;
}
