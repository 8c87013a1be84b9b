use Rattle.std.proofs.Common.{◌≡◌, map, take}
use Rattle.std.specs.List.{All}
use Rattle.watched_literals.specs.Prelude.{Grown, IsNumbered, behind}
use Rattle.watched_literals.proofs.numbering.Numbering.renumber_all.Given as goal

abbrev pub invariant-loop-clause : goal.invariant-loop-clause
invariant-loop-clause l = record {
  grown : Grown l.fn.self.variables.keys l.self.variables.keys;
  numbered : All (λ clause. All (IsNumbered l.self.variables.keys) clause) l.items.items;
  behind_them : map (map (behind l.self.variables.keys)) l.items.items ≡ take l.clause-index l.clauses;
}
