use Rattle.std.proofs.Common.{◌≡◌, ◌++◌, ◌-◌, ◌≤◌, length}
use Rattle.sat_core.specs.Prelude.{IsGuided, IsRooted, AreLearned, room_for}
use Rattle.sat_core.proofs.solving.solve.Given as goal

abbrev pub invariant-learning : goal.invariant-learning
invariant-learning l = record {
  rooted : IsRooted l.search;
  guided : IsGuided (l.formula.clauses ++ l.search.steps.items) (room_for l.formula.variables) l.guide.levels;
  formula : l.search.formula.now ≡ l.formula;
  learned : AreLearned l.formula.clauses l.search.steps.items;
  within : length l.search.steps.items ≤ l.limit;
}

abbrev pub decreases-learning : goal.decreases-learning
decreases-learning l = l.limit - length l.search.steps.items
