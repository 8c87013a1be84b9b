use Rattle.std.proofs.Common.{◌≡◌, map, take}
use Rattle.std.specs.List.{All}
use Rattle.watched_literals.specs.Prelude.{Grown, IsNumbered, behind}
use Rattle.watched_literals.proofs.numbering.Numbering.renumber.Given as goal

abbrev pub invariant-loop-literal : goal.invariant-loop-literal
invariant-loop-literal l = record {
  grown : Grown l.fn.self.variables.keys l.self.variables.keys;
  numbered : All (IsNumbered l.self.variables.keys) l.numbers.items;
  behind_them : map (behind l.self.variables.keys) l.numbers.items ≡ take l.literal-index l.clause;
}
