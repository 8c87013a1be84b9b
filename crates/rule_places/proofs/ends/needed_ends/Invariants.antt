use Rattle.std.proofs.Common.{◌≡◌}
use Rattle.std.specs.List.{All}
use Rattle.window_circuits.specs.Rules.{IsEnd}
use Rattle.rule_places.specs.Ends.{ends_below}
use Rattle.rule_places.proofs.ends.needed_ends.Given as goal

abbrev pub invariant-loop-n : goal.invariant-loop-n
invariant-loop-n l = (l.ends.items ≡ ends_below l.n l.goal) × All IsEnd l.ends.items
