use Rattle.std.proofs.Common.{◌≡◌, [], length}
use Rattle.std.specs.List.{All}
use Rattle.watched_literals.proofs.propagator.Propagator.new.Given as goal

abbrev pub invariant-loop-number : goal.invariant-loop-number
invariant-loop-number l = record {
  rowed : length l.rows.items ≡ l._number;
  empty : All (λ row. row ≡ []) l.rows.items;
}
