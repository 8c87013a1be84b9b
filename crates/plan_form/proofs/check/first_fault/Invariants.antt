use Rattle.plan_form.specs.Prelude.{values_of, IsSound}
use Rattle.std.proofs.Common.{length}
use Rattle.plan_form.proofs.Faulty.{MovesFound, OffersFound}
use Rattle.plan_form.proofs.check.first_fault.Given as goal

abbrev pub invariant-loop-item : goal.invariant-loop-item
invariant-loop-item l = let values = values_of l.labels in record {
  sound : IsSound l.problem values l.found;
  moves : MovesFound l.problem values l.item-index l.found;
}

abbrev pub invariant-loop-item-2 : goal.invariant-loop-item-2
invariant-loop-item-2 l = let values = values_of l.labels in record {
  sound : IsSound l.problem values l.found;
  moves : MovesFound l.problem values (length l.problem.moves.items) l.found;
  offers : OffersFound l.problem values l.item-index l.found;
}
