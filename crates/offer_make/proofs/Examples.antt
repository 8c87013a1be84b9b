-- The definitions of prices compute the examples.
use Rattle.std.proofs.Common.{refl}
use Rattle.base_flow.specs.Prelude.{selection_items, request_items, answer_items, success_items, failure_items, error_items, done_items}
use Rattle.offer_make.specs.Examples.{PricesCompute}

pub prices-compute : PricesCompute
unfolding selection_items request_items answer_items success_items failure_items error_items done_items
prices-compute = record {
  at_home = refl;
  in_register = refl;
  compare = refl;
  branch = refl;
  indirect = refl;
  call = refl;
  illegal = refl;
  drop_live = refl;
  drop_dead = refl;
  take_live = refl;
  take_dead = refl;
  moves = refl;
}
