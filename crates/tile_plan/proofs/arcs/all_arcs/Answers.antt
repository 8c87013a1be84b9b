use Rattle.tile_plan.proofs.Edges.{all-there}
use Rattle.tile_plan.proofs.arcs.all_arcs.Goals as goal

pub returns : goal.returns
returns c = all-there c.args.problem.now _ c.in_ok-add_offers.ensures
