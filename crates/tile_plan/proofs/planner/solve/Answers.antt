use Rattle.tile_plan.proofs.Reaches.{some-plan}
use Rattle.tile_plan.proofs.Certificates.{labels-shaped, labels-certify, labels-least}
use Rattle.tile_plan.proofs.Chosen.{chosen-of}
use Rattle.tile_plan.proofs.planner.solve.Goals as goal

pub returns : goal.returns
returns c =
    let q = c.args.problem.now in
    let full = c.requires.full in
    let first = c.in_ok-steps.ensures in
    let chosen = chosen-of q full.0 full.1 full.2 _ first in
    let labels = c.in_ok-labels.ensures in
    record {
      cost = first.first.cost;
      chosen = chosen;
      shaped = labels-shaped q full.0 full.1 full.2 _ labels;
      labels = labels-least q full.0 full.1 full.2 _ labels;
      certificate = labels-certify q full.0 full.1 full.2 _ labels _ _ chosen;
    }

pub first_walk-requires-clause-some : goal.first_walk-requires-clause-some
first_walk-requires-clause-some c =
    let full = c.requires.full in
    some-plan c.args.problem.now full.0 full.1 full.2
