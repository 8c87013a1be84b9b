use Rattle.rule_tiles.proofs.Tiles.{rule_keeps, rule_branch_keeps}
use Rattle.rule_tiles.proofs.laws.rules_keep_simulation.Goals as goal

pub returns : goal.returns
returns c = record {
  straight = λ s t. rule_keeps s (c.keeps_simulation.ensures.advances s t) (c.rules_are_tiles.ensures.tile s t);
  branch = λ s t. rule_branch_keeps s (c.keeps_simulation.ensures.advances s t) (c.rules_are_tiles.ensures.branch s t);
}
