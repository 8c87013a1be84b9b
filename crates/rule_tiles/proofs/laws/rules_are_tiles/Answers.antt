use Rattle.rule_tiles.proofs.Tiles.{rule_is_tile, rule_is_branch_tile}
use Rattle.rule_tiles.proofs.laws.rules_are_tiles.Goals as goal

pub returns : goal.returns
returns c = record { tile = λ s t. rule_is_tile c.one_instruction.ensures s t; branch = λ s t. rule_is_branch_tile c.one_instruction.ensures s t }
