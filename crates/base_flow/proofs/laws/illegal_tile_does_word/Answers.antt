use Rattle.base_flow.proofs.Tiles.{illegal_tile_does_word}
use Rattle.base_flow.proofs.laws.illegal_tile_does_word.Goals as goal

pub returns : goal.returns
returns c = illegal_tile_does_word
