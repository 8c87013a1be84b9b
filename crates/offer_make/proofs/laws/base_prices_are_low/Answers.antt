use Rattle.offer_make.proofs.Pricing.{prices-low}
use Rattle.offer_make.proofs.laws.base_prices_are_low.Goals as goal

pub returns : goal.returns
returns c = prices-low c.tiles_are_tiles.ensures c.tiles_are_tiles-2.ensures c.flow_tiles_are_marked.ensures
