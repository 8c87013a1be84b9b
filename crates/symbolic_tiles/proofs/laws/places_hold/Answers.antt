use Rattle.symbolic_tiles.proofs.PlaceLaws.{places_are_read, places_are_written}
use Rattle.symbolic_tiles.proofs.laws.places_hold.Goals as goal

pub returns : goal.returns
returns c = record { read = places_are_read; written = places_are_written }
