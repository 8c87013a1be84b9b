use Rattle.upkeep.proofs.Guests.{guests_stay}
use Rattle.upkeep.proofs.laws.guests_stay_guests.Goals as goal

pub returns : goal.returns
returns c = guests_stay
