use Rattle.laid_code.proofs.Carried.{entries_are_addresses}
use Rattle.laid_code.proofs.laws.entries_are_addresses.Goals as goal

pub returns : goal.returns
returns c = entries_are_addresses
