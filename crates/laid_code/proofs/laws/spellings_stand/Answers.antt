use Rattle.laid_code.proofs.Decoding.{spelling_stands}
use Rattle.laid_code.proofs.laws.spellings_stand.Goals as goal

pub returns : goal.returns
returns c = spelling_stands
