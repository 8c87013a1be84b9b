use Rattle.upkeep.proofs.Loaded.{loaded_bytes}
use Rattle.upkeep.proofs.laws.loaded_has_bytes.Goals as goal

pub returns : goal.returns
returns c = loaded_bytes
