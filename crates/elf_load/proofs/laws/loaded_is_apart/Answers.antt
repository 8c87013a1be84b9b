use Rattle.elf_load.proofs.Loaded.{loaded_apart}
use Rattle.elf_load.proofs.laws.loaded_is_apart.Goals as goal

pub returns : goal.returns
returns c = loaded_apart
