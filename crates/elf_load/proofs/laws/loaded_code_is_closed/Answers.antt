use Rattle.elf_load.proofs.Loaded.{loaded_code_closed}
use Rattle.elf_load.proofs.laws.loaded_code_is_closed.Goals as goal

pub returns : goal.returns
returns c = loaded_code_closed
