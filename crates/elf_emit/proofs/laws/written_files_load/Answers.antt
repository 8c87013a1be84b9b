use Rattle.elf_emit.proofs.Loads.{written_file_loads}
use Rattle.elf_emit.proofs.laws.written_files_load.Goals as goal

pub returns : goal.returns
returns c = written_file_loads
