use Rattle.elf_load.proofs.OneFault.{one_first}
use Rattle.elf_load.proofs.laws.one_fault.Goals as goal

pub returns : goal.returns
returns c = one_first
