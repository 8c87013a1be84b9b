use Rattle.elf_emit.proofs.Places.{least_offset}
use Rattle.elf_emit.proofs.laws.offsets_are_least.Goals as goal

pub returns : goal.returns
returns c = least_offset
