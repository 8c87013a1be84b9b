use Rattle.elf_emit.proofs.Places.{no_stack}
use Rattle.elf_emit.proofs.laws.stack_has_no_bytes.Goals as goal

pub returns : goal.returns
returns c = no_stack
