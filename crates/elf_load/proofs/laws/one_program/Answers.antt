use Rattle.elf_load.proofs.OneProgram.{one_layout}
use Rattle.elf_load.proofs.laws.one_program.Goals as goal

pub returns : goal.returns
returns c = λ kind bytes first second a b. one_layout kind bytes first second a.laid_out b.laid_out
