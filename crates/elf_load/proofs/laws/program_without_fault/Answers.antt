use Rattle.elf_load.proofs.laws.program_without_fault.Goals as goal

pub returns : goal.returns
returns c = λ kind bytes program rule offset sound fault. sound.passes rule offset fault.fails
