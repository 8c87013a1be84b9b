-- When a written file agrees with a program.
use Rattle.std.specs.Prelude.{ℕ, List}
use Rattle.machines.specs.Prelude.{Ia32, Program, AgreesWith}
use Rattle.elf_load.specs.Prelude.{IsProgramOf}

-- The file lays out a program for IA-32, and this agrees with the PowerPC program P. A file that is none agrees with nothing.
abbrev pub Agrees : Program → List ℕ → Type 0
Agrees P file = (Q : Program) × IsProgramOf Ia32 file Q × AgreesWith P Q
