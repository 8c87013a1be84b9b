use Rattle.machines.specs.Prelude.{Illegal}
use Rattle.machines.specs.Examples.{no_instruction}
use Rattle.machines.proofs.Small.{ends_at, illegal}
use Rattle.machines.proofs.examples.illegal_word.Goals as goal

pub returns : goal.returns
returns c = ends_at no_instruction 1 Illegal illegal
