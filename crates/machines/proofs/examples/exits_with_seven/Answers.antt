use Rattle.machines.specs.Prelude.{Exit}
use Rattle.machines.specs.Examples.{exit_seven}
use Rattle.machines.proofs.Small.{ends_at, seven}
use Rattle.machines.proofs.examples.exits_with_seven.Goals as goal

pub returns : goal.returns
returns c = ends_at exit_seven 3 (Exit 7) seven
