use Rattle.machines.specs.Prelude.{Exit}
use Rattle.machines.specs.Examples.{add_negative}
use Rattle.machines.proofs.Small.{ends_at, added}
use Rattle.machines.proofs.examples.adds_a_negative_number.Goals as goal

pub returns : goal.returns
returns c = ends_at add_negative 5 (Exit 3) added
