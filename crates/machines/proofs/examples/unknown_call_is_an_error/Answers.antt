use Rattle.machines.specs.Prelude.{Exit}
use Rattle.machines.specs.Examples.{unknown_call}
use Rattle.machines.proofs.Small.{ends_at, unknown}
use Rattle.machines.proofs.examples.unknown_call_is_an_error.Goals as goal

pub returns : goal.returns
returns c = ends_at unknown_call 4 (Exit 38) unknown
