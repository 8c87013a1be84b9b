use Rattle.machines.specs.Prelude.{Exit}
use Rattle.machines.specs.Examples.{jump, jump_back}
use Rattle.machines.proofs.Small.{ends_at, jumped, jumped_back}
use Rattle.machines.proofs.examples.branches.Goals as goal

pub returns : goal.returns
returns c = record { forward = ends_at jump 4 (Exit 7) jumped; back = ends_at jump_back 5 (Exit 7) jumped_back }
