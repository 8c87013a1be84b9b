use Rattle.machines.specs.Prelude.{host_start}
use Rattle.machines.proofs.laws.host_keeps_calls.Goals as goal

pub returns : goal.returns
returns c = λ ops p answers choices n more. c.keeps_calls.ensures (ops, p) n more answers (host_start p choices)
