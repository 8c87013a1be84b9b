use Rattle.machines.specs.Prelude.{guest_start}
use Rattle.machines.proofs.laws.guest_stays_over.Goals as goal

pub returns : goal.returns
returns c = λ words p answers n more. c.stays_over.ensures (words, p) n more answers (guest_start p)
