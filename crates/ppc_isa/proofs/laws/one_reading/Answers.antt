use Rattle.ppc_isa.proofs.Readings.{a_reading, same, if_found}
use Rattle.ppc_isa.proofs.laws.one_reading.Goals as goal

pub returns-clause-exists : goal.returns-clause-exists
returns-clause-exists c = a_reading

pub returns-clause-agree : goal.returns-clause-agree
returns-clause-agree c f g p q w = same w (f w) (g w) (if_found w (f w) (p.found w)) (if_found w (g w) (q.found w)) (p.only w) (q.only w)
