use Rattle.circuit.proofs.Fitting.{gates_fit}
use Rattle.circuit.proofs.laws.fits_gates.Goals as goal

pub returns : goal.returns
returns c = gates_fit
