use Rattle.circuit.proofs.OneFormula.{one_list}
use Rattle.circuit.proofs.laws.one_formula.Goals as goal

pub returns : goal.returns
returns c = one_list
