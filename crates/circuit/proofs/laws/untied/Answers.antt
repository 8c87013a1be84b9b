use Rattle.std.proofs.Common.{arith}
use Rattle.circuit.proofs.OneFormula.{satisfies_gates}
use Rattle.circuit.proofs.laws.untied.Goals as goal

pub returns : goal.returns
returns c = λ v. (_, satisfies_gates c.args.gates.now.nodes.keys v c.args.gates.now.ordered (omega arith))
