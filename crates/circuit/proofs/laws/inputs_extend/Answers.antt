use Rattle.circuit.proofs.Extended.{extends}
use Rattle.circuit.proofs.laws.inputs_extend.Goals as goal

pub returns : goal.returns
returns c = λ v. (_, extends c.args.gates.now.nodes.keys v c.args.gates.now.ordered)
