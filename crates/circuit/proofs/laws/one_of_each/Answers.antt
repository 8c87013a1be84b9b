use Rattle.circuit.proofs.Sharing.{one_of_each}
use Rattle.circuit.proofs.laws.one_of_each.Goals as goal

pub returns : goal.returns
returns c = one_of_each c.args.gates.now.nodes.keys c.len-count.ensures.unique c.args.gates.now.shared
