use Rattle.std.proofs.Common.{arith}
use Rattle.circuit.proofs.Same.{node_same}
use Rattle.circuit.proofs.Kept.{input_made, input_lit, input_held, input_stands}
use Rattle.circuit.specs.contracts.nodes.NodePartialEq.TheImpl.{ghosts}
use Rattle.circuit.proofs.gates.Gates.input.Goals as goal

pub returns-clause-next : goal.returns-clause-next
returns-clause-next c = input_lit c.variable.result _ _ c.variable.ensures.made (input_made ghosts.eq node_same c.args.self.now.nodes.keys _ (omega arith) c.args.self.now.ordered).0

pub returns-clause-held : goal.returns-clause-held
returns-clause-held c = input_held c.variable.result _ _ _ c.variable.ensures.held (input_made ghosts.eq node_same c.args.self.now.nodes.keys _ (omega arith) c.args.self.now.ordered).1

pub returns-clause-stands : goal.returns-clause-stands
returns-clause-stands c = input_stands c.variable.result c.args.self.now.nodes.keys _ (returns-clause-held c)
