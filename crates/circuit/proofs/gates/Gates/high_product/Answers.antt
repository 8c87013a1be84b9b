use Rattle.std.proofs.Common.{◌∙◌, sym, true, false}
use Rattle.circuit.specs.Prelude.{ProductHigh}
use Rattle.circuit.proofs.Sharing.{product_apart}
use Rattle.circuit.proofs.gates.Gates.high_product.Goals as goal

pub returns-then-contains-clause-apart : goal.returns-then-contains-clause-apart
returns-then-contains-clause-apart c = product_apart c.args.self.now.nodes.keys (ProductHigh c.args.signed c.args.x c.args.y) true c.args.self.now.shared (sym c.contains.ensures ∙ c.if-contains.true)

pub returns-else-contains-clause-apart : goal.returns-else-contains-clause-apart
returns-else-contains-clause-apart c = product_apart c.args.self.now.nodes.keys (ProductHigh c.args.signed c.args.x c.args.y) false c.args.self.now.shared (sym c.contains.ensures ∙ c.if-contains.false)
