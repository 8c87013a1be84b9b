use Rattle.ppc_registers.proofs.Holding.{lr_changes}
use Rattle.ppc_registers.proofs.registers.Registers.put_lr.Goals as goal

pub returns-then-asked : goal.returns-then-asked
returns-then-asked c = rw c.if-asked.true (lr_changes c.self.inside c.args.self.now c.self.view_is c.args.value)
