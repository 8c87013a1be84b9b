use Rattle.ppc_registers.proofs.Holding.{cr_changes}
use Rattle.ppc_registers.proofs.registers.Registers.put_cr.Goals as goal

pub returns-then-asked : goal.returns-then-asked
returns-then-asked c = rw c.if-asked.true (cr_changes c.self.inside c.args.self.now c.self.view_is c.args.cr)
