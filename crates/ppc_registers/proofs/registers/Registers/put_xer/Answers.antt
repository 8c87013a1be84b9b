use Rattle.std.proofs.Common.{refl}
use Rattle.ppc_registers.proofs.Holding.{xer_changes}
use Rattle.ppc_registers.proofs.registers.Registers.put_xer.Goals as goal

pub returns-then-asked : goal.returns-then-asked
returns-then-asked c = rw c.if-asked.true (xer_changes c.self.inside c.args.self.now c.self.view_is c.args.xer _ refl)
