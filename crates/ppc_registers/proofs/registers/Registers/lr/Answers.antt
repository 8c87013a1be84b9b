use Rattle.ppc_registers.proofs.Holding.{lr_shown}
use Rattle.ppc_registers.proofs.registers.Registers.lr.Goals as goal

pub returns : goal.returns
returns c = lr_shown c.self.inside c.args.self.now c.self.view_is
