use Rattle.ppc_registers.proofs.Holding.{ctr_shown}
use Rattle.ppc_registers.proofs.registers.Registers.ctr.Goals as goal

pub returns : goal.returns
returns c = ctr_shown c.self.inside c.args.self.now c.self.view_is
