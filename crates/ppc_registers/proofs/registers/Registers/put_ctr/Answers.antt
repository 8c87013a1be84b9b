use Rattle.ppc_registers.proofs.Holding.{ctr_changes}
use Rattle.ppc_registers.proofs.registers.Registers.put_ctr.Goals as goal

pub returns : goal.returns
returns c = ctr_changes c.self.inside c.args.self.now c.self.view_is c.args.value
