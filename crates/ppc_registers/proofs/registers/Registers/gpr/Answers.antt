use Rattle.ppc_registers.proofs.Holding.{gpr_shown}
use Rattle.ppc_registers.proofs.registers.Registers.gpr.Goals as goal

pub returns : goal.returns
returns c = rw c.from.ensures (gpr_shown c.self.inside c.args.self.now c.self.view_is c.args.g c.requires)
