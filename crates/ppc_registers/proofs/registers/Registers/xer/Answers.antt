use Rattle.std.proofs.Common.{arith}
use Rattle.ppc_registers.proofs.Holding.{xer_shown}
use Rattle.ppc_registers.proofs.registers.Registers.xer.Goals as goal

pub returns : goal.returns
returns c = xer_shown c.self.inside c.args.self.now c.self.view_is c.self.invariant (omega arith)
