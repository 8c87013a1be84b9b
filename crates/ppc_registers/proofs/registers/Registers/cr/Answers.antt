use Rattle.std.proofs.Common.{arith}
use Rattle.ppc_registers.proofs.Holding.{cr_shown}
use Rattle.ppc_registers.proofs.registers.Registers.cr.Goals as goal

pub returns : goal.returns
returns c = cr_shown c.self.inside c.args.self.now c.self.view_is (omega arith)
