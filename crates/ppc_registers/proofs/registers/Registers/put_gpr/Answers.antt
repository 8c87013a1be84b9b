use Rattle.std.proofs.Common.{arith}
use Rattle.ppc_registers.proofs.Holding.{gpr_changes}
use Rattle.ppc_registers.proofs.registers.Registers.put_gpr.Goals as goal

pub returns : goal.returns
returns c = rw c.from.ensures (gpr_changes c.self.inside c.args.self.now c.self.view_is c.args.g c.args.value c.requires (omega arith))
