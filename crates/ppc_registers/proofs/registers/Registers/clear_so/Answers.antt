use Rattle.std.proofs.Common.{◌*◌, ◌/◌, arith}
use Rattle.machines.specs.Prelude.{without_so}
use Rattle.ppc_registers.specs.Held.{locs_of}
use Rattle.ppc_registers.proofs.Holding.{first_is, first_changes}
use Rattle.ppc_registers.proofs.registers.Registers.clear_so.Goals as goal

pub returns : goal.returns
returns c =
    let is = first_is c.self.inside c.args.self.now c.self.view_is in
    first_changes c.self.inside c.args.self.now c.self.view_is (2 * (c.self.inside.cr / 536870912)) (without_so (locs_of c.args.self.now 34)) _ (omega arith) (omega (arith, is))
