use Rattle.std.proofs.Common.{refl}
use Rattle.ppc_registers.proofs.registers.Registers.values.Goals as goal

pub returns : goal.returns
returns c = rw (c.value_a.ensures, c.value_b.ensures, c.value_s.ensures, c.cr.ensures, c.xer.ensures, c.lr.ensures, c.ctr.ensures) refl
