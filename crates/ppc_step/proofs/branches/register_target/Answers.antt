use Rattle.std.proofs.Common.{arith}
use Rattle.ppc_step.proofs.branches.register_target.Goals as goal

pub returns-in-Bclr : goal.returns-in-Bclr
returns-in-Bclr c = rw c.in-Bclr.is (omega (arith, c.lr.ensures))

pub returns-in-Bcctr : goal.returns-in-Bcctr
returns-in-Bcctr c = rw c.in-Bcctr.is (omega (arith, c.ctr.ensures))
