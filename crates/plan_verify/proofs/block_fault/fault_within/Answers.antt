use Rattle.std.proofs.Common.{inr, refl}
use Rattle.plan_verify.proofs.block_fault.fault_within.Goals as goal

pub returns-in-Err : goal.returns-in-Err
returns-in-Err c = inr (c.in_default.ensures, inr (c.in_default-miscounted_at.ensures, (c.in-Err.bad, c.in-Err.ensures.first, refl)))
