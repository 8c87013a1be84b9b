use Rattle.std.proofs.Common.{rules}
use Rattle.ppc_isa.proofs.LocationSets.{range_next}
use Rattle.ppc_isa.proofs.locs.registers.Goals as goal

pub loop-register-preserved : goal.loop-register-preserved
loop-register-preserved c = record {
  bits = rw c.with-set.ensures.bits (rw (range_next c.loop-register.register 32 c.loop-register-test.true) at c.loop-register.invariant.bits);
  within = search rules;
}
