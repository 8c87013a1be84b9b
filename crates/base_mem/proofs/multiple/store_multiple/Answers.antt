use Rattle.std.proofs.Common.{arith}
use Rattle.base_mem.proofs.RegisterLoops.{store_further, all_stored}
use Rattle.base_mem.proofs.multiple.store_multiple.Goals as goal

pub loop-r-preserved : goal.loop-r-preserved
loop-r-preserved c = record { order = omega (arith, c.loop-r.invariant.order); rest = store_further c.loop-r.r c.args.s c.loop-r.made.items c.extend_from_slice.new.self.items c.one_store.result _ c.loop-r-test.true c.one_store.ensures c.in_ok-extend_from_slice.ensures.items c.loop-r.invariant.rest }

pub returns : goal.returns
returns c = all_stored c.loop-r.r c.args.s c.loop-r.made.items _ c.loop-r-test.false c.loop-r.invariant.rest
