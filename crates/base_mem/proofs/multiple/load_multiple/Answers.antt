use Rattle.std.proofs.Common.{arith}
use Rattle.base_mem.proofs.RegisterLoops.{load_further, all_loaded}
use Rattle.base_mem.proofs.multiple.load_multiple.Goals as goal

pub loop-r-preserved : goal.loop-r-preserved
loop-r-preserved c = record { order = omega (arith, c.loop-r.invariant.order); rest = load_further c.loop-r.r c.args.d c.loop-r.made.items c.extend_from_slice.new.self.items c.one_load.result _ c.loop-r-test.true c.one_load.ensures c.in_ok-extend_from_slice.ensures.items c.loop-r.invariant.rest }

pub returns : goal.returns
returns c = all_loaded c.loop-r.r c.args.d c.loop-r.made.items _ c.loop-r-test.false c.loop-r.invariant.rest
