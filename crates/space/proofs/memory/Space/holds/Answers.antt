use Rattle.std.proofs.Common.{arith}
use Rattle.space.specs.Memory.{is_permitted}
use Rattle.space.proofs.Addresses.{run_on}
use Rattle.space.proofs.memory.Space.holds.Goals as goal

pub loop-done-preserved : goal.loop-done-preserved
loop-done-preserved c = record {
  within = omega arith;
  given =
      run_on (is_permitted c.args.self.now c.args.writable) 4294967296 c.args.at c.loop-done.done c.run-run.result
      c.run-run.ensures.addresses c.loop-done.invariant.given c.run-run.ensures.given;
}
