use Rattle.std.proofs.Common.{arith}
use Rattle.machines.specs.Prelude.{rights_of}
use Rattle.ppc_step.proofs.Many.{none_below, next_below, all_below, part_inside}
use Rattle.ppc_step.proofs.state.State.load_words.Goals as goal

pub loop-x-init : goal.loop-x-init
loop-x-init c = record { address = omega arith; words = λ p g is inside. none_below p c.args.self.now g c.args.d c.args.at is }

pub loop-x-preserved : goal.loop-x-preserved
loop-x-preserved c = record {
  address = omega arith;
  words = λ p g is inside.
      next_below p c.load_word.new.self g c.loop-x.x c.args.d c.args.at c.loop-x.address (omega arith) c.loop-x.invariant.address
      (c.load_word.ensures p _ (c.loop-x.invariant.words p g is inside)
      (part_inside (rights_of p).held c.args.d c.loop-x.x c.args.at c.loop-x.address (omega arith) (omega arith) c.loop-x.invariant.address inside));
}

pub returns : goal.returns
returns c = λ p g is inside. all_below p c.loop-x.self g c.loop-x.x c.args.d c.args.at (omega arith) (c.loop-x.invariant.words p g is inside)
