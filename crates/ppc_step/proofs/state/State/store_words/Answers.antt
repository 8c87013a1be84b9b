use Rattle.std.proofs.Common.{◌≡◌, ◌-◌, ℕ, arith, subst}
use Rattle.machines.specs.Prelude.{rights_of, store_registers}
use Rattle.ppc_step.specs.Prelude.{IsState}
use Rattle.ppc_step.proofs.Many.{next_words, part_inside, none_left}
use Rattle.ppc_step.proofs.state.State.store_words.Goals as goal

pub loop-x-init : goal.loop-x-init
loop-x-init c = record { address = omega arith; words = λ p g is inside. none_left p c.args.self.now g c.args.s c.args.at is }

pub loop-x-preserved : goal.loop-x-preserved
loop-x-preserved c = record {
  address = omega arith;
  words = λ p g is inside.
      next_words p c.store_word.new.self g c.loop-x.x c.args.s c.args.at c.loop-x.address (omega arith) c.loop-x.invariant.address
      (c.store_word.ensures p _ (c.loop-x.invariant.words p g is inside)
      (part_inside (rights_of p).writable c.args.s c.loop-x.x c.args.at c.loop-x.address (omega arith) (omega arith) c.loop-x.invariant.address inside));
}

pub returns : goal.returns
returns c = λ p g is inside.
    let e : c.loop-x.x ≡ 32 = omega arith in
    subst (λ (x : ℕ). IsState p c.loop-x.self (record g { bytes = store_registers (x - c.args.s) c.args.s c.args.at g.locs g.bytes })) e (c.loop-x.invariant.words p g is inside)
