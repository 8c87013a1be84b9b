use Rattle.std.proofs.Common.{refl, arith}
use Rattle.access.proofs.Steps.{no_byte, big_step, fits_next, small_next}
use Rattle.machines.specs.Prelude.{each_byte, load_big}
use Rattle.access.proofs.loads.load_big.Goals as goal

pub loop-k-init : goal.loop-k-init
unfolding each_byte load_big
loop-k-init c = record { small = omega arith; read = λ p bytes keeps. (refl, refl) }

pub returns-in_err-byte : goal.returns-in_err-byte
returns-in_err-byte c = λ p bytes keeps.
    let none = c.in_err-byte.ensures in
    rw (no_byte p bytes c.args.space.now keeps c.args.width c.args.at c.loop-k.k c.loop-k-test.true (cc)) c.from_residual.ensures

pub overflow_mul-value : goal.overflow_mul-value
overflow_mul-value c = omega (arith, fits_next c.loop-k.k c.loop-k.value 0 (omega arith) c.loop-k.invariant.small (omega arith))

pub overflow_add-value : goal.overflow_add-value
overflow_add-value c = omega (arith, fits_next c.loop-k.k c.loop-k.value c.from-in-loop-k.result (omega arith) c.loop-k.invariant.small (omega arith))

pub loop-k-preserved : goal.loop-k-preserved
loop-k-preserved c = record {
  small = small_next c.loop-k.k c.loop-k.value c.from-in-loop-k.result c.loop-k.invariant.small (omega arith);
  read = λ p bytes keeps.
      let some = c.in_ok-byte.ensures in
      big_step p bytes c.args.space.now keeps c.args.at c.loop-k.k c.loop-k.value c.from-in-loop-k.result (c.loop-k.invariant.read p bytes keeps) (cc);
}
