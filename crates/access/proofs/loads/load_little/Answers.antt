use Rattle.std.proofs.Common.{false, arith, ◌-◌}
use Rattle.access.proofs.Steps.{no_byte, little_start, little_step, little_end, fits_next, small_start, small_before}
use Rattle.access.specs.Kept.{is_allowed}
use Rattle.access.proofs.loads.load_little.Goals as goal

pub loop-k-init : goal.loop-k-init
loop-k-init c = record { within = omega arith; small = small_start c.args.width; read = λ p bytes keeps. little_start (is_allowed p false) bytes c.args.width c.args.at }

pub returns-in_err-byte : goal.returns-in_err-byte
returns-in_err-byte c = λ p bytes keeps.
    let none = c.in_err-byte.ensures in
    rw (no_byte p bytes c.args.space.now keeps c.args.width c.args.at (c.loop-k.k - 1) (omega arith) (cc)) c.from_residual.ensures

pub overflow_mul-value : goal.overflow_mul-value
overflow_mul-value c = omega (arith, fits_next (c.args.width - c.loop-k.k) c.loop-k.value 0 (omega arith) c.loop-k.invariant.small (omega arith))

pub overflow_add-value : goal.overflow_add-value
overflow_add-value c = omega (arith, fits_next (c.args.width - c.loop-k.k) c.loop-k.value c.from-in-loop-k.result (omega arith) c.loop-k.invariant.small (omega arith))

pub loop-k-preserved : goal.loop-k-preserved
loop-k-preserved c = record {
  within = omega arith;
  small = small_before c.args.width c.loop-k.k c.loop-k.value c.from-in-loop-k.result (omega arith) c.loop-k.invariant.within c.loop-k.invariant.small (omega arith);
  read = λ p bytes keeps.
      let some = c.in_ok-byte.ensures in
      little_step p bytes c.args.space.now keeps c.args.width c.args.at c.loop-k.k c.loop-k.value c.from-in-loop-k.result (omega arith) c.loop-k.invariant.within (c.loop-k.invariant.read p bytes keeps) (cc);
}

pub returns : goal.returns
returns c = λ p bytes keeps. little_end (is_allowed p false) bytes c.args.width c.args.at c.loop-k.k c.loop-k.value (omega arith) (c.loop-k.invariant.read p bytes keeps)
