-- That a plain word is owned says that it is a word.
use Rattle.std.specs.Prelude.{ℕ, ◌/◌, ◌^◌, ◌<◌, ◌≤◌}
use Rattle.std.proofs.Common.{arith}

pub below_word : (x : ℕ) → x / 2 ^ 32 ≤ 0 → x < 2 ^ 32
below_word x h = omega arith
