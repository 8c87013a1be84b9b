-- A word of literals is below 2^32 under every assignment.
use Rattle.std.specs.Prelude.{◌≡◌, ℕ, zero, suc, ◌+◌, ◌*◌, ◌^◌, ◌<◌, Bool, true, false, List, slice_index_or}
use Rattle.std.proofs.Common.{arith}
use Rattle.std.proofs.Math.Nat.{pow-suc}
use Rattle.word_kit.specs.Prelude.{one_if, of_bits}
use Rattle.circuit.specs.Literals.{word_value, lit_truth}
use Rattle.circuit.specs.Types.{Lit, Const}

top : (b : Bool) (a p q : ℕ) → a < p → q ≡ p * 2 → a + one_if b * p < q
top true a p q h e = omega arith
top false a p q h e = omega arith

bits_below : (f : ℕ → Bool) (n : ℕ) → of_bits f n < 2 ^ n
unfolding of_bits
bits_below f zero = omega arith
bits_below f (suc n) = top (f n) (of_bits f n) (2 ^ n) (2 ^ suc n) (bits_below f n) (pow-suc 2 n)

pub word_below : (w : List Lit) (v : ℕ → Bool) → word_value 32 w v < 2 ^ 32
unfolding word_value
word_below w v = bits_below (λ k. lit_truth (slice_index_or w k (Const false)) v) 32
