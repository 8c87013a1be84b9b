-- Sums and differences, with their flags: the Intel SDM, volume 2, under ADD, ADC, SUB, SBB, CMP and NEG.
use Rattle.std.specs.Prelude.{ℕ, ◌+◌, Bool, not, ◌&&◌, eqb, ltb}
pub use Rattle.word_kit.specs.Words.{is_negative, same, one_if, sum_word, sum_carries, difference_word}
use Rattle.ia_codec.specs.Effect.{Flags, HostValues, HostEffect, unchanged}

-- CF of a sum is its carry; OF: both terms have the one sign and the sum the other
abbrev pub sum_flags : ℕ → ℕ → Bool → Flags
sum_flags x y c = record {
  cf = sum_carries x y c;
  zf = eqb (sum_word x y c) 0;
  sf = is_negative (sum_word x y c);
  of = same (is_negative x) (is_negative y) && not (same (is_negative (sum_word x y c)) (is_negative x));
}

-- CF of a difference is its borrow; OF: the terms have different signs and the difference has not that of x
abbrev pub difference_flags : ℕ → ℕ → Bool → Flags
difference_flags x y c = record {
  cf = ltb x (y + one_if c);
  zf = eqb (difference_word x y c) 0;
  sf = is_negative (difference_word x y c);
  of = not (same (is_negative x) (is_negative y)) && not (same (is_negative (difference_word x y c)) (is_negative x));
}

-- a result with its flags
abbrev pub gives : ℕ → Flags → HostValues → HostEffect
gives result flags v = record (unchanged v) { result = result; flags = flags }
