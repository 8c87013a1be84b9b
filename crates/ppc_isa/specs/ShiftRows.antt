-- Shifts and counts of zeros: Power ISA Book I, 3.3.14 and 3.3.13. An amount of six bits: from 32 on all bits have left.
use Rattle.std.specs.Prelude.{ℕ, zero, suc, ◌-◌, ◌*◌, ◌/◌, ◌%◌, ◌^◌, Bool, cond, not, ◌&&◌, eqb}
use Rattle.word_kit.specs.Prelude.{complement, is_negative, bit_of}
use Rattle.ppc_isa.specs.Effect.{GuestValues, Effect}
use Rattle.ppc_isa.specs.Recording.{with_ca, gives_a}

abbrev pub left_by : ℕ → ℕ → ℕ
left_by s n = s * 2 ^ n % 2 ^ 32

abbrev pub right_by : ℕ → ℕ → ℕ
right_by s n = s / 2 ^ n

-- with copies of the sign: of a negative word, the complement gets zeros
abbrev pub arith_by : ℕ → ℕ → ℕ
arith_by s n = cond (is_negative s) (complement (complement s / 2 ^ n)) (s / 2 ^ n)

-- CA: the word is negative, and shifting it right and left again doesn't give it back
abbrev pub loses_ones : ℕ → ℕ → Bool
loses_ones s n = is_negative s && not (eqb (left_by (arith_by s n) n) s)

abbrev pub shifted_algebraic : Bool → ℕ → GuestValues → Effect
shifted_algebraic records n v = record (gives_a records (arith_by v.s n) v) { xer = with_ca v.xer (loses_ones v.s n) }

-- how many zeros stand before the first 1 of a word whose bits from n on are 0: 31 less the highest place of a 1
unfoldable pub leading_zeros : ℕ → ℕ → ℕ
leading_zeros zero x = 32
leading_zeros (suc n) x = cond (bit_of x n) (31 - n) (leading_zeros n x)
