-- Products and quotients: Power ISA Book I, 3.3.9. Where Book I leaves a quotient undefined it is 0, which is this
-- project's own.
use Rattle.std.specs.Prelude.{ℕ, ◌-◌, ◌/◌, ◌^◌, cond, ◌&&◌, ◌||◌, eqb, int_div}
use Rattle.word_kit.specs.Prelude.{signed, two_complement}

-- the quotient toward 0, and 0 where the divisor is 0 or the quotient would be 2^31
abbrev pub quotient_signed : ℕ → ℕ → ℕ
quotient_signed a b = cond (eqb b 0 || (eqb a (2 ^ 31) && eqb b (2 ^ 32 - 1))) 0 (two_complement 32 (int_div (signed a) (signed b)))

abbrev pub quotient_unsigned : ℕ → ℕ → ℕ
quotient_unsigned a b = cond (eqb b 0) 0 (a / b)
