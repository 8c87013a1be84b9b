-- Products and quotients of words.
use Rattle.std.specs.Prelude.{ℕ, ◌+◌, ◌*◌, ◌/◌, ◌%◌, ◌^◌, Bool, cond, not, ◌||◌, eqb, ltb, leb, ℤ, pos, negsuc, ◌*ℤ◌, int_div, int_rem}
use Rattle.word_kit.specs.Words.{signed, signed_in, two_complement}

-- the low word of a product, which doesn't depend on signs
abbrev pub product_low : ℕ → ℕ → ℕ
product_low x y = x * y % 2 ^ 32

-- the high word of the product of 64 bits
abbrev pub product_high : ℕ → ℕ → Bool → ℕ
product_high x y as_signed = cond as_signed (two_complement 64 (signed x *ℤ signed y)) (x * y) / 2 ^ 32

-- the number of 64 bits that two words are
abbrev pub two_words : ℕ → ℕ → ℕ
two_words high low = high * 2 ^ 32 + low

-- a number that a word stands for when it is read as signed
abbrev pub fits_word : ℤ → Bool
fits_word (pos n) = ltb n (2 ^ 31)
fits_word (negsuc n) = ltb n (2 ^ 31)

-- the quotient toward 0 of 64 bits by a word, both read as signed
abbrev pub signed_quotient : ℕ → ℕ → ℕ → ℤ
signed_quotient high low by = int_div (signed_in 64 (two_words high low)) (signed by)

abbrev pub signed_remainder : ℕ → ℕ → ℕ → ℤ
signed_remainder high low by = int_rem (signed_in 64 (two_words high low)) (signed by)

-- the divisor is 0, or the quotient doesn't fit a word
abbrev pub divide_faults : ℕ → ℕ → ℕ → Bool → Bool
divide_faults high low by as_signed = eqb by 0 || cond as_signed (not (fits_word (signed_quotient high low by))) (leb (2 ^ 32) (two_words high low / by))

-- quotient and remainder, and 0 where the division faults
abbrev pub quotient : ℕ → ℕ → ℕ → Bool → ℕ
quotient high low by as_signed = cond (divide_faults high low by as_signed) 0 (cond as_signed (two_complement 32 (signed_quotient high low by)) (two_words high low / by))

abbrev pub remainder : ℕ → ℕ → ℕ → Bool → ℕ
remainder high low by as_signed = cond (divide_faults high low by as_signed) 0 (cond as_signed (two_complement 32 (signed_remainder high low by)) (two_words high low % by))
