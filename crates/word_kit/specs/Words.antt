-- Words of 32 bits, as whole numbers below 2^32: sums, signs, and the numbers that they stand for.
use Rattle.std.specs.Prelude.{ℕ, ◌+◌, ◌-◌, ◌%◌, ◌^◌, Bool, true, false, cond, not, ltb, leb, ℤ, pos, negsuc, ◌-ℤ◌, int_lt}

-- a number of one bit
abbrev pub one_if : Bool → ℕ
one_if b = cond b 1 0

abbrev pub same : Bool → Bool → Bool
same true b = b
same false b = not b

-- all bits turned over
abbrev pub complement : ℕ → ℕ
complement x = 2 ^ 32 - 1 - x

-- the sign of a word in two's complement
abbrev pub is_negative : ℕ → Bool
is_negative x = leb (2 ^ 31) x

-- the number that so many bits stand for in two's complement
abbrev pub signed_in : ℕ → ℕ → ℤ
signed_in width x = cond (ltb x (2 ^ (width - 1))) (pos x) (pos x -ℤ pos (2 ^ width))

abbrev pub signed : ℕ → ℤ
signed x = signed_in 32 x

-- the bits that stand for a number in two's complement, where so many can
abbrev pub two_complement : ℕ → ℤ → ℕ
two_complement width (pos n) = n
two_complement width (negsuc n) = 2 ^ width - 1 - n

-- a field of `len` bits, extended on the left with copies of its sign (EXTS of Power ISA Book I)
abbrev pub sign_extended : ℕ → ℕ → ℕ
sign_extended len field = cond (ltb field (2 ^ (len - 1))) field (field + (2 ^ 32 - 2 ^ len))

-- x + y + c as a word
abbrev pub sum_word : ℕ → ℕ → Bool → ℕ
sum_word x y c = (x + y + one_if c) % 2 ^ 32

-- whether that sum leaves the word
abbrev pub sum_carries : ℕ → ℕ → Bool → Bool
sum_carries x y c = leb (2 ^ 32) (x + y + one_if c)

-- x - y - c as a word
abbrev pub difference_word : ℕ → ℕ → Bool → ℕ
difference_word x y c = (x + 2 ^ 32 + 2 ^ 32 - (y + one_if c)) % 2 ^ 32

-- x below y, both read as signed or both as they are
abbrev pub is_less : ℕ → ℕ → Bool → Bool
is_less x y as_signed = cond as_signed (int_lt (signed x) (signed y)) (ltb x y)
