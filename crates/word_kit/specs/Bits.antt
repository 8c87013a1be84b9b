-- The bits of words: logic, shifts, rotates, bytes and masks. A place is the exponent of a bit.
use Rattle.std.specs.Prelude.{ℕ, zero, suc, ◌+◌, ◌-◌, ◌*◌, ◌/◌, ◌%◌, ◌^◌, Bool, cond, not, ◌&&◌, ◌||◌, eqb, leb}
use Rattle.word_kit.specs.Words.{one_if, same, complement, is_negative}

-- the bit of a place
abbrev pub bit_of : ℕ → ℕ → Bool
bit_of x place = eqb (x / 2 ^ place % 2) 1

-- the word with the bit of a place replaced
abbrev pub with_bit : ℕ → ℕ → Bool → ℕ
with_bit x place b = x - x / 2 ^ place % 2 * 2 ^ place + one_if b * 2 ^ place

-- the number whose bits at the places below n are these
unfoldable pub of_bits : (ℕ → Bool) → ℕ → ℕ
of_bits bits zero = 0
of_bits bits (suc n) = of_bits bits n + one_if (bits n) * 2 ^ n

-- logic, bit by bit
unfoldable pub word_and : ℕ → ℕ → ℕ
word_and x y = of_bits (λ k. bit_of x k && bit_of y k) 32

unfoldable pub word_or : ℕ → ℕ → ℕ
word_or x y = of_bits (λ k. bit_of x k || bit_of y k) 32

unfoldable pub word_xor : ℕ → ℕ → ℕ
word_xor x y = of_bits (λ k. not (same (bit_of x k) (bit_of y k))) 32

-- Shifts and rotates by the low five bits of a count. Zeros come in.
abbrev pub shifted_left : ℕ → ℕ → ℕ
shifted_left x by = x * 2 ^ (by % 32) % 2 ^ 32

abbrev pub shifted_right : ℕ → ℕ → ℕ
shifted_right x by = x / 2 ^ (by % 32)

-- copies of the sign come in: of a negative word, the complement gets zeros
abbrev pub shifted_arith : ℕ → ℕ → ℕ
shifted_arith x by = cond (is_negative x) (complement (complement x / 2 ^ (by % 32))) (x / 2 ^ (by % 32))

-- to the left: the bits that leave on the left come in on the right
abbrev pub rotated : ℕ → ℕ → ℕ
rotated x by = x * 2 ^ (by % 32) % 2 ^ 32 + x * 2 ^ (by % 32) / 2 ^ 32

-- the byte of a place, 0 being the lowest
abbrev pub byte_of : ℕ → ℕ → ℕ
byte_of x k = x / 2 ^ (8 * k) % 2 ^ 8

-- the word of four low bytes, the highest first
abbrev pub joined : ℕ → ℕ → ℕ → ℕ → ℕ
joined b3 b2 b1 b0 = b3 % 2 ^ 8 * 2 ^ 24 + b2 % 2 ^ 8 * 2 ^ 16 + b1 % 2 ^ 8 * 2 ^ 8 + b0 % 2 ^ 8

-- The bit i of Power ISA Book I, counted from the left, is a one of the mask from bit mb to bit me; where mb is over
-- me, the mask goes on from bit 31 to bit 0 (Book I, 3.3.14).
abbrev pub is_masked : ℕ → ℕ → ℕ → Bool
is_masked mb me i = cond (leb mb me) (leb mb i && leb i me) (leb mb i || leb i me)

unfoldable pub mask : ℕ → ℕ → ℕ
mask mb me = of_bits (λ k. is_masked mb me (31 - k)) 32
