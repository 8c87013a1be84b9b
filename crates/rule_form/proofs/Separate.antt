-- Words have no separators.
use Rattle.std.proofs.Common.{◌≡◌, ℕ, zero, suc, ◌/◌, ◌%◌, ◌<◌, ◌^◌, ◌++◌, ◌==◌, ◌&&◌, not, List, [], ◌∷◌, get_or, refl, arith, decimal, Bool, true, false, IsTrue}
use Rattle.std.specs.List.{AllByRecursion, join_with_byte, slice_index}
use Rattle.std.specs.Str.Parse.{AllDigits}
use Rattle.std.proofs.lemmas.Fmt.{decimal_is_IsNumeral}
use Rattle.std.proofs.lemmas.Str.Parse.{digit_from_value}
use Rattle.hex.specs.Hex.{encode_lower, encode_with, lower_digits}
use Rattle.line_text.specs.Lines.{IsFree}

-- no byte is a space or a line feed
abbrev pub IsWord : List ℕ → Type 0
IsWord w = IsFree 32 w × IsFree 10 w

abbrev pub is_free : ℕ → List ℕ → Bool
is_free by [] = true
is_free by (b ∷ bs) = not (b == by) && is_free by bs

pub both : (a b : Bool) → IsTrue (a && b) → IsTrue a × IsTrue b
both true b h = (refl, h)
both false b h = absurd (let none : false ≡ true = h in cc)

pub not-true : (b : Bool) → IsTrue (not b) → b ≡ false
not-true true h = absurd (let none : false ≡ true = h in cc)
not-true false h = refl

pub tested : (by : ℕ) (bs : List ℕ) → IsTrue (is_free by bs) → IsFree by bs
tested by [] h = tt
tested by (b ∷ bs) h = let s = both (not (b == by)) (is_free by bs) h in (not-true (b == by) s.0, tested by bs s.1)

-- a literal
pub word : (bs : List ℕ) → IsTrue (is_free 32 bs && is_free 10 bs) → IsWord bs
word bs h = let s = both (is_free 32 bs) (is_free 10 bs) h in (tested 32 bs s.0, tested 10 bs s.1)

other : (b by : ℕ) → by < b → (b == by) ≡ false
other b by h = grind (arith, h)

pub high : (b : ℕ) → 32 < b → ((b == 32) ≡ false) × ((b == 10) ≡ false)
high b h = (other b 32 h, other b 10 (omega (arith, h)))

pub word-cons : (b : ℕ) (bs : List ℕ) → 32 < b → IsWord bs → IsWord (b ∷ bs)
word-cons b bs h w = let k = high b h in ((k.0, w.0), (k.1, w.1))

pub free-append : (by : ℕ) (xs ys : List ℕ) → IsFree by xs → IsFree by ys → IsFree by (xs ++ ys)
free-append by [] ys a b = b
free-append by (x ∷ xs) ys a b = (a.0, free-append by xs ys a.1 b)

digits : (ds : List ℕ) → AllDigits 10 ds → IsWord ds
digits [] d = (tt, tt)
digits (c ∷ cs) d = word-cons c cs (omega (arith, digit_from_value c d.0)) (digits cs d.1)

pub word-decimal : (n : ℕ) → n < 2 ^ 32 → IsWord (decimal n)
word-decimal n small = digits (decimal n) (decimal_is_IsNumeral n (omega (arith, small))).0.1

low_digit : (by i : ℕ) → IsTrue (is_free by (0 ∷ lower_digits)) → (slice_index lower_digits i == by) ≡ false
low_digit by i h = at (lower_digits) i (tested by (0 ∷ lower_digits) h)
  where
    at : (bs : List ℕ) (i : ℕ) → IsFree by (0 ∷ bs) → (get_or bs i 0 == by) ≡ false
    at [] i f = f.0
    at (b ∷ bs) zero f = f.1.0
    at (b ∷ bs) (suc i) f = at bs i (f.0, f.1.1)

-- hexadecimal text, whatever the bytes
pub free-hexadecimal : (by : ℕ) (bs : List ℕ) → IsTrue (is_free by (0 ∷ lower_digits)) → IsFree by (encode_lower bs)
unfolding encode_with
free-hexadecimal by [] h = tt
free-hexadecimal by (b ∷ bs) h = (low_digit by (b / 16) h, (low_digit by (b % 16) h, free-hexadecimal by bs h))

pub word-hexadecimal : (bs : List ℕ) → IsWord (encode_lower bs)
word-hexadecimal bs = (free-hexadecimal 32 bs refl, free-hexadecimal 10 bs refl)

pub word-join : (ws : List (List ℕ)) → AllByRecursion IsWord ws → IsWord (join_with_byte 44 ws)
word-join [] h = (tt, tt)
word-join (w ∷ []) h = h.0
word-join (w ∷ v ∷ ws) h =
    let rest = word-join (v ∷ ws) h.1 in
    (free-append 32 w (44 ∷ join_with_byte 44 (v ∷ ws)) h.0.0 (refl, rest.0), free-append 10 w (44 ∷ join_with_byte 44 (v ∷ ws)) h.0.1 (refl, rest.1))

pub words-free : (ws : List (List ℕ)) → AllByRecursion IsWord ws → AllByRecursion (IsFree 32) ws × AllByRecursion (IsFree 10) ws
words-free [] h = (tt, tt)
words-free (w ∷ ws) h = let rest = words-free ws h.1 in ((h.0.0, rest.0), (h.0.1, rest.1))
