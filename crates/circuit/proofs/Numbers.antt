-- Numbers as sums over their bits.
use Rattle.std.proofs.Common.{◌≡◌, ℕ, zero, suc, ◌+◌, ◌-◌, ◌*◌, ◌/◌, ◌%◌, ◌^◌, ◌<◌, ◌≤◌, Bool, true, false, cond, not, eqb, refl, sym, ◌∙◌, ap, arith, mul-le-mul_left}
use Rattle.std.proofs.Math.Nat.{pow-suc, mod-lt, mul-div_cancel, mul-mod_left, mod-eq_of_lt}
use Rattle.std.proofs.Math.Arith.{mod-mul}
use Rattle.std.proofs.Math.Pow.{pow_pos}
use Rattle.std.proofs.lemmas.Nat.{pow-add, div-mul-add, div-add-mod' as div_mod}
use Rattle.std.proofs.lemmas.Bool.Decides.{nat_tests}
use Rattle.word_kit.specs.Prelude.{one_if, complement, bit_of, of_bits}
use Rattle.word_kit.proofs.BitSums.{of_bits-is}

pub of_bits-ext : (f g : ℕ → Bool) (n : ℕ) → ((k : ℕ) → k < n → f k ≡ g k) → of_bits f n ≡ of_bits g n
unfolding of_bits
of_bits-ext f g zero h = refl
of_bits-ext f g (suc n) h = let r = of_bits-ext f g n (λ k l. h k (omega arith)) in rw (r, h n (omega arith)) refl

top : (b : Bool) (a p q : ℕ) → a < p → q ≡ p * 2 → a + one_if b * p < q
top true a p q h e = omega arith
top false a p q h e = omega arith

pub of_bits-lt : (f : ℕ → Bool) (n : ℕ) → of_bits f n < 2 ^ n
unfolding of_bits
of_bits-lt f zero = omega arith
of_bits-lt f (suc n) = top (f n) (of_bits f n) (2 ^ n) (2 ^ suc n) (of_bits-lt f n) (pow-suc 2 n)

pub of_bits-none : (f : ℕ → Bool) (n : ℕ) → ((k : ℕ) → k < n → f k ≡ false) → of_bits f n ≡ 0
unfolding of_bits
of_bits-none f zero h = refl
of_bits-none f (suc n) h = let r = of_bits-none f n (λ k l. h k (omega arith)) in rw (r, h n (omega arith)) (omega arith)

split_step : (b : Bool) (x y p q : ℕ) → x + y * p + one_if b * (q * p) ≡ x + (y + one_if b * q) * p
split_step true x y p q = grind arith
split_step false x y p q = grind arith

pub of_bits-split : (f : ℕ → Bool) (a b : ℕ) → of_bits f (a + b) ≡ of_bits f a + of_bits (λ i. f (a + i)) b * 2 ^ a
unfolding of_bits
of_bits-split f a zero = let z : a + zero ≡ a = omega arith in ap (λ n. of_bits f n) z ∙ omega arith
of_bits-split f a (suc b) =
    let r = of_bits-split f a b in
    let e : a + suc b ≡ suc (a + b) = omega arith in
    let p : 2 ^ (a + b) ≡ 2 ^ b * 2 ^ a = pow-add 2 a b ∙ omega arith in
    ap (λ n. of_bits f n) e ∙ rw (r, p) (split_step (f (a + b)) (of_bits f a) (of_bits (λ i. f (a + i)) b) (2 ^ a) (2 ^ b))

at_sum : (f : ℕ → Bool) (n a b : ℕ) → n ≡ a + b → of_bits f n ≡ of_bits f a + of_bits (λ i. f (a + i)) b * 2 ^ a
at_sum f n a b e = ap (λ m. of_bits f m) e ∙ of_bits-split f a b

low_of : (a b p : ℕ) → a < p → (a + b * p) % p ≡ a
low_of a b p h = let c : a + b * p ≡ b * p + a = omega arith in
    let d : (b * p + a) / p ≡ b = div-mul-add b p a h in
    let m : (b * p + a) / p * p + (b * p + a) % p ≡ b * p + a = div_mod (b * p + a) p in
    let e : (b * p + a) / p * p ≡ b * p = ap (λ q. q * p) d in
    ap (λ x. x % p) c ∙ (omega (arith, m, e))

high_of : (a b p : ℕ) → a < p → (a + b * p) / p ≡ b
high_of a b p h = let c : a + b * p ≡ b * p + a = omega arith in rw c (div-mul-add b p a h)

pub of_bits-mod : (f : ℕ → Bool) (n k : ℕ) → k ≤ n → of_bits f n % 2 ^ k ≡ of_bits f k
of_bits-mod f n k h = let e : n ≡ k + (n - k) = omega arith in
    ap (λ x. x % 2 ^ k) (at_sum f n k (n - k) e) ∙ low_of (of_bits f k) (of_bits (λ i. f (k + i)) (n - k)) (2 ^ k) (of_bits-lt f k)

pub of_bits-div : (f : ℕ → Bool) (n k : ℕ) → k ≤ n → of_bits f n / 2 ^ k ≡ of_bits (λ i. f (k + i)) (n - k)
of_bits-div f n k h = let e : n ≡ k + (n - k) = omega arith in
    ap (λ x. x / 2 ^ k) (at_sum f n k (n - k) e) ∙ high_of (of_bits f k) (of_bits (λ i. f (k + i)) (n - k)) (2 ^ k) (of_bits-lt f k)

not_step : (b : Bool) (x y p q : ℕ) → x + y + 1 ≡ p → q ≡ p * 2 → x + one_if (not b) * p + (y + one_if b * p) + 1 ≡ q
not_step true x y p q h e = omega arith
not_step false x y p q h e = omega arith

pub of_bits-not : (f : ℕ → Bool) (n : ℕ) → of_bits (λ k. not (f k)) n + of_bits f n + 1 ≡ 2 ^ n
unfolding of_bits
of_bits-not f zero = refl
of_bits-not f (suc n) = not_step (f n) (of_bits (λ k. not (f k)) n) (of_bits f n) (2 ^ n) (2 ^ suc n) (of_bits-not f n) (pow-suc 2 n)

one_of : (f : ℕ → Bool) → of_bits f 1 ≡ one_if (f 0)
unfolding of_bits
one_of f = omega arith

test_of : (b : Bool) (x : ℕ) → x ≡ one_if b → eqb x 1 ≡ b
test_of true x h = rw h refl
test_of false x h = rw h refl

pub bit_number : (f : ℕ → Bool) (n k : ℕ) → k < n → of_bits f n / 2 ^ k % 2 ≡ one_if (f k)
bit_number f n k h =
    let d = of_bits-div f n k (omega arith) in
    let m : of_bits (λ i. f (k + i)) (n - k) % 2 ^ 1 ≡ of_bits (λ i. f (k + i)) 1 = of_bits-mod (λ i. f (k + i)) (n - k) 1 (omega arith) in
    let z : k + 0 ≡ k = omega arith in
    rw d (m ∙ one_of (λ i. f (k + i)) ∙ ap (λ j. one_if (f j)) z)

-- the bits of a sum over bits
pub bit_is : (f : ℕ → Bool) (n k : ℕ) → k < n → bit_of (of_bits f n) k ≡ f k
bit_is f n k h = test_of (f k) (of_bits f n / 2 ^ k % 2) (bit_number f n k h)

bit_test : (x : ℕ) → x < 2 → x ≡ one_if (eqb x 1)
bit_test x h = grind (arith, nat_tests)

-- a number is the sum over its bits
pub number_is : (z n : ℕ) → of_bits (λ k. bit_of z k) n ≡ z % 2 ^ n
number_is z n = of_bits-is (λ k. bit_of z k) z n (λ k l. bit_test (z / 2 ^ k % 2) (omega arith))

pub number_below : (z : ℕ) → z < 2 ^ 32 → of_bits (λ k. bit_of z k) 32 ≡ z
number_below z h = number_is z 32 ∙ mod-eq_of_lt h

pub complement_is : (f : ℕ → Bool) → of_bits (λ k. not (f k)) 32 ≡ complement (of_bits f 32)
complement_is f = let e = of_bits-not f 32 in omega (arith, e)

pub choice_is : (s : Bool) (f g : ℕ → Bool) (n : ℕ) → of_bits (λ k. cond s (f k) (g k)) n ≡ cond s (of_bits f n) (of_bits g n)
choice_is true f g n = refl
choice_is false f g n = refl

omega_le : (a m : ℕ) → a < m → a + 1 ≤ m
omega_le a m h = omega arith

mul_mod : (x u m : ℕ) → 0 < u → 0 < m → x * u % (m * u) ≡ x % m * u
mul_mod x u m hu hm =
    let low : x * u % (m * u) ≡ (x * u / u % m) * u + x * u % u = mod-mul (x * u) {m = m} {c = u} hm hu in
    let d : x * u / u ≡ x = mul-div_cancel x hu in
    let z : x * u % u ≡ 0 = mul-mod_left x u in
    rw (low, d, z) (omega arith)

spread : (a m b u : ℕ) → (a * m + b) * u ≡ a * (m * u) + b * u
spread a m b u = grind arith

below_mul : (a m u : ℕ) → a < m → 0 < u → a * u < m * u
below_mul a m u h k = let r : (a + 1) * u ≤ m * u = grind (arith, mul-le-mul_left u (omega_le a m h)) in omega (arith, r)

mul_div : (x u m : ℕ) → 0 < u → 0 < m → x * u / (m * u) ≡ x / m
mul_div x u m hu hm =
    let s : x / m * m + x % m ≡ x = div_mod x m in
    let l : x % m < m = mod-lt x hm in
    let e : x * u ≡ x / m * (m * u) + x % m * u = ap (λ q. q * u) (sym s) ∙ spread (x / m) m (x % m) u in
    ap (λ q. q / (m * u)) e ∙ div-mul-add (x / m) (m * u) (x % m * u) (below_mul (x % m) m u l hu)

two_parts : (k : ℕ) → k ≤ 32 → 2 ^ (32 - k) * 2 ^ k ≡ 2 ^ 32
two_parts k h = let e : 32 - k + k ≡ 32 = omega arith in sym (pow-add 2 (32 - k) k) ∙ ap (λ n. 2 ^ n) e

pub shifted_mod : (x k : ℕ) → k ≤ 32 → x * 2 ^ k % 2 ^ 32 ≡ x % 2 ^ (32 - k) * 2 ^ k
shifted_mod x k h = ap (λ p. x * 2 ^ k % p) (sym (two_parts k h)) ∙ mul_mod x (2 ^ k) (2 ^ (32 - k)) (pow_pos k) (pow_pos (32 - k))

pub shifted_div : (x k : ℕ) → k ≤ 32 → x * 2 ^ k / 2 ^ 32 ≡ x / 2 ^ (32 - k)
shifted_div x k h = ap (λ p. x * 2 ^ k / p) (sym (two_parts k h)) ∙ mul_div x (2 ^ k) (2 ^ (32 - k)) (pow_pos k) (pow_pos (32 - k))
