-- Bits that move, and the shifts and rotates that this is.
use Rattle.std.proofs.Common.{◌≡◌, ℕ, zero, suc, ◌+◌, ◌-◌, ◌*◌, ◌/◌, ◌%◌, ◌^◌, ◌<◌, ◌≤◌, Bool, true, false, cond, not, ltb, leb, refl, sym, ◌∙◌, ap, arith, add-one}
use Rattle.std.proofs.Math.Decide.{dec_lt}
use Rattle.std.proofs.lemmas.Bool.{lt-ltb}
use Rattle.std.proofs.lemmas.Bool.Decides.{nat_tests}
use Rattle.word_kit.specs.Prelude.{one_if, complement, is_negative, of_bits}
use Rattle.circuit.specs.Prelude.{turned_word, moved_by, Turn, Left, Right, Arith, Rotate}
use Rattle.circuit.proofs.Numbers.{of_bits-ext, of_bits-lt, of_bits-none, of_bits-split, of_bits-mod, of_bits-div, complement_is, shifted_mod, shifted_div}

not_below : (a b : ℕ) → b ≤ a → ltb a b ≡ false
not_below a b h = grind (arith, nat_tests)

take_then : {T : Type 0} (a b : ℕ) (x y : T) → a < b → cond (ltb a b) x y ≡ x
take_then a b x y h = rw (lt-ltb a b h) refl

take_else : {T : Type 0} (a b : ℕ) (x y : T) → b ≤ a → cond (ltb a b) x y ≡ y
take_else a b x y h = rw (not_below a b h) refl

-- Moving twice is moving by the sum.
left_twice : (n m : ℕ) (f : ℕ → Bool) (i : ℕ) → moved_by false Left m (λ j. moved_by false Left n f j) i ≡ moved_by false Left (n + m) f i
left_twice n m f i = elim (dec_lt i m) [
  | yes lt ↦ take_then i m false _ lt ∙ sym (take_then i (n + m) false (f (i - (n + m))) (omega arith))
  | no ge ↦ take_else i m false (moved_by false Left n f (i - m)) (omega arith) ∙ elim (dec_lt (i - m) n) [
    | yes lt ↦ take_then (i - m) n false _ lt ∙ sym (take_then i (n + m) false (f (i - (n + m))) (omega arith))
    | no ge2 ↦ let e : i - m - n ≡ i - (n + m) = omega arith in take_else (i - m) n false (f (i - m - n)) (omega arith) ∙ ap f e ∙ sym (take_else i (n + m) false (f (i - (n + m))) (omega arith))
  ]
]

right_twice : (n m : ℕ) (last : Bool) (f : ℕ → Bool) (i : ℕ) → cond (ltb (i + m) 32) (cond (ltb (i + m + n) 32) (f (i + m + n)) last) last ≡ cond (ltb (i + (n + m)) 32) (f (i + (n + m))) last
right_twice n m last f i = let e : i + m + n ≡ i + (n + m) = omega arith in elim (dec_lt (i + m) 32) [
  | yes lt ↦ take_then (i + m) 32 _ last lt ∙ ap (λ j. cond (ltb j 32) (f j) last) e
  | no ge ↦ take_else (i + m) 32 _ last (omega arith) ∙ sym (take_else (i + (n + m)) 32 (f (i + (n + m))) last (omega arith))
]

arith_last : (n : ℕ) (f : ℕ → Bool) → moved_by false Arith n f 31 ≡ f 31
arith_last zero f = refl
arith_last (suc n) f = take_else (31 + suc n) 32 (f (31 + suc n)) (f 31) (omega arith)

arith_twice : (n m : ℕ) (f : ℕ → Bool) (i : ℕ) → moved_by false Arith m (λ j. moved_by false Arith n f j) i ≡ moved_by false Arith (n + m) f i
arith_twice n m f i = ap (λ b. cond (ltb (i + m) 32) (moved_by false Arith n f (i + m)) b) (arith_last n f) ∙ right_twice n m (f 31) f i

rotate_twice : (n m : ℕ) (f : ℕ → Bool) (i : ℕ) → n + m < 32 → i < 32 → moved_by false Rotate m (λ j. moved_by false Rotate n f j) i ≡ moved_by false Rotate (n + m) f i
rotate_twice n m f i h l = elim (dec_lt i m) [
  | yes lt ↦ let e : i + 32 - m - n ≡ i + 32 - (n + m) = omega arith in
      take_then i m (moved_by false Rotate n f (i + 32 - m)) (moved_by false Rotate n f (i - m)) lt ∙ take_else (i + 32 - m) n (f (i + 32 - m + 32 - n)) (f (i + 32 - m - n)) (omega arith) ∙ ap f e
      ∙ sym (take_then i (n + m) (f (i + 32 - (n + m))) (f (i - (n + m))) (omega arith))
  | no ge ↦ take_else i m (moved_by false Rotate n f (i + 32 - m)) (moved_by false Rotate n f (i - m)) (omega arith) ∙ elim (dec_lt (i - m) n) [
    | yes lt ↦ let e : i - m + 32 - n ≡ i + 32 - (n + m) = omega arith in take_then (i - m) n (f (i - m + 32 - n)) (f (i - m - n)) lt ∙ ap f e ∙ sym (take_then i (n + m) (f (i + 32 - (n + m))) (f (i - (n + m))) (omega arith))
    | no ge2 ↦ let e : i - m - n ≡ i - (n + m) = omega arith in take_else (i - m) n (f (i - m + 32 - n)) (f (i - m - n)) (omega arith) ∙ ap f e ∙ sym (take_else i (n + m) (f (i + 32 - (n + m))) (f (i - (n + m))) (omega arith))
  ]
]

moved_twice : (t : Turn) (n m : ℕ) (f : ℕ → Bool) (i : ℕ) → n + m < 32 → i < 32 → moved_by false t m (λ j. moved_by false t n f j) i ≡ moved_by false t (n + m) f i
moved_twice Left n m f i h l = left_twice n m f i
moved_twice Right n m f i h l = right_twice n m false f i
moved_twice Arith n m f i h l = arith_twice n m f i
moved_twice Rotate n m f i h l = rotate_twice n m f i h l

pub moved_none : (t : Turn) (f : ℕ → Bool) (i : ℕ) → i < 32 → moved_by false t 0 f i ≡ f i
moved_none Left f i h = let e : i - 0 ≡ i = omega arith in take_else i 0 false (f (i - 0)) (omega arith) ∙ ap f e
moved_none Right f i h = let e : i + 0 ≡ i = omega arith in take_then (i + 0) 32 (f (i + 0)) false (omega arith) ∙ ap f e
moved_none Arith f i h = let e : i + 0 ≡ i = omega arith in take_then (i + 0) 32 (f (i + 0)) (f 31) (omega arith) ∙ ap f e
moved_none Rotate f i h = let e : i - 0 ≡ i = omega arith in take_else i 0 (f (i + 32 - 0)) (f (i - 0)) (omega arith) ∙ ap f e

cond_ext : (c b : Bool) (x y z w : Bool) → c ≡ b → (b ≡ true → x ≡ y) → (b ≡ false → z ≡ w) → cond c x z ≡ cond b y w
cond_ext c true x y z w e p q = rw e (p refl)
cond_ext c false x y z w e p q = rw e (q refl)

lt_of : (a b : ℕ) → ltb a b ≡ true → a < b
lt_of a b h = grind (arith, nat_tests, h)

ge_of : (a b : ℕ) → ltb a b ≡ false → b ≤ a
ge_of a b h = grind (arith, nat_tests, h)

moved_ext : (t : Turn) (n : ℕ) (f g : ℕ → Bool) (i : ℕ) → n ≤ 32 → i < 32 → ((j : ℕ) → j < 32 → f j ≡ g j) → moved_by false t n f i ≡ moved_by false t n g i
moved_ext Left n f g i k l h = cond_ext (ltb i n) (ltb i n) false false (f (i - n)) (g (i - n)) refl (λ e. refl) (λ e. h (i - n) (omega arith))
moved_ext Right n f g i k l h = cond_ext (ltb (i + n) 32) (ltb (i + n) 32) (f (i + n)) (g (i + n)) false false refl (λ e. h (i + n) (lt_of (i + n) 32 e)) (λ e. refl)
moved_ext Arith n f g i k l h = cond_ext (ltb (i + n) 32) (ltb (i + n) 32) (f (i + n)) (g (i + n)) (f 31) (g 31) refl (λ e. h (i + n) (lt_of (i + n) 32 e)) (λ e. h 31 (omega arith))
moved_ext Rotate n f g i k l h = cond_ext (ltb i n) (ltb i n) (f (i + 32 - n)) (g (i + 32 - n)) (f (i - n)) (g (i - n)) refl (λ e. let b = lt_of i n e in h (i + 32 - n) (omega (arith, b))) (λ e. h (i - n) (omega arith))

one_more : (b : ℕ → Bool) (k : ℕ) → of_bits b (k + 1) ≡ of_bits b k + one_if (b k) * 2 ^ k
unfolding of_bits
one_more b k = rw add-one refl

stage_of : (c : Bool) (t : Turn) (s m : ℕ) (f w : ℕ → Bool) (i : ℕ) → s + m < 32 → i < 32 → ((j : ℕ) → j < 32 → w j ≡ moved_by false t s f j)
    → cond c (moved_by false t m w i) (w i) ≡ moved_by false t (s + one_if c * m) f i
stage_of true t s m f w i h l e = let z : s + 1 * m ≡ s + m = omega arith in
    moved_ext t m w (λ j. moved_by false t s f j) i (omega arith) l e ∙ moved_twice t s m f i h l ∙ ap (λ n. moved_by false t n f i) (sym z)
stage_of false t s m f w i h l e = let z : s + 0 * m ≡ s = omega arith in e i l ∙ ap (λ n. moved_by false t n f i) (sym z)

pub power_stage : (k : ℕ) → k < 5 → 2 ^ k ≤ 16
power_stage zero h = omega arith
power_stage (suc zero) h = omega arith
power_stage (suc (suc zero)) h = omega arith
power_stage (suc (suc (suc zero))) h = omega arith
power_stage (suc (suc (suc (suc zero)))) h = omega arith
power_stage (suc (suc (suc (suc (suc n))))) h = absurd (omega arith)

-- one more stage: by one more bit of the amount
pub stage : (t : Turn) (b : ℕ → Bool) (k : ℕ) (f w : ℕ → Bool) (i : ℕ) → k < 5 → i < 32 → ((j : ℕ) → j < 32 → w j ≡ moved_by false t (of_bits b k) f j)
    → cond (b k) (moved_by false t (2 ^ k) w i) (w i) ≡ moved_by false t (of_bits b (k + 1)) f i
stage t b k f w i h l e =
    let p = power_stage k h in let q = of_bits-lt b k in
    stage_of (b k) t (of_bits b k) (2 ^ k) f w i (omega arith) l e ∙ ap (λ n. moved_by false t n f i) (sym (one_more b k))

-- What the moves are as numbers.
left_is : (f : ℕ → Bool) (n : ℕ) → n ≤ 32 → of_bits (λ i. moved_by false Left n f i) 32 ≡ of_bits f 32 * 2 ^ n % 2 ^ 32
left_is f n h =
    let e : 32 ≡ n + (32 - n) = omega arith in
    let s = ap (λ m. of_bits (λ i. moved_by false Left n f i) m) e ∙ of_bits-split (λ i. moved_by false Left n f i) n (32 - n) in
    let z = of_bits-none (λ i. moved_by false Left n f i) n (λ k l. take_then k n false (f (k - n)) l) in
    let u = of_bits-ext (λ i. moved_by false Left n f (n + i)) f (32 - n) (λ k l. let d : n + k - n ≡ k = omega arith in take_else (n + k) n false (f (n + k - n)) (omega arith) ∙ ap f d) in
    let m = of_bits-mod f 32 (32 - n) (omega arith) in
    s ∙ rw (z, u, shifted_mod (of_bits f 32) n h, m) (omega arith)

right_is : (f : ℕ → Bool) (n : ℕ) → n ≤ 32 → of_bits (λ i. moved_by false Right n f i) 32 ≡ of_bits f 32 / 2 ^ n
right_is f n h =
    let e : 32 ≡ 32 - n + n = omega arith in
    let s = ap (λ m. of_bits (λ i. moved_by false Right n f i) m) e ∙ of_bits-split (λ i. moved_by false Right n f i) (32 - n) n in
    let z = of_bits-none (λ i. moved_by false Right n f (32 - n + i)) n (λ k l. take_else (32 - n + k + n) 32 (f (32 - n + k + n)) false (omega arith)) in
    let u = of_bits-ext (λ i. moved_by false Right n f i) (λ i. f (n + i)) (32 - n) (λ k l. let d : k + n ≡ n + k = omega arith in take_then (k + n) 32 (f (k + n)) false (omega arith) ∙ ap f d) in
    let q = of_bits-div f 32 n h in
    s ∙ rw (z, u, q) (omega arith)

sign_test : (b : Bool) (a : ℕ) → a < 2 ^ 31 → leb (2 ^ 31) (a + one_if b * 2 ^ 31) ≡ b
sign_test true a h = grind (arith, nat_tests)
sign_test false a h = grind (arith, nat_tests)

pub sign_is : (f : ℕ → Bool) → is_negative (of_bits f 32) ≡ f 31
sign_is f = let e = one_more f 31 in ap (λ x. leb (2 ^ 31) x) e ∙ sign_test (f 31) (of_bits f 31) (of_bits-lt f 31)

not_not : (b : Bool) → not (not b) ≡ b
not_not true = refl
not_not false = refl

not_cond : (c x : Bool) → cond c x true ≡ not (cond c (not x) false)
not_cond true x = sym (not_not x)
not_cond false x = refl

arith_of : (s : Bool) (f : ℕ → Bool) (n : ℕ) → n ≤ 32 → f 31 ≡ s → of_bits (λ i. moved_by false Arith n f i) 32 ≡ cond s (complement (complement (of_bits f 32) / 2 ^ n)) (of_bits f 32 / 2 ^ n)
arith_of false f n h e = of_bits-ext (λ i. moved_by false Arith n f i) (λ i. moved_by false Right n f i) 32 (λ k l. ap (λ b. cond (ltb (k + n) 32) (f (k + n)) b) e) ∙ right_is f n h
arith_of true f n h e =
    of_bits-ext (λ i. moved_by false Arith n f i) (λ i. not (moved_by false Right n (λ j. not (f j)) i)) 32 (λ k l. ap (λ b. cond (ltb (k + n) 32) (f (k + n)) b) e ∙ not_cond (ltb (k + n) 32) (f (k + n)))
    ∙ complement_is (λ i. moved_by false Right n (λ j. not (f j)) i) ∙ ap complement (right_is (λ j. not (f j)) n h ∙ ap (λ x. x / 2 ^ n) (complement_is f))

rotate_is : (f : ℕ → Bool) (n : ℕ) → n ≤ 32 → of_bits (λ i. moved_by false Rotate n f i) 32 ≡ of_bits f 32 * 2 ^ n % 2 ^ 32 + of_bits f 32 * 2 ^ n / 2 ^ 32
rotate_is f n h =
    let e : 32 ≡ n + (32 - n) = omega arith in
    let s = ap (λ m. of_bits (λ i. moved_by false Rotate n f i) m) e ∙ of_bits-split (λ i. moved_by false Rotate n f i) n (32 - n) in
    let z = of_bits-ext (λ i. moved_by false Rotate n f i) (λ i. f (32 - n + i)) n (λ k l. let d : k + 32 - n ≡ 32 - n + k = omega arith in take_then k n (f (k + 32 - n)) (f (k - n)) l ∙ ap f d) in
    let u = of_bits-ext (λ i. moved_by false Rotate n f (n + i)) f (32 - n) (λ k l. let d : n + k - n ≡ k = omega arith in take_else (n + k) n (f (n + k + 32 - n)) (f (n + k - n)) (omega arith) ∙ ap f d) in
    let m = of_bits-mod f 32 (32 - n) (omega arith) in
    let q = of_bits-div f 32 (32 - n) (omega arith) in
    let c : 32 - (32 - n) ≡ n = omega arith in
    let q2 = q ∙ ap (λ j. of_bits (λ i. f (32 - n + i)) j) c in
    s ∙ rw (z, u, shifted_mod (of_bits f 32) n h, shifted_div (of_bits f 32) n h, m, q2) (omega arith)

amount : (b : ℕ → Bool) → of_bits b 5 ≡ of_bits b 32 % 32
amount b = sym (of_bits-mod b 32 5 (omega arith))

turn_is : (t : Turn) (f : ℕ → Bool) (n m : ℕ) → n ≤ 32 → n ≡ m % 32 → of_bits (λ i. moved_by false t n f i) 32 ≡ turned_word t (of_bits f 32) m
turn_is Left f n m h e = left_is f n h ∙ ap (λ k. of_bits f 32 * 2 ^ k % 2 ^ 32) e
turn_is Right f n m h e = right_is f n h ∙ ap (λ k. of_bits f 32 / 2 ^ k) e
turn_is Arith f n m h e = arith_of (is_negative (of_bits f 32)) f n h (sym (sign_is f)) ∙ ap (λ k. cond (is_negative (of_bits f 32)) (complement (complement (of_bits f 32) / 2 ^ k)) (of_bits f 32 / 2 ^ k)) e
turn_is Rotate f n m h e = rotate_is f n h ∙ ap (λ k. of_bits f 32 * 2 ^ k % 2 ^ 32 + of_bits f 32 * 2 ^ k / 2 ^ 32) e

-- five stages are the shift by the low five bits of the amount
pub shift_is : (t : Turn) (f b w : ℕ → Bool) → ((j : ℕ) → j < 32 → w j ≡ moved_by false t (of_bits b 5) f j) → of_bits w 32 ≡ turned_word t (of_bits f 32) (of_bits b 32)
shift_is t f b w h = let l = of_bits-lt b 5 in of_bits-ext w (λ i. moved_by false t (of_bits b 5) f i) 32 h ∙ turn_is t f (of_bits b 5) (of_bits b 32) (omega arith) (amount b)
