-- What words of literals mean as numbers.
use Rattle.std.proofs.Common.{◌≡◌, ◌≢◌, ℕ, zero, suc, ◌+◌, ◌-◌, ◌*◌, ◌/◌, ◌%◌, ◌^◌, ◌<◌, ◌≤◌, Bool, true, false, cond, not, ◌&&◌, ◌||◌, ltb, leb, List, [], ◌∷◌, ◌++◌, length, refl, sym, ◌∙◌, ap, subst, arith, add-one, get_or, slice_index_or, slice_set, get_or-set_other, get_or-set_same, length-append, mul-le-mul_left, pos, negsuc, int_lt}
use Rattle.std.proofs.lemmas.Grind.{get_or-set_at}
use Rattle.std.proofs.lemmas.Int.{ints}
use Rattle.std.proofs.lemmas.List.{get_or_append_left}
use Rattle.std.proofs.Math.Seq.{get_or-append_seam}
use Rattle.std.proofs.Math.Pow.{split}
use Rattle.std.proofs.Math.Decide.{dec_lt, dec_le}
use Rattle.std.proofs.lemmas.Bool.Decides.{nat_tests}
use Rattle.word_kit.specs.Prelude.{one_if, same, complement, is_negative, signed, is_less, bit_of, with_bit, of_bits, byte_of, joined, word_and, word_or, word_xor}
use Rattle.circuit.specs.Prelude.{lit_truth, lit_reach, word_value, word_reach_below, opposite, at, word_of, lit_bits, not_bits, byte_bits, join_bits, moved_by, moved, top_flipped, stage_made, shift_made, Lit, Const, Var, Turn, Left, Right, Arith, Rotate, turned_word, Node}
use Rattle.circuit.proofs.Numbers.{of_bits-ext, of_bits-none, of_bits-split, of_bits-mod, of_bits-div, bit_is, bit_number, number_below, complement_is, choice_is}
use Rattle.circuit.proofs.Shifts.{sign_is, moved_none, shift_is}
use Rattle.circuit.proofs.Values.{word_value-lt, word_value-below, word_reach-at}

pub word_is : (r : List Lit) (v : ℕ → Bool) (f : ℕ → Bool) → ((k : ℕ) → k < 32 → lit_truth (at r k) v ≡ f k) → word_value 32 r v ≡ of_bits f 32
unfolding word_value
word_is r v f h = of_bits-ext (λ k. lit_truth (at r k) v) f 32 h

pub bit_means : (x : List Lit) (v : ℕ → Bool) (k : ℕ) → k < 32 → lit_truth (slice_index_or x k (Const false)) v ≡ bit_of (word_value 32 x v) k
unfolding word_value
bit_means x v k h = sym (bit_is (λ j. lit_truth (at x j) v) 32 k h)

pub length_word_of : (f : ℕ → Lit) (n : ℕ) → length (word_of f n) ≡ n
unfolding word_of
length_word_of f zero = refl
length_word_of f (suc n) = length-append (word_of f n) (f n ∷ []) ∙ (let r = length_word_of f n in omega (arith, r))

pub at_word_of : (f : ℕ → Lit) (n k : ℕ) → k < n → at (word_of f n) k ≡ f k
unfolding word_of
at_word_of f zero k h = absurd (omega arith)
at_word_of f (suc n) k h = let l = length_word_of f n in elim (dec_lt k n) [
  | yes lt ↦ get_or_append_left (word_of f n) (f n ∷ []) (Const false) k (omega (arith, l, lt)) ∙ at_word_of f n k lt
  | no ge ↦ let e : k ≡ length (word_of f n) = omega (arith, l, ge, h) in let m : length (word_of f n) ≡ k = sym e in
      ap (λ j. get_or (word_of f n ++ f n ∷ []) j (Const false)) e ∙ get_or-append_seam (word_of f n) (f n) [] (Const false) ∙ ap f (sym l ∙ m)
]

pub wired_value : (f : ℕ → Lit) (g : ℕ → Bool) (v : ℕ → Bool) → ((k : ℕ) → k < 32 → lit_truth (f k) v ≡ g k) → word_value 32 (word_of f 32) v ≡ of_bits g 32
wired_value f g v h = word_is (word_of f 32) v g (λ k l. ap (λ q. lit_truth q v) (at_word_of f 32 k l) ∙ h k l)

reach_all : (w : List Lit) (n m : ℕ) → ((k : ℕ) → k < n → lit_reach (at w k) ≤ m) → word_reach_below n w ≤ m
unfolding word_reach_below
reach_all w zero m h = omega arith
reach_all w (suc n) m h = let r = reach_all w n m (λ k l. h k (omega arith)) in let t = h n (omega arith) in omega (arith, r, t)

pub wired_reach : (f : ℕ → Lit) (m : ℕ) → ((k : ℕ) → k < 32 → lit_reach (f k) ≤ m) → word_reach_below 32 (word_of f 32) ≤ m
wired_reach f m h = reach_all (word_of f 32) 32 m (λ k l. subst (λ q. lit_reach q ≤ m) (sym (at_word_of f 32 k l)) (h k l))

not_not : (b : Bool) → b ≡ not (not b)
not_not true = refl
not_not false = refl

pub opposite_truth : (l : Lit) (v : ℕ → Bool) → lit_reach l < 2 ^ 31 → lit_truth (opposite l) v ≡ not (lit_truth l v)
unfolding opposite
opposite_truth (Const b) v h = refl
opposite_truth (Var (pos zero)) v h = absurd (omega arith)
opposite_truth (Var (pos (suc n))) v h = refl
opposite_truth (Var (negsuc n)) v h = not_not (v (suc n))

pub opposite_reach : (l : Lit) → lit_reach l < 2 ^ 31 → lit_reach (opposite l) ≡ lit_reach l
unfolding opposite
opposite_reach (Const b) h = refl
opposite_reach (Var (pos zero)) h = absurd (omega arith)
opposite_reach (Var (pos (suc n))) h = omega arith
opposite_reach (Var (negsuc n)) h = omega arith

-- the number of a literal word
pub lit_means : (x : ℕ) (v : ℕ → Bool) → x < 2 ^ 32 → word_value 32 (word_of (lit_bits x) 32) v ≡ x
lit_means x v h = wired_value (lit_bits x) (λ k. bit_of x k) v (λ k l. refl) ∙ number_below x h

pub lit_owned : (x : ℕ) (m : ℕ) → word_reach_below 32 (word_of (lit_bits x) 32) ≤ m
lit_owned x m = wired_reach (lit_bits x) m (λ k l. omega arith)

-- the complement
pub not_means : (x : List Lit) (v : ℕ → Bool) → word_reach_below 32 x < 2 ^ 31 → word_value 32 (word_of (not_bits x) 32) v ≡ complement (word_value 32 x v)
unfolding word_value
not_means x v h = wired_value (not_bits x) (λ k. not (lit_truth (at x k) v)) v (λ k l. let r = word_reach-at 32 k x l in opposite_truth (at x k) v (omega (arith, r, h))) ∙ complement_is (λ k. lit_truth (at x k) v)

pub not_owned : (x : List Lit) → word_reach_below 32 x < 2 ^ 31 → word_reach_below 32 (word_of (not_bits x) 32) ≤ word_reach_below 32 x
not_owned x h = wired_reach (not_bits x) (word_reach_below 32 x) (λ k l. let r = word_reach-at 32 k x l in let e = opposite_reach (at x k) (omega (arith, r, h)) in omega (arith, r, e))

-- logic and choices
pub and_means : (x y r : List Lit) (v : ℕ → Bool) → ((k : ℕ) → k < 32 → lit_truth (at r k) v ≡ (lit_truth (at x k) v && lit_truth (at y k) v)) → word_value 32 r v ≡ word_and (word_value 32 x v) (word_value 32 y v)
unfolding word_and
and_means x y r v h = word_is r v (λ k. bit_of (word_value 32 x v) k && bit_of (word_value 32 y v) k)
    (λ k l. h k l ∙ ap (λ b. b && lit_truth (at y k) v) (bit_means x v k l) ∙ ap (λ b. bit_of (word_value 32 x v) k && b) (bit_means y v k l))

pub or_means : (x y r : List Lit) (v : ℕ → Bool) → ((k : ℕ) → k < 32 → lit_truth (at r k) v ≡ (lit_truth (at x k) v || lit_truth (at y k) v)) → word_value 32 r v ≡ word_or (word_value 32 x v) (word_value 32 y v)
unfolding word_or
or_means x y r v h = word_is r v (λ k. bit_of (word_value 32 x v) k || bit_of (word_value 32 y v) k)
    (λ k l. h k l ∙ ap (λ b. b || lit_truth (at y k) v) (bit_means x v k l) ∙ ap (λ b. bit_of (word_value 32 x v) k || b) (bit_means y v k l))

pub xor_means : (x y r : List Lit) (v : ℕ → Bool) → ((k : ℕ) → k < 32 → lit_truth (at r k) v ≡ not (same (lit_truth (at x k) v) (lit_truth (at y k) v))) → word_value 32 r v ≡ word_xor (word_value 32 x v) (word_value 32 y v)
unfolding word_xor
xor_means x y r v h = word_is r v (λ k. not (same (bit_of (word_value 32 x v) k) (bit_of (word_value 32 y v) k)))
    (λ k l. h k l ∙ ap (λ b. not (same b (lit_truth (at y k) v))) (bit_means x v k l) ∙ ap (λ b. not (same (bit_of (word_value 32 x v) k) b)) (bit_means y v k l))

pub choice_means : (s : Bool) (x y r : List Lit) (v : ℕ → Bool) → ((k : ℕ) → k < 32 → lit_truth (at r k) v ≡ cond s (lit_truth (at x k) v) (lit_truth (at y k) v)) → word_value 32 r v ≡ cond s (word_value 32 x v) (word_value 32 y v)
unfolding word_value
choice_means s x y r v h = word_is r v (λ k. cond s (lit_truth (at x k) v) (lit_truth (at y k) v)) h ∙ choice_is s (λ k. lit_truth (at x k) v) (λ k. lit_truth (at y k) v) 32

-- bytes
taken : (a b : ℕ) (x y : Bool) → a < b → cond (ltb a b) x y ≡ x
taken a b x y h = grind (arith, nat_tests)

passed : (a b : ℕ) (x y : Bool) → b ≤ a → cond (ltb a b) x y ≡ y
passed a b x y h = grind (arith, nat_tests)

byte_is : (f : ℕ → Bool) (k : ℕ) → k < 4 → of_bits (λ i. cond (ltb i 8) (f (8 * k + i)) false) 32 ≡ byte_of (of_bits f 32) k
byte_is f k h =
    let s = of_bits-split (λ i. cond (ltb i 8) (f (8 * k + i)) false) 8 24 in
    let u = of_bits-ext (λ i. cond (ltb i 8) (f (8 * k + i)) false) (λ i. f (8 * k + i)) 8 (λ i l. taken i 8 (f (8 * k + i)) false l) in
    let z = of_bits-none (λ i. cond (ltb (8 + i) 8) (f (8 * k + (8 + i))) false) 24 (λ i l. passed (8 + i) 8 (f (8 * k + (8 + i))) false (omega arith)) in
    let d = of_bits-div f 32 (8 * k) (omega arith) in
    let m = of_bits-mod (λ i. f (8 * k + i)) (32 - 8 * k) 8 (omega arith) in
    s ∙ rw (u, z, d, m) (omega arith)

lit_cond : (c : Bool) (a b : Lit) (v : ℕ → Bool) → lit_truth (cond c a b) v ≡ cond c (lit_truth a v) (lit_truth b v)
lit_cond true a b v = refl
lit_cond false a b v = refl

pub byte_means : (x : List Lit) (k : ℕ) (v : ℕ → Bool) → k < 4 → word_value 32 (word_of (byte_bits x k) 32) v ≡ byte_of (word_value 32 x v) k
unfolding word_value
byte_means x k v h = wired_value (byte_bits x k) (λ i. cond (ltb i 8) (lit_truth (at x (8 * k + i)) v) false) v (λ i l. lit_cond (ltb i 8) (at x (8 * k + i)) (Const false) v) ∙ byte_is (λ i. lit_truth (at x i) v) k h

reach_cond : (c : Bool) (a b : Lit) (m : ℕ) → (c ≡ true → lit_reach a ≤ m) → (c ≡ false → lit_reach b ≤ m) → lit_reach (cond c a b) ≤ m
reach_cond true a b m p q = p refl
reach_cond false a b m p q = q refl

lt_of : (a b : ℕ) → ltb a b ≡ true → a < b
lt_of a b h = grind (arith, nat_tests, h)

ge_of : (a b : ℕ) → ltb a b ≡ false → b ≤ a
ge_of a b h = grind (arith, nat_tests, h)

pub reach_within : (x : List Lit) (k m : ℕ) → k < 32 → word_reach_below 32 x ≤ m → lit_reach (at x k) ≤ m
reach_within x k m l h = let r = word_reach-at 32 k x l in omega (arith, r, h)

pub byte_owned : (x : List Lit) (k m : ℕ) → k < 4 → word_reach_below 32 x ≤ m → word_reach_below 32 (word_of (byte_bits x k) 32) ≤ m
byte_owned x k m h o = wired_reach (byte_bits x k) m (λ i l. reach_cond (ltb i 8) (at x (8 * k + i)) (Const false) m (λ e. let b = lt_of i 8 e in reach_within x (8 * k + i) m (omega (arith, b)) o) (λ e. omega arith))

four_bytes : ℕ → (ℕ → Bool) → (ℕ → Bool) → (ℕ → Bool) → (ℕ → Bool) → Bool
four_bytes i b3 b2 b1 b0 = cond (ltb i 8) (b0 i) (cond (ltb i 16) (b1 (i - 8)) (cond (ltb i 24) (b2 (i - 16)) (b3 (i - 24))))

join_is : (b3 b2 b1 b0 : ℕ → Bool) → of_bits (λ i. four_bytes i b3 b2 b1 b0) 32 ≡ joined (of_bits b3 32) (of_bits b2 32) (of_bits b1 32) (of_bits b0 32)
unfolding four_bytes
join_is b3 b2 b1 b0 =
    let g : ℕ → Bool = λ i. four_bytes i b3 b2 b1 b0 in
    let s0 = of_bits-split g 8 24 in
    let s1 = of_bits-split (λ i. g (8 + i)) 8 16 in
    let s2 = of_bits-split (λ i. g (8 + (8 + i))) 8 8 in
    let u0 = of_bits-ext g b0 8 (λ i l. taken i 8 (b0 i) _ l) in
    let u1 = of_bits-ext (λ i. g (8 + i)) b1 8 (λ i l. let d : 8 + i - 8 ≡ i = omega arith in passed (8 + i) 8 (b0 (8 + i)) _ (omega arith) ∙ taken (8 + i) 16 (b1 (8 + i - 8)) _ (omega arith) ∙ ap b1 d) in
    let u2 = of_bits-ext (λ i. g (8 + (8 + i))) b2 8 (λ i l. let d : 8 + (8 + i) - 16 ≡ i = omega arith in passed (8 + (8 + i)) 8 (b0 (8 + (8 + i))) _ (omega arith) ∙ passed (8 + (8 + i)) 16 (b1 (8 + (8 + i) - 8)) _ (omega arith) ∙ taken (8 + (8 + i)) 24 (b2 (8 + (8 + i) - 16)) _ (omega arith) ∙ ap b2 d) in
    let u3 = of_bits-ext (λ i. g (8 + (8 + (8 + i)))) b3 8 (λ i l. let d : 8 + (8 + (8 + i)) - 24 ≡ i = omega arith in passed (8 + (8 + (8 + i))) 8 (b0 (8 + (8 + (8 + i)))) _ (omega arith) ∙ passed (8 + (8 + (8 + i))) 16 (b1 (8 + (8 + (8 + i)) - 8)) _ (omega arith) ∙ passed (8 + (8 + (8 + i))) 24 (b2 (8 + (8 + (8 + i)) - 16)) (b3 (8 + (8 + (8 + i)) - 24)) (omega arith) ∙ ap b3 d) in
    let m0 = of_bits-mod b0 32 8 (omega arith) in let m1 = of_bits-mod b1 32 8 (omega arith) in let m2 = of_bits-mod b2 32 8 (omega arith) in let m3 = of_bits-mod b3 32 8 (omega arith) in
    omega (arith, s0, s1, s2, u0, u1, u2, u3, m0, m1, m2, m3)

lit_four : (c d e : Bool) (p q r s : Lit) (v : ℕ → Bool) → lit_truth (cond c p (cond d q (cond e r s))) v ≡ cond c (lit_truth p v) (cond d (lit_truth q v) (cond e (lit_truth r v) (lit_truth s v)))
lit_four true d e p q r s v = refl
lit_four false true e p q r s v = refl
lit_four false false true p q r s v = refl
lit_four false false false p q r s v = refl

pub join_means : (b3 b2 b1 b0 : List Lit) (v : ℕ → Bool) → word_value 32 (word_of (join_bits b3 b2 b1 b0) 32) v ≡ joined (word_value 32 b3 v) (word_value 32 b2 v) (word_value 32 b1 v) (word_value 32 b0 v)
unfolding word_value four_bytes
join_means b3 b2 b1 b0 v = wired_value (join_bits b3 b2 b1 b0) (λ i. four_bytes i (λ k. lit_truth (at b3 k) v) (λ k. lit_truth (at b2 k) v) (λ k. lit_truth (at b1 k) v) (λ k. lit_truth (at b0 k) v)) v
    (λ i l. lit_four (ltb i 8) (ltb i 16) (ltb i 24) (at b0 i) (at b1 (i - 8)) (at b2 (i - 16)) (at b3 (i - 24)) v) ∙ join_is (λ k. lit_truth (at b3 k) v) (λ k. lit_truth (at b2 k) v) (λ k. lit_truth (at b1 k) v) (λ k. lit_truth (at b0 k) v)

pub join_owned : (b3 b2 b1 b0 : List Lit) (m : ℕ) → word_reach_below 32 b3 ≤ m → word_reach_below 32 b2 ≤ m → word_reach_below 32 b1 ≤ m → word_reach_below 32 b0 ≤ m → word_reach_below 32 (word_of (join_bits b3 b2 b1 b0) 32) ≤ m
join_owned b3 b2 b1 b0 m o3 o2 o1 o0 = wired_reach (join_bits b3 b2 b1 b0) m (λ i l. reach_cond (ltb i 8) _ _ m (λ e. reach_within b0 i m l o0) (λ e. reach_cond (ltb i 16) _ _ m (λ f. reach_within b1 (i - 8) m (omega arith) o1) (λ f. reach_cond (ltb i 24) _ _ m (λ g. reach_within b2 (i - 16) m (omega arith) o2) (λ g. reach_within b3 (i - 24) m (omega arith) o3))))

-- moved words
pub moved_truth : (t : Turn) (x : List Lit) (n i : ℕ) (v : ℕ → Bool) → i < 32 → lit_truth (at (moved t x n) i) v ≡ moved_by false t n (λ j. lit_truth (at x j) v) i
moved_truth t x n i v h = ap (λ q. lit_truth q v) (at_word_of (λ j. moved_by (Const false) t n (at x) j) 32 i h) ∙ go t where
  go : (t : Turn) → lit_truth (moved_by (Const false) t n (at x) i) v ≡ moved_by false t n (λ j. lit_truth (at x j) v) i
  go Left = lit_cond (ltb i n) (Const false) (at x (i - n)) v
  go Right = lit_cond (ltb (i + n) 32) (at x (i + n)) (Const false) v
  go Arith = lit_cond (ltb (i + n) 32) (at x (i + n)) (at x 31) v
  go Rotate = lit_cond (ltb i n) (at x (i + 32 - n)) (at x (i - n)) v

moved_lit : (t : Turn) (x : List Lit) (n i m : ℕ) → i < 32 → n ≤ 32 → word_reach_below 32 x ≤ m → lit_reach (moved_by (Const false) t n (at x) i) ≤ m
moved_lit Left x n i m l k o = reach_cond (ltb i n) _ _ m (λ e. omega arith) (λ e. reach_within x (i - n) m (omega arith) o)
moved_lit Right x n i m l k o = reach_cond (ltb (i + n) 32) _ _ m (λ e. reach_within x (i + n) m (lt_of (i + n) 32 e) o) (λ e. omega arith)
moved_lit Arith x n i m l k o = reach_cond (ltb (i + n) 32) _ _ m (λ e. reach_within x (i + n) m (lt_of (i + n) 32 e) o) (λ e. reach_within x 31 m (omega arith) o)
moved_lit Rotate x n i m l k o = reach_cond (ltb i n) _ _ m (λ e. let b = lt_of i n e in reach_within x (i + 32 - n) m (omega (arith, b)) o) (λ e. reach_within x (i - n) m (omega arith) o)

pub moved_owned : (t : Turn) (x : List Lit) (n m : ℕ) → n ≤ 32 → word_reach_below 32 x ≤ m → word_reach_below 32 (moved t x n) ≤ m
moved_owned t x n m k o = wired_reach (λ j. moved_by (Const false) t n (at x) j) m (λ i l. moved_lit t x n i m l k o)

-- one literal replaced
pub word_value-replaced : (n k : ℕ) (w : List Lit) (l : Lit) (v : ℕ → Bool) → k < n → k < length w
    → word_value n (slice_set w k l) v + one_if (lit_truth (slice_index_or w k (Const false)) v) * 2 ^ k ≡ word_value n w v + one_if (lit_truth l v) * 2 ^ k
unfolding word_value of_bits
word_value-replaced zero k w l v h within = absurd (omega arith)
word_value-replaced (suc n) k w l v h within = elim (dec_le n k) [
  | yes le ↦ let e : k ≡ n = omega arith in let r = word_value-below n k w l v (omega arith) in rw (r, ← e, get_or-set_same) (omega arith)
  | no not_le ↦ let r = word_value-replaced n k w l v (omega arith) within in let ne : n ≢ k = omega arith in rw get_or-set_other (omega (arith, r))
]

bit_within : (x k : ℕ) → x / 2 ^ k % 2 * 2 ^ k ≤ x
bit_within x k = let s : x / 2 ^ k * 2 ^ k + x % 2 ^ k ≡ x = split x k in
    let m : x / 2 ^ k % 2 ≤ x / 2 ^ k = omega arith in
    let p : x / 2 ^ k % 2 * 2 ^ k ≤ x / 2 ^ k * 2 ^ k = grind (arith, mul-le-mul_left (2 ^ k) m) in omega arith

value_bit : (w : List Lit) (v : ℕ → Bool) (k : ℕ) → k < 32 → word_value 32 w v / 2 ^ k % 2 ≡ one_if (lit_truth (at w k) v)
unfolding word_value
value_bit w v k h = bit_number (λ j. lit_truth (at w j) v) 32 k h

pub put_means : (k : ℕ) (w : List Lit) (l : Lit) (v : ℕ → Bool) → k < 32 → k < length w → word_value 32 (slice_set w k l) v ≡ with_bit (word_value 32 w v) k (lit_truth l v)
put_means k w l v h within =
    let r = word_value-replaced 32 k w l v h within in
    let b = value_bit w v k h in
    let i = bit_within (word_value 32 w v) k in
    let e : one_if (lit_truth (slice_index_or w k (Const false)) v) * 2 ^ k ≡ word_value 32 w v / 2 ^ k % 2 * 2 ^ k = ap (λ q. q * 2 ^ k) (sym b) in
    omega (arith, r, i, e)

pub put_owned : (n k : ℕ) (w : List Lit) (l : Lit) (m : ℕ) → k < length w → word_reach_below n w ≤ m → lit_reach l ≤ m → word_reach_below n (slice_set w k l) ≤ m
unfolding word_reach_below
put_owned zero k w l m within a b = omega arith
put_owned (suc n) k w l m within a b = let r = put_owned n k w l m within (omega arith) b in
    let other : n ≢ k → word_reach_below (suc n) (slice_set w k l) ≤ m = λ ne. rw get_or-set_other (omega arith) in
    elim (dec_le n k) [
      | yes le ↦ elim (dec_le k n) [
        | yes ge ↦ let g : slice_index_or (slice_set w k l) n (Const false) ≡ l = get_or-set_at w k n l (Const false) (omega arith) within in rw g (omega arith)
        | no not_ge ↦ other (omega arith)
      ]
      | no not_le ↦ other (omega arith)
    ]

-- the one word and the one carry of a sum
pub sum_parts : (s t : ℕ) (c : Bool) → s < 2 ^ 32 → s + one_if c * 2 ^ 32 ≡ t → (s ≡ t % 2 ^ 32) × (c ≡ leb (2 ^ 32) t)
sum_parts s t true h e = (omega arith, grind (arith, nat_tests))
sum_parts s t false h e = (omega arith, grind (arith, nat_tests))

-- x + not y + 1 has no carry where x is below y
pub no_carry : (x y z s : ℕ) (c : Bool) → y < 2 ^ 32 → s < 2 ^ 32 → z ≡ complement y → s + one_if c * 2 ^ 32 ≡ x + z + 1 → not c ≡ ltb x y
no_carry x y z s true hy hs e h = grind (arith, nat_tests)
no_carry x y z s false hy hs e h = grind (arith, nat_tests)

pub ordered_order : (x y p q : ℕ) → x < 2 ^ 32 → y < 2 ^ 32 → p + cond (leb (2 ^ 31) x) (2 ^ 31) 0 ≡ x + cond (leb (2 ^ 31) x) 0 (2 ^ 31) → q + cond (leb (2 ^ 31) y) (2 ^ 31) 0 ≡ y + cond (leb (2 ^ 31) y) 0 (2 ^ 31)
    → ltb p q ≡ int_lt (signed x) (signed y)
ordered_order x y p q hx hy e f = grind (arith, ints, nat_tests)

-- stages of shifts
pub stage_truth : (c b : Bool) (x y p q : Bool) → b ≡ cond c x y → x ≡ p → y ≡ q → b ≡ cond c p q
stage_truth true b x y p q h e f = h ∙ e
stage_truth false b x y p q h e f = h ∙ f

-- the word whose order as it is is that of a signed one
flip_step : (b : Bool) (x p : ℕ) → p + one_if b * 2 ^ 31 ≡ x + one_if (not b) * 2 ^ 31 → p + cond b (2 ^ 31) 0 ≡ x + cond b 0 (2 ^ 31)
flip_step true x p h = omega (arith, h)
flip_step false x p h = omega (arith, h)

pub flipped_value : (x : List Lit) (v : ℕ → Bool) → 31 < length x → word_reach_below 32 x < 2 ^ 31
    → word_value 32 (top_flipped x) v + cond (leb (2 ^ 31) (word_value 32 x v)) (2 ^ 31) 0 ≡ word_value 32 x v + cond (leb (2 ^ 31) (word_value 32 x v)) 0 (2 ^ 31)
unfolding word_value
flipped_value x v w h =
    let r = word_reach-at 32 31 x (omega arith) in
    let t = opposite_truth (at x 31) v (omega (arith, r, h)) in
    let s : is_negative (word_value 32 x v) ≡ lit_truth (at x 31) v = sign_is (λ k. lit_truth (at x k) v) in
    let e = word_value-replaced 32 31 x (opposite (at x 31)) v (omega arith) w in
    let f : word_value 32 (top_flipped x) v + one_if (lit_truth (at x 31) v) * 2 ^ 31 ≡ word_value 32 x v + one_if (not (lit_truth (at x 31) v)) * 2 ^ 31 = e ∙ ap (λ b. word_value 32 x v + one_if b * 2 ^ 31) t in
    subst (λ b. word_value 32 (top_flipped x) v + cond b (2 ^ 31) 0 ≡ word_value 32 x v + cond b 0 (2 ^ 31)) (sym s) (flip_step (lit_truth (at x 31) v) (word_value 32 x v) (word_value 32 (top_flipped x) v) f)

pub flipped_owned : (x : List Lit) → 31 < length x → word_reach_below 32 x < 2 ^ 31 → word_reach_below 32 (top_flipped x) ≤ word_reach_below 32 x
flipped_owned x w h = let r = word_reach-at 32 31 x (omega arith) in let e = opposite_reach (at x 31) (omega (arith, r, h)) in put_owned 32 31 x (opposite (at x 31)) (word_reach_below 32 x) w (omega arith) (omega (arith, e, r))

pub ordered_owned : (signed : Bool) (x : List Lit) → 31 < length x → word_reach_below 32 x < 2 ^ 31 → word_reach_below 32 (cond signed (top_flipped x) x) ≤ word_reach_below 32 x
ordered_owned true x w h = flipped_owned x w h
ordered_owned false x w h = omega arith

ordered_is : (s : Bool) (x y : List Lit) (v : ℕ → Bool) → 31 < length x → 31 < length y → word_reach_below 32 x < 2 ^ 31 → word_reach_below 32 y < 2 ^ 31
    → ltb (word_value 32 (cond s (top_flipped x) x) v) (word_value 32 (cond s (top_flipped y) y) v) ≡ is_less (word_value 32 x v) (word_value 32 y v) s
ordered_is true x y v wx wy hx hy = ordered_order (word_value 32 x v) (word_value 32 y v) (word_value 32 (top_flipped x) v) (word_value 32 (top_flipped y) v) (word_value-lt 32 x v) (word_value-lt 32 y v) (flipped_value x v wx hx) (flipped_value y v wy hy)
ordered_is false x y v wx wy hx hy = refl

-- the carry of the difference, turned over
pub less_is : (s : Bool) (x y p q r : List Lit) (carry out : Lit) (v : ℕ → Bool) → 31 < length x → 31 < length y → word_reach_below 32 x < 2 ^ 31 → word_reach_below 32 y < 2 ^ 31
    → p ≡ cond s (top_flipped x) x → q ≡ word_of (not_bits (cond s (top_flipped y) y)) 32
    → word_value 32 r v + one_if (lit_truth carry v) * 2 ^ 32 ≡ word_value 32 p v + word_value 32 q v + 1 → lit_truth out v ≡ not (lit_truth carry v)
    → lit_truth out v ≡ is_less (word_value 32 x v) (word_value 32 y v) s
less_is s x y p q r carry out v wx wy hx hy ep eq h t =
    let o = ordered_owned s y wy hy in
    let n = ap (λ z. word_value 32 z v) eq ∙ not_means (cond s (top_flipped y) y) v (omega (arith, o, hy)) in
    let a = ap (λ z. word_value 32 z v) ep in
    let c = no_carry (word_value 32 p v) (word_value 32 (cond s (top_flipped y) y) v) (word_value 32 q v) (word_value 32 r v) (lit_truth carry v) (word_value-lt 32 (cond s (top_flipped y) y) v) (word_value-lt 32 r v) n h in
    t ∙ c ∙ ap (λ z. ltb z (word_value 32 (cond s (top_flipped y) y) v)) a ∙ ordered_is s x y v wx wy hx hy

pub shift_none : (t : Turn) (b f : ℕ → Bool) (k : ℕ) → k < 32 → f k ≡ moved_by false t (of_bits b 0) f k
unfolding of_bits
shift_none t b f k l = sym (moved_none t f k l)

pub shift_means : (t : Turn) (x by out : List Lit) (v : ℕ → Bool) (n : ℕ) → n ≡ 5 → ((k : ℕ) → k < 32 → lit_truth (at out k) v ≡ moved_by false t (of_bits (λ j. lit_truth (at by j) v) n) (λ j. lit_truth (at x j) v) k)
    → word_value 32 out v ≡ turned_word t (word_value 32 x v) (word_value 32 by v)
unfolding word_value
shift_means t x by out v n e h = shift_is t (λ j. lit_truth (at x j) v) (λ j. lit_truth (at by j) v) (λ j. lit_truth (at out j) v)
    (subst (λ m. (k : ℕ) → k < 32 → lit_truth (at out k) v ≡ moved_by false t (of_bits (λ j. lit_truth (at by j) v) m) (λ j. lit_truth (at x j) v) k) e h)

pub shift_stands-zero : (eq : Node → Node → Bool) (t : Turn) (ns : List Node) (x by : List Lit) → (x ≡ (shift_made eq t 0 ns x by).word) × (ns ≡ (shift_made eq t 0 ns x by).held)
unfolding shift_made
shift_stands-zero eq t ns x by = (refl, refl)

pub shift_stands-suc : (eq : Node → Node → Bool) (t : Turn) (n : ℕ) (ns : List Node) (x by out : List Lit) (now : List Node) (next : List Lit) (later : List Node)
    → out ≡ (shift_made eq t n ns x by).word → now ≡ (shift_made eq t n ns x by).held → next ≡ (stage_made eq t n now out by).word → later ≡ (stage_made eq t n now out by).held
    → (next ≡ (shift_made eq t (n + 1) ns x by).word) × (later ≡ (shift_made eq t (n + 1) ns x by).held)
unfolding shift_made
shift_stands-suc eq t n ns x by out now next later e f g h = (rw (g, e, f, add-one) refl, rw (h, e, f, add-one) refl)

pub owned_of : (w u : List Lit) (m : ℕ) → w ≡ u → word_reach_below 32 u ≤ m → word_reach_below 32 w ≤ m
owned_of w u m e h = subst (λ z. word_reach_below 32 z ≤ m) (sym e) h
