-- Numbers and runs of bytes in memory, a byte at a time.
use Rattle.std.proofs.Common.{◌≡◌, ℕ, zero, suc, ◌+◌, ◌*◌, ◌/◌, ◌%◌, ◌^◌, ◌<◌, Bool, true, false, ◌&&◌, List, [], ◌∷◌, length, get_or, take, refl, sym, ◌∙◌, inl, inr, ap, subst, add-one, arith}
use Rattle.std.proofs.Math.Nat.{pow-suc, pow-succ', div-div-eq-div-mul}
use Rattle.std.proofs.lemmas.Bool.{cases_lt, false_from_ne_true}
use Rattle.machines.specs.Prelude.{update, load, store, load_big, store_big, block, put_block, each_byte}
use Rattle.machines.proofs.Stack.{each_true as each_of}

both_true : (x y : Bool) → (x && y) ≡ true → (x ≡ true) × (y ≡ true)
both_true true true h = (refl, refl)
both_true true false h = (refl, h)
both_true false y h = absurd cc

-- each address of a run passes the test, one by one
pub each_at : (test : ℕ → Bool) (n a k : ℕ) → each_byte test n a ≡ true → k < n → test ((a + k) % 2 ^ 32) ≡ true
unfolding each_byte
each_at test zero a k h lt = absurd (omega arith)
each_at test (suc n) a zero h lt =
    let e : a ≡ a + 0 = omega arith in
    subst (λ x. test (x % 2 ^ 32) ≡ true) e (both_true (test (a % 2 ^ 32)) (each_byte test n (a + 1)) h).0
each_at test (suc n) a (suc k) h lt =
    let e : a + 1 + k ≡ a + suc k = omega arith in
    subst (λ x. test (x % 2 ^ 32) ≡ true) e (each_at test n (a + 1) k (both_true (test (a % 2 ^ 32)) (each_byte test n (a + 1)) h).1 (omega arith))

-- one that fails fails the run
pub each_fails : (test : ℕ → Bool) (n a k : ℕ) → k < n → test ((a + k) % 2 ^ 32) ≡ false → each_byte test n a ≡ false
each_fails test n a k lt fails = false_from_ne_true (each_byte test n a) (λ h. let e = each_at test n a k h lt in cc)

pub each_next : (test : ℕ → Bool) (n a : ℕ) → each_byte test n a ≡ true → test ((a + n) % 2 ^ 32) ≡ true → each_byte test (n + 1) a ≡ true
each_next test n a before here = each_of test (n + 1) a (λ k lt. elim (cases_lt k n) as (λ _. test ((a + k) % 2 ^ 32) ≡ true) [
  | inl below ↦ each_at test n a k before below
  | inr above ↦ let e : n ≡ k = omega arith in subst (λ j. test ((a + j) % 2 ^ 32) ≡ true) e here
])

pub each_first : (test : ℕ → Bool) (n a : ℕ) → test (a % 2 ^ 32) ≡ true → each_byte test n (a + 1) ≡ true → each_byte test (n + 1) a ≡ true
unfolding each_byte
each_first test n a here rest = rw (add-one n) (simp (here, rest))

-- a further byte of a number
front : (n a : ℕ) (f : ℕ → ℕ) → load_big (suc n) a f ≡ load_big n a f * 256 + f ((a + n) % 2 ^ 32)
unfolding load_big
front zero a f = let e : a + 0 ≡ a = omega arith in rw e (omega arith)
front (suc n) a f =
    let e : a + suc n ≡ a + 1 + n = omega arith in
    rw (e, front n (a + 1) f, pow-suc 256 n) (omega arith)

pub load_big_next : (n a : ℕ) (f : ℕ → ℕ) → load_big (n + 1) a f ≡ load_big n a f * 256 + f ((a + n) % 2 ^ 32)
load_big_next n a f = rw add-one (front n a f)

pub load_first : (n a : ℕ) (f : ℕ → ℕ) → load (n + 1) a f ≡ f (a % 2 ^ 32) + 256 * load n (a + 1) f
unfolding load
load_first n a f = rw (add-one n) refl

-- a further byte of a number that is put
puts_big : (n a v : ℕ) (f : ℕ → ℕ) → store_big (suc n) a v f ≡ update (store_big n a (v / 256) f) ((a + n) % 2 ^ 32) (v % 256)
unfolding store_big
puts_big zero a v f = let e : a + 0 ≡ a = omega arith in let w : v / 256 ^ 0 ≡ v = omega arith in rw (e, w) refl
puts_big (suc n) a v f =
    let e : a + suc n ≡ a + 1 + n = omega arith in
    let w : v / 256 ^ suc n ≡ v / 256 / 256 ^ n = ap (λ k. v / k) (pow-succ' 256 n) ∙ sym (div-div-eq-div-mul v 256 (256 ^ n)) in
    rw (e, w) (puts_big n (a + 1) v (update f (a % 2 ^ 32) (v / 256 / 256 ^ n % 256)))

pub store_big_next : (n a v : ℕ) (f : ℕ → ℕ) → store_big (n + 1) a v f ≡ update (store_big n a (v / 256) f) ((a + n) % 2 ^ 32) (v % 256)
store_big_next n a v f = rw add-one (puts_big n a v f)

puts : (n a v : ℕ) (f : ℕ → ℕ) → store (suc n) a v f ≡ update (store n a v f) ((a + n) % 2 ^ 32) (v / 256 ^ n % 256)
unfolding store
puts zero a v f = let e : a + 0 ≡ a = omega arith in let w : v / 256 ^ 0 ≡ v = omega arith in rw (e, w) refl
puts (suc n) a v f =
    let e : a + suc n ≡ a + 1 + n = omega arith in
    let w : v / 256 ^ suc n ≡ v / 256 / 256 ^ n = ap (λ k. v / k) (pow-succ' 256 n) ∙ sym (div-div-eq-div-mul v 256 (256 ^ n)) in
    rw (e, w) (puts n (a + 1) (v / 256) (update f (a % 2 ^ 32) (v % 256)))

pub store_next : (n a v : ℕ) (f : ℕ → ℕ) → store (n + 1) a v f ≡ update (store n a v f) ((a + n) % 2 ^ 32) (v / 256 ^ n % 256)
store_next n a v f = rw add-one (puts n a v f)

-- bytes that stand one by one are a run
pub is_block : (xs : List ℕ) (a : ℕ) (f : ℕ → ℕ) → ((k : ℕ) → k < length xs → get_or xs k 0 ≡ f ((a + k) % 2 ^ 32)) → xs ≡ block (length xs) a f
unfolding block
is_block [] a f h = refl
is_block (x ∷ xs) a f h =
    let e : a + 0 ≡ a = omega arith in
    let here : x ≡ f (a % 2 ^ 32) = h 0 (omega arith) ∙ ap (λ k. f (k % 2 ^ 32)) e in
    let rest : xs ≡ block (length xs) (a + 1) f = is_block xs (a + 1) f (λ k lt. h (suc k) (omega arith) ∙ (let j : a + suc k ≡ a + 1 + k = omega arith in ap (λ k. f (k % 2 ^ 32)) j)) in
    ap (λ y. y ∷ xs) here ∙ ap (λ ys. f (a % 2 ^ 32) ∷ ys) rest

-- a further byte of a run that is put
puts_block : (k a : ℕ) (xs : List ℕ) (f : ℕ → ℕ) → k < length xs → put_block a (take (suc k) xs) f ≡ update (put_block a (take k xs) f) ((a + k) % 2 ^ 32) (get_or xs k 0 % 256)
unfolding put_block
puts_block k a [] f lt = absurd (omega arith)
puts_block zero a (x ∷ xs) f lt = let e : a + 0 ≡ a = omega arith in rw e refl
puts_block (suc k) a (x ∷ xs) f lt =
    let e : a + suc k ≡ a + 1 + k = omega arith in
    rw e (puts_block k (a + 1) xs (update f (a % 2 ^ 32) (x % 256)) (omega arith))

pub put_block_next : (k a : ℕ) (xs : List ℕ) (f : ℕ → ℕ) → k < length xs → put_block a (take (k + 1) xs) f ≡ update (put_block a (take k xs) f) ((a + k) % 2 ^ 32) (get_or xs k 0 % 256)
put_block_next k a xs f lt = rw add-one (puts_block k a xs f lt)
