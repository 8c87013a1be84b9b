-- One byte more of what is read or written.
use Rattle.std.proofs.Common.{◌≡◌, ℕ, zero, suc, ◌+◌, ◌-◌, ◌*◌, ◌/◌, ◌%◌, ◌^◌, ◌<◌, ◌≤◌, Bool, true, false, Some, None, List, length, get_or, take, refl, sym, ◌∙◌, ap, subst, add-one, pow-add, arith}
use Rattle.std.proofs.Math.Nat.{pow-suc, mod-eq_of_lt, pow-le-pow_right, div-div-eq-div-mul}
use Rattle.std.specs.Bool.{OnTrue}
use Rattle.std.proofs.lemmas.Bool.{OnTrue_at}
use Rattle.std.specs.Prelude.{if◌then◌else◌}
use Rattle.machines.specs.Prelude.{Program, is_permitted, with_byte, update, load, store, load_big, store_big, put_block, each_byte}
use Rattle.space.specs.Memory.{Memory, byte_at}
use Rattle.access.specs.Kept.{Keeps, is_allowed}
use Rattle.access.proofs.Bytes.{each_at, each_fails, each_next, each_first, load_big_next, load_first, store_big_next, store_next, put_block_next}
use Rattle.access.proofs.Kept.{read_held, read_byte, read_none, keeps_byte}

module _ (p : Program) (f : ℕ → ℕ) (m : Memory) (keeps : Keeps p f m) where
  pub no_byte : (n a k : ℕ) → k < n → None ≡ byte_at m ((a + k) % 2 ^ 32) → each_byte (is_allowed p false) n a ≡ false
  no_byte n a k lt none = each_fails (is_allowed p false) n a k lt (read_none p f m ((a + k) % 2 ^ 32) keeps none)

  -- the next byte of a number, the highest first
  pub big_step : (a k value byte : ℕ) → (each_byte (is_allowed p false) k a ≡ true) × (value ≡ load_big k a f)
      → Some byte ≡ byte_at m ((a + k) % 2 ^ 32)
      → (each_byte (is_allowed p false) (k + 1) a ≡ true) × (value * 256 + byte ≡ load_big (k + 1) a f)
  big_step a k value byte (inside, read) some =
      let x = (a + k) % 2 ^ 32 in (
        each_next (is_allowed p false) k a inside (read_held p f m x byte keeps some),
        rw (read, read_byte p f m x byte keeps some) (sym (load_big_next k a f)),
      )

  -- the byte before the last ones of a number, the lowest first
  pub little_step : (n a k value byte : ℕ) → 0 < k → k ≤ n
      → (each_byte (is_allowed p false) (n - k) (a + k) ≡ true) × (value ≡ load (n - k) (a + k) f)
      → Some byte ≡ byte_at m ((a + (k - 1)) % 2 ^ 32)
      → (each_byte (is_allowed p false) (n - (k - 1)) (a + (k - 1)) ≡ true) × (value * 256 + byte ≡ load (n - (k - 1)) (a + (k - 1)) f)
  little_step n a k value byte pos within (inside, read) some =
      let x = (a + (k - 1)) % 2 ^ 32 in
      let more : n - (k - 1) ≡ n - k + 1 = omega arith in
      let on : a + k ≡ a + (k - 1) + 1 = omega arith in
      let rest : each_byte (is_allowed p false) (n - k) (a + (k - 1) + 1) ≡ true = subst (λ j. each_byte (is_allowed p false) (n - k) j ≡ true) on inside in
      let value_is : value ≡ load (n - k) (a + (k - 1) + 1) f = read ∙ ap (λ j. load (n - k) j f) on in
      let byte_is : byte ≡ f x = read_byte p f m x byte keeps some in (
        rw more (each_first (is_allowed p false) (n - k) (a + (k - 1)) (read_held p f m x byte keeps some) rest),
        rw more (rw (load_first (n - k) (a + (k - 1)) f) (omega arith)),
      )

pub little_start : (test : ℕ → Bool) (f : ℕ → ℕ) (n a : ℕ) → (each_byte test (n - n) (a + n) ≡ true) × (0 ≡ load (n - n) (a + n) f)
unfolding each_byte load
little_start test f n a = let e : n - n ≡ 0 = omega arith in rw e (refl, refl)

pub little_end : (test : ℕ → Bool) (f : ℕ → ℕ) (n a k value : ℕ) → k ≡ 0
    → (each_byte test (n - k) (a + k) ≡ true) × (value ≡ load (n - k) (a + k) f)
    → Some value ≡ (if each_byte test n a then Some (load n a f) else None)
little_end test f n a k value done (inside, read) =
    let e : n - k ≡ n = omega arith in
    let at : a + k ≡ a = omega arith in
    let all : each_byte test n a ≡ true = rw (e, at) at inside in
    let number : value ≡ load n a f = rw (e, at) at read in
    rw (all, number) refl

-- a byte more fits
pub fits_next : (k v b : ℕ) → k < 4 → v < 256 ^ k → b < 256 → v * 256 + b < 2 ^ 32
fits_next k v b lt small byte =
    let most : 256 ^ k ≤ 256 ^ 3 = pow-le-pow_right {n = 256} (omega arith) {i = k} {j = 3} (omega arith) in
    omega arith

pub small_next : (k v b : ℕ) → v < 256 ^ k → b < 256 → v * 256 + b < 256 ^ (k + 1)
small_next k v b small byte = rw (add-one, pow-suc 256 k) (omega arith)

pub small_start : (n : ℕ) → 0 < 256 ^ (n - n)
small_start n = let e : n - n ≡ 0 = omega arith in rw e (omega arith)

pub small_before : (n k v b : ℕ) → 0 < k → k ≤ n → v < 256 ^ (n - k) → b < 256 → v * 256 + b < 256 ^ (n - (k - 1))
small_before n k v b pos within small byte =
    let e : n - (k - 1) ≡ n - k + 1 = omega arith in
    rw e (small_next (n - k) v b small byte)

-- eight bits are a byte
pow_bytes : (k : ℕ) → 2 ^ (8 * k) ≡ 256 ^ k
pow_bytes zero = refl
pow_bytes (suc k) =
    let e : 8 * suc k ≡ 8 * k + 8 = omega arith in
    rw (e, pow-add 2 (8 * k) 8, pow_bytes k, pow-suc 256 k) refl

-- a byte that may be written before the first one is put
pub may_be_put : (p : Program) (f : ℕ → ℕ) (m : Memory) (n count a k : ℕ) (told : Bool) → Keeps p f m → told ≡ each_byte (is_allowed p true) count a → told ≡ true
    → count ≡ n → k < n → is_permitted m true ((a + k) % 2 ^ 32) ≡ true
may_be_put p f m n count a k told keeps is all same lt =
    keeps.rights true ((a + k) % 2 ^ 32) ∙ each_at (is_allowed p true) count a k (sym is ∙ all) (omega arith)

-- the next byte that is put
module _ (p : Program) (f : ℕ → ℕ) (old m new : Memory) (a k x byte : ℕ) (answer : Bool) (first : Keeps p f old) (at : x ≡ (a + k) % 2 ^ 32)
    (may : is_permitted old true ((a + k) % 2 ^ 32) ≡ true) (told : answer ≡ is_permitted m true x) (written : OnTrue answer (new ≡ with_byte m x byte)) where
  put_step : (g : ℕ → ℕ) → Keeps p g m → Keeps p (update g ((a + k) % 2 ^ 32) byte) new
  put_step g keeps =
      let still : is_permitted m true x ≡ true = keeps.rights true x ∙ sym (first.rights true x) ∙ ap (is_permitted old true) at ∙ may in
      rw (← at, OnTrue_at (told ∙ still) written) (keeps_byte p g m x byte keeps still)

  pub big_put : (n v : ℕ) → k < n → Keeps p (store_big k a (v / 256 ^ (n - k)) f) m → byte ≡ v / 2 ^ (8 * (n - 1 - k)) % 256
      → Keeps p (store_big (k + 1) a (v / 256 ^ (n - (k + 1))) f) new
  big_put n v lt keeps is =
      let j : n - k ≡ suc (n - (k + 1)) = omega arith in
      let i : n - 1 - k ≡ n - (k + 1) = omega arith in
      let shifted : v / 256 ^ (n - (k + 1)) / 256 ≡ v / 256 ^ (n - k) =
      div-div-eq-div-mul v (256 ^ (n - (k + 1))) 256 ∙ ap (λ d. v / d) (sym (pow-suc 256 (n - (k + 1))) ∙ ap (λ e. 256 ^ e) (sym j)) in
      let low : v / 256 ^ (n - (k + 1)) % 256 ≡ byte = sym (is ∙ rw (i, pow_bytes (n - (k + 1))) refl) in
      rw (store_big_next k a (v / 256 ^ (n - (k + 1))) f, shifted, low) (put_step (store_big k a (v / 256 ^ (n - k)) f) keeps)

  pub little_put : (v : ℕ) → Keeps p (store k a v f) m → byte ≡ v / 2 ^ (8 * k) % 256 → Keeps p (store (k + 1) a v f) new
  little_put v keeps is =
      let low : v / 256 ^ k % 256 ≡ byte = sym (is ∙ rw (pow_bytes k) refl) in
      rw (store_next k a v f, low) (put_step (store k a v f) keeps)

  pub block_put : (xs : List ℕ) → k < length xs → Keeps p (put_block a (take k xs) f) m → byte ≡ get_or xs k 0 → byte < 256
      → Keeps p (put_block a (take (k + 1) xs) f) new
  block_put xs lt keeps is small =
      let low : get_or xs k 0 % 256 ≡ byte = ap (λ x. x % 256) (sym is) ∙ mod-eq_of_lt small in
      rw (put_block_next k a xs f lt, low) (put_step (put_block a (take k xs) f) keeps)

module _ (p : Program) (f : ℕ → ℕ) (m : Memory) where
  pub none_put : (a v : ℕ) → Keeps p f m → Keeps p (store_big 0 a v f) m × Keeps p (store 0 a v f) m
  unfolding store_big store
  none_put a v keeps = (keeps, keeps)

  pub all_put : (n a k v : ℕ) → k ≡ n → Keeps p (store_big k a (v / 256 ^ (n - k)) f) m → Keeps p (store_big n a v f) m
  all_put n a k v same keeps =
      let z : n - k ≡ 0 = omega arith in
      let w : v / 256 ^ 0 ≡ v = omega arith in
      rw (z, w, same) at keeps
