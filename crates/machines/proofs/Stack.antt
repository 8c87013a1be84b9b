-- The stack segment of the example programs.
use Rattle.std.proofs.Common.{◌≡◌, ℕ, zero, suc, ◌+◌, ◌-◌, ◌%◌, ◌^◌, ◌<◌, ◌≤◌, Bool, true, false, cond, ◌&&◌, ◌||◌, ltb, leb, List, length, get_or, replicate, refl, subst, arith}
use Rattle.machines.specs.Prelude.{block, each_byte, is_within, is_held, is_writable, first_bytes}
use Rattle.machines.specs.Examples.{IsStack, bytes_of, program_of}
use Rattle.machines.proofs.Tests.{both, is_below, is_upto}

or_true : (x : Bool) → (x || true) ≡ true
or_true true = refl
or_true false = refl

pub and_false : (x y : Bool) → y ≡ false → (x && y) ≡ false
and_false true y h = h
and_false false y h = refl

-- the address i bytes on, counted from the next byte
shifted : (P : ℕ → Type 0) (a i : ℕ) → P ((a + (i + 1)) % 2 ^ 32) → P ((a + 1 + i) % 2 ^ 32)
shifted P a i h = let e : a + (i + 1) ≡ a + 1 + i = omega arith in subst (λ k. P (k % 2 ^ 32)) e h

unshifted : (P : ℕ → Type 0) (a : ℕ) → P ((a + 0) % 2 ^ 32) → P (a % 2 ^ 32)
unshifted P a h = let e : a + 0 ≡ a = omega arith in subst (λ k. P (k % 2 ^ 32)) e h

pub each_true : (test : ℕ → Bool) (n a : ℕ) → ((i : ℕ) → i < n → test ((a + i) % 2 ^ 32) ≡ true) → each_byte test n a ≡ true
unfolding each_byte
each_true test zero a h = refl
each_true test (suc n) a h = both (test (a % 2 ^ 32)) (each_byte test n (a + 1)) (unshifted (λ k. test k ≡ true) a (h 0 (omega arith))) (each_true test n (a + 1) (λ i lt. shifted (λ k. test k ≡ true) a i (h (i + 1) (omega arith))))

pub last_false : (test : ℕ → Bool) (n a : ℕ) → test ((a + n) % 2 ^ 32) ≡ false → each_byte test (suc n) a ≡ false
unfolding each_byte
last_false test zero a h = let e : test (a % 2 ^ 32) ≡ false = unshifted (λ k. test k ≡ false) a h in rw e refl
last_false test (suc n) a h =
    let e : a + suc n ≡ a + (n + 1) = omega arith in
    and_false (test (a % 2 ^ 32)) (each_byte test (suc n) (a + 1)) (last_false test n (a + 1) (shifted (λ k. test k ≡ false) a n (subst (λ k. test (k % 2 ^ 32) ≡ false) e h)))

pub block_zeros : (n a : ℕ) (bytes : ℕ → ℕ) → ((i : ℕ) → i < n → bytes ((a + i) % 2 ^ 32) ≡ 0) → block n a bytes ≡ replicate n 0
unfolding block
block_zeros zero a bytes h = refl
block_zeros (suc n) a bytes h =
    let first : bytes (a % 2 ^ 32) ≡ 0 = unshifted (λ k. bytes k ≡ 0) a (h 0 (omega arith)) in
    let rest : block n (a + 1) bytes ≡ replicate n 0 = block_zeros n (a + 1) bytes (λ i lt. shifted (λ k. bytes k ≡ 0) a i (h (i + 1) (omega arith))) in
    rw (first, rest) refl

module _ (program stack : List ℕ) (is : IsStack stack) where
  within : (a : ℕ) → 0x7F000000 ≤ a → a < 0x7F100000 → is_within 0x7F000000 (length stack) a ≡ true
  within a low high = let long = is.long in both (leb 0x7F000000 a) (ltb a (0x7F000000 + length stack)) (is_upto _ a low) (is_below a _ (omega arith))

  pub stack_held : (a : ℕ) → 0x7F000000 ≤ a → a < 0x7F100000 → is_held (program_of program stack).segments a ≡ true
  unfolding is_held
  stack_held a low high = rw (within a low high) (or_true _)

  pub stack_writable : (a : ℕ) → 0x7F000000 ≤ a → a < 0x7F100000 → is_writable (program_of program stack).segments a ≡ true
  unfolding is_writable
  stack_writable a low high = rw (within a low high) refl

  pub stack_all_held : (n a : ℕ) → 0x7F000000 ≤ a → a + n ≤ 0x7F100000 → each_byte (is_held (program_of program stack).segments) n a ≡ true
  stack_all_held n a low high = each_true (is_held (program_of program stack).segments) n a (λ i lt. stack_held ((a + i) % 2 ^ 32) (omega arith) (omega arith))

  pub stack_all_writable : (n a : ℕ) → 0x7F000000 ≤ a → a + n ≤ 0x7F100000 → each_byte (is_writable (program_of program stack).segments) n a ≡ true
  stack_all_writable n a low high = each_true (is_writable (program_of program stack).segments) n a (λ i lt. stack_writable ((a + i) % 2 ^ 32) (omega arith) (omega arith))

  zero_either : (b : Bool) (x : ℕ) → x ≡ 0 → cond b x 0 ≡ 0
  zero_either true x h = h
  zero_either false x h = refl

  pub stack_zeros : (a : ℕ) → is_within 0x10000000 (length (bytes_of program)) a ≡ false → first_bytes (program_of program stack).segments a ≡ 0
  unfolding first_bytes
  stack_zeros a off = rw off (zero_either (is_within 0x7F000000 (length stack) a) (get_or stack (a - 0x7F000000) 0) (is.zeros _))

pub behind_stack : (stack program : List ℕ) → IsStack stack → is_within 0x10000000 (length (bytes_of program)) 0x7F100000 ≡ false → is_held (program_of program stack).segments 0x7F100000 ≡ false
unfolding is_held
behind_stack stack program is off = let long : length stack ≡ 2 ^ 20 = is.long in rw (off, long) refl
