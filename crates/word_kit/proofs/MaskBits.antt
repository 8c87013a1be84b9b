-- Masks as differences of powers of 2.
use Rattle.std.proofs.Common.{◌≡◌, ℕ, ◌+◌, ◌-◌, ◌*◌, ◌/◌, ◌^◌, ◌<◌, ◌≤◌, sym, ◌∙◌, ap, arith, add-one, w32}
use Rattle.std.proofs.Math.Nat.{mod-eq_of_lt, pow-suc, div-div-eq-div-mul}
use Rattle.std.proofs.Math.Pow.{pow_pos, pow_mono}
use Rattle.std.proofs.lemmas.Bool.Decides.{nat_tests}
use Rattle.std.proofs.lemmas.Nat.Bits.{ones_shr, bit_at_not, bit_at_mask_inside, bit_at_mask_below, bit_at_mask_above}
use Rattle.std.specs.Int.{bit_at}
use Rattle.word_kit.specs.Prelude.{one_if, is_masked, mask}
use Rattle.word_kit.proofs.BitSums.{of_bits-is}

-- the ones from bit mb on, and those behind bit me
pub from_bit : (mb : ℕ) → mb < 32 → 4294967295 / 2 ^ mb ≡ 2 ^ (32 - mb) - 1
from_bit mb h = ones_shr 32 mb (omega arith)

pub behind_bit : (me : ℕ) → me < 32 → 4294967295 / 2 ^ me / 2 ≡ 2 ^ (31 - me) - 1
behind_bit me h =
    let e : 2 ^ (me + 1) ≡ 2 ^ me * 2 = rw add-one (pow-suc 2 me) in
    let o : 4294967295 / 2 ^ (me + 1) ≡ 2 ^ (32 - (me + 1)) - 1 = ones_shr 32 (me + 1) (omega arith) in
    let n : 32 - (me + 1) ≡ 31 - me = omega arith in
    div-div-eq-div-mul 4294967295 (2 ^ me) 2 ∙ ap (λ d. 4294967295 / d) (sym e) ∙ o ∙ ap (λ k. 2 ^ k - 1) n

small : (mb me : ℕ) → mb < 32 → me < 32 → 2 ^ (32 - mb) - 2 ^ (31 - me) < 2 ^ 32
small mb me hb he = let p : 2 ^ (32 - mb) ≤ 2 ^ 32 = pow_mono {i = 32 - mb} {j = 32} (omega arith) in let q : 0 < 2 ^ (31 - me) = pow_pos (31 - me) in omega arith

less_than : (mb me : ℕ) → mb < 32 → me < 32 → 2 ^ (31 - me) - 2 ^ (32 - mb) < 2 ^ 32
less_than mb me hb he = let p : 2 ^ (31 - me) ≤ 2 ^ 32 = pow_mono {i = 31 - me} {j = 32} (omega arith) in let q : 0 < 2 ^ (32 - mb) = pow_pos (32 - mb) in omega arith

inside : (mb me k : ℕ) → mb ≤ me → mb < 32 → me < 32 → k < 32 → bit_at (2 ^ (32 - mb) - 2 ^ (31 - me)) k ≡ one_if (is_masked mb me (31 - k))
inside mb me k le hb he hk =
    let i = bit_at_mask_inside (31 - me) (32 - mb) k in
    let b = bit_at_mask_below (31 - me) (32 - mb) k in
    let a = bit_at_mask_above (31 - me) (32 - mb) k in
    grind (arith, nat_tests)

pub mask_within : (mb me : ℕ) → mb ≤ me → mb < 32 → me < 32 → mask mb me ≡ 2 ^ (32 - mb) - 2 ^ (31 - me)
unfolding mask
mask_within mb me le hb he =
    of_bits-is (λ k. is_masked mb me (31 - k)) (2 ^ (32 - mb) - 2 ^ (31 - me)) 32 (λ k l. inside mb me k le hb he l) ∙ mod-eq_of_lt (small mb me hb he)

outside : (mb me k : ℕ) → me < mb → mb < 32 → me < 32 → k < 32 → bit_at (2 ^ 32 - 1 - (2 ^ (31 - me) - 2 ^ (32 - mb))) k ≡ one_if (is_masked mb me (31 - k))
outside mb me k lt hb he hk =
    let n = bit_at_not w32 (2 ^ (31 - me) - 2 ^ (32 - mb)) k (less_than mb me hb he) hk in
    let i = bit_at_mask_inside (32 - mb) (31 - me) k in
    let b = bit_at_mask_below (32 - mb) (31 - me) k in
    let a = bit_at_mask_above (32 - mb) (31 - me) k in
    grind (arith, nat_tests)

pub mask_around : (mb me : ℕ) → me < mb → mb < 32 → me < 32 → mask mb me ≡ 2 ^ 32 - 1 - (2 ^ (31 - me) - 2 ^ (32 - mb))
unfolding mask
mask_around mb me lt hb he =
    of_bits-is (λ k. is_masked mb me (31 - k)) (2 ^ 32 - 1 - (2 ^ (31 - me) - 2 ^ (32 - mb))) 32 (λ k l. outside mb me k lt hb he l) ∙ mod-eq_of_lt (omega arith)

-- the differences that the code takes
pub behind_is_less : (mb me : ℕ) → mb ≤ me → mb < 32 → me < 32 → 4294967295 / 2 ^ me / 2 ≤ 4294967295 / 2 ^ mb
behind_is_less mb me le hb he = let p : 2 ^ (31 - me) ≤ 2 ^ (32 - mb) = pow_mono (omega arith) in rw (from_bit mb hb, behind_bit me he) (omega arith)

pub from_is_less : (mb me : ℕ) → me < mb → mb < 32 → me < 32 → 4294967295 / 2 ^ mb ≤ 4294967295 / 2 ^ me / 2
from_is_less mb me lt hb he = let p : 2 ^ (32 - mb) ≤ 2 ^ (31 - me) = pow_mono (omega arith) in rw (from_bit mb hb, behind_bit me he) (omega arith)

pub difference_within : (mb me : ℕ) → mb ≤ me → mb < 32 → me < 32 → 4294967295 / 2 ^ mb - 4294967295 / 2 ^ me / 2 ≡ mask mb me
difference_within mb me le hb he =
    let p : 2 ^ (31 - me) ≤ 2 ^ (32 - mb) = pow_mono (omega arith) in
    let q : 0 < 2 ^ (31 - me) = pow_pos (31 - me) in
    let m = mask_within mb me le hb he in
    rw (from_bit mb hb, behind_bit me he, m) (omega arith)

pub difference_around : (mb me : ℕ) → me < mb → mb < 32 → me < 32 → 4294967295 - (4294967295 / 2 ^ me / 2 - 4294967295 / 2 ^ mb) ≡ mask mb me
difference_around mb me lt hb he =
    let p : 2 ^ (32 - mb) ≤ 2 ^ (31 - me) = pow_mono (omega arith) in
    let q : 0 < 2 ^ (32 - mb) = pow_pos (32 - mb) in
    let m = mask_around mb me lt hb he in
    rw (from_bit mb hb, behind_bit me he, m) (omega arith)
