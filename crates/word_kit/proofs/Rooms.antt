-- What stays below 2^32: a word with one bit replaced, and a word that is turned.
use Rattle.std.proofs.Common.{◌≡◌, ℕ, ◌+◌, ◌-◌, ◌*◌, ◌/◌, ◌%◌, ◌^◌, ◌<◌, ◌≤◌, sym, subst, ◌∙◌, ap, arith, mul-le-mul_left, add-one}
use Rattle.std.proofs.Math.Nat.{pow-suc, mod-lt, mul-div_cancel, mul-mod_left, mod-eq_of_lt}
use Rattle.std.proofs.Math.Arith.{mod-mul}
use Rattle.std.proofs.Math.Pow.{pow_pos, split}
use Rattle.std.proofs.lemmas.Nat.{pow-add, pow_below, div-add-mod'}
use Rattle.std.proofs.Math.Decide.{dec_le}

mul-le-mul_at : (a c d : ℕ) → a ≤ c → a * d ≤ c * d
mul-le-mul_at a c d le = grind (arith, mul-le-mul_left d le)

room : (q b u low m : ℕ) → low < u → q * 2 + b < m * 2 → (q * 2) * u + low + u < m * 2 * u
room q b u low m hl h = let k : (q * 2 + 2) * u ≤ m * 2 * u = mul-le-mul_at (q * 2 + 2) (m * 2) u (omega arith) in omega (arith, k)

pub below_factor : (a u m : ℕ) → a * u < m * u → a < m
below_factor a u m h = elim (dec_le m a) [ yes le ↦ let k = mul-le-mul_at m a u le in absurd (omega (arith, k)) | no n ↦ omega arith ]

two_32 : (place : ℕ) → place < 32 → 2 ^ (31 - place) * 2 * 2 ^ place ≡ 2 ^ 32
two_32 place h = let e : 31 - place + 1 + place ≡ 32 = omega arith in
    let p1 : 2 ^ (31 - place + 1 + place) ≡ 2 ^ (31 - place + 1) * 2 ^ place = pow-add 2 (31 - place + 1) place in
    let p2 : 2 ^ (31 - place + 1) ≡ 2 ^ (31 - place) * 2 = rw add-one (pow-suc 2 (31 - place)) in
    let q : 2 ^ (31 - place + 1 + place) ≡ 2 ^ 32 = ap (λ k. 2 ^ k) e in
    cc

-- where the bit of a place is taken out of a word, it may be added again
pub with_bit_room : (x place : ℕ) → place < 32 → x < 2 ^ 32 → x - x / 2 ^ place % 2 * 2 ^ place + 2 ^ place < 2 ^ 32
with_bit_room x place h w =
    let pos_u : 0 < 2 ^ place = pow_pos place in
    let s : x / 2 ^ place * 2 ^ place + x % 2 ^ place ≡ x = split x place in
    let l : x % 2 ^ place < 2 ^ place = mod-lt x pos_u in
    let t = two_32 place h in
    let b : x / 2 ^ place < 2 ^ (31 - place) * 2 = below_factor (x / 2 ^ place) (2 ^ place) (2 ^ (31 - place) * 2) (omega arith) in
    let d : x / 2 ^ place / 2 * 2 + x / 2 ^ place % 2 ≡ x / 2 ^ place = omega arith in
    let r = room (x / 2 ^ place / 2) (x / 2 ^ place % 2) (2 ^ place) (x % 2 ^ place) (2 ^ (31 - place)) l (omega arith) in
    let e : (x / 2 ^ place / 2 * 2 + x / 2 ^ place % 2) * 2 ^ place ≡ x / 2 ^ place * 2 ^ place = ap (λ k. k * 2 ^ place) d in
    omega arith

-- a word that is turned stays below m * u
turned_room : (x u m : ℕ) → 0 < u → 0 < m → x < m * u → x * u % (m * u) + x * u / (m * u) < m * u
turned_room x u m hu hm h =
    let low : x * u % (m * u) ≡ (x * u / u % m) * u + x * u % u = mod-mul (x * u) {m = m} {c = u} hm hu in
    let d : x * u / u ≡ x = mul-div_cancel x hu in
    let z : x * u % u ≡ 0 = mul-mod_left x u in
    let l : x % m < m = mod-lt x hm in
    let r : (x % m + 1) * u ≤ m * u = mul-le-mul_at (x % m + 1) m u (omega arith) in
    let s : x * u / (m * u) * (m * u) + x * u % (m * u) ≡ x * u = div-add-mod' (x * u) (m * u) in
    let t : (x + 1) * u ≤ m * u * u = mul-le-mul_at (x + 1) (m * u) u (omega arith) in
    let b : x * u / (m * u) < u = below_factor (x * u / (m * u)) (m * u) u (omega arith) in
    let e : x * u % (m * u) ≡ x % m * u = rw (low, d, z) (omega arith) in
    omega arith

two_parts : (k : ℕ) → k < 32 → 2 ^ (32 - k) * 2 ^ k ≡ 2 ^ 32
two_parts k h = let e : 32 - k + k ≡ 32 = omega arith in sym (pow-add 2 (32 - k) k) ∙ ap (λ n. 2 ^ n) e

turned_at : (m w : ℕ) → m ≡ w → (p : ℕ) → p % m + p / m < m → p % w + p / w < w
turned_at m w e p h = subst (λ n. p % n + p / n < n) e h

pub turned : (x k : ℕ) → x < 2 ^ 32 → k < 32 → x * 2 ^ k % 2 ^ 32 + x * 2 ^ k / 2 ^ 32 < 2 ^ 32
turned x k hx hk = let e = two_parts k hk in
    let r : x * 2 ^ k % (2 ^ (32 - k) * 2 ^ k) + x * 2 ^ k / (2 ^ (32 - k) * 2 ^ k) < 2 ^ (32 - k) * 2 ^ k = turned_room x (2 ^ k) (2 ^ (32 - k)) (pow_pos k) (pow_pos (32 - k)) (rw e hx) in
    turned_at (2 ^ (32 - k) * 2 ^ k) (2 ^ 32) e (x * 2 ^ k) r

-- 64 bits have room for it
pub shifted_room : (x k : ℕ) → x < 2 ^ 32 → k < 32 → x * 2 ^ k % 2 ^ 64 ≡ x * 2 ^ k
shifted_room x k hx hk = let p : 2 ^ k < 2 ^ 32 = pow_below k 32 hk in
    let q : (x + 1) * 2 ^ k ≤ 2 ^ 32 * 2 ^ k = mul-le-mul_at (x + 1) (2 ^ 32) (2 ^ k) (omega arith) in
    let r : 0 < 2 ^ k = pow_pos k in
    mod-eq_of_lt (omega arith)
