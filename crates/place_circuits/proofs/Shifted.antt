-- Bits by shifts to the left and to the right.
use Rattle.std.proofs.Common.{◌≡◌, ℕ, ◌+◌, ◌-◌, ◌*◌, ◌/◌, ◌%◌, ◌^◌, ◌<◌, ◌≤◌, sym, ◌∙◌, ap, arith}
use Rattle.std.proofs.lemmas.Nat.{mod-pow-add, div-mul-add, pow_pos, pow-add}
use Rattle.std.proofs.Math.Nat.{mul-mod_left, mul-div_cancel, mul-div-mul_right, mod-lt}
use Rattle.word_kit.specs.Prelude.{shifted_left, shifted_right}

-- the bits below a place, moved to the left by as much as makes 32
raised : (x low a : ℕ) → low + a ≡ 32 → x * 2 ^ a % 2 ^ 32 ≡ x % 2 ^ low * 2 ^ a
raised x low a h =
    let d = mul-div_cancel x (pow_pos a) in
    let r = mul-mod_left x (2 ^ a) in
    ap (λ k. x * 2 ^ a % 2 ^ k) (sym h) ∙ mod-pow-add (x * 2 ^ a) low a ∙ ap (λ q. (q % 2 ^ low) * 2 ^ a + x * 2 ^ a % 2 ^ a) d ∙ ap (λ q. x % 2 ^ low * 2 ^ a + q) r ∙ omega arith

lowered : (y low a b : ℕ) → b ≡ low + a → y * 2 ^ a / 2 ^ b ≡ y / 2 ^ low
lowered y low a b h = ap (λ k. y * 2 ^ a / 2 ^ k) h ∙ ap (λ p. y * 2 ^ a / p) (pow-add 2 low a) ∙ mul-div-mul_right y (2 ^ low) (pow_pos a)

between : (x low count : ℕ) → x % 2 ^ (low + count) / 2 ^ low ≡ x / 2 ^ low % 2 ^ count
between x low count =
    let e : low + count ≡ count + low = omega arith in
    ap (λ k. x % 2 ^ k / 2 ^ low) e ∙ ap (λ q. q / 2 ^ low) (mod-pow-add x count low) ∙ div-mul-add (x / 2 ^ low % 2 ^ count) (2 ^ low) (x % 2 ^ low) (mod-lt x (pow_pos low))

small : (n : ℕ) → n < 32 → n % 32 ≡ n
small n h = omega (arith, h)

pub field_is : (x low count : ℕ) → 1 ≤ count → low + count ≤ 32 → shifted_right (shifted_left x (32 - low - count)) (32 - count) ≡ x / 2 ^ low % 2 ^ count
field_is x low count h l =
    let a = 32 - low - count in
    let b = 32 - count in
    let e : a % 32 ≡ a = small a (omega arith) in
    let f : b % 32 ≡ b = small b (omega arith) in
    ap (λ j. x * 2 ^ j % 2 ^ 32 / 2 ^ (b % 32)) e ∙ ap (λ j. x * 2 ^ a % 2 ^ 32 / 2 ^ j) f ∙ ap (λ y. y / 2 ^ b) (raised x (low + count) a (omega arith)) ∙ lowered (x % 2 ^ (low + count)) low a b (omega arith) ∙ between x low count

pub field_shown : (x y z up down low count n : ℕ) → z ≡ shifted_right y down → y ≡ shifted_left x up → x ≡ n → up ≡ 32 - low - count → down ≡ 32 - count → 1 ≤ count → low + count ≤ 32 → z ≡ n / 2 ^ low % 2 ^ count
field_shown x y z up down low count n a b c d e h l =
    a ∙ ap (λ v. shifted_right v down) (b ∙ ap (λ v. shifted_left v up) c ∙ ap (λ v. shifted_left n v) d) ∙ ap (λ v. shifted_right (shifted_left n (32 - low - count)) v) e ∙ field_is n low count h l
