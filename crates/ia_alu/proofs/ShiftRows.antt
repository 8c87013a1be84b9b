-- The terms of shifts and rotates over plain words are their rows.
use Rattle.std.proofs.Common.{◌≡◌, ℕ, ◌+◌, ◌-◌, ◌*◌, ◌/◌, ◌%◌, ◌^◌, ◌<◌, refl, sym, ap, ◌∙◌, Bool, true, false, cond, not, eqb, arith}
use Rattle.std.proofs.Math.Nat.{mod-lt, mul-div_cancel, div-div-eq-div-mul, div-le_self}
use Rattle.std.proofs.Math.Pow.{pow_pos}
use Rattle.std.proofs.lemmas.Nat.{pow-add}
use Rattle.std.proofs.lemmas.Bool.Decides.{nat_tests}
use Rattle.word_kit.specs.Prelude.{same, is_negative, complement, sum_word, bit_of, with_bit, word_and, shifted_left, shifted_right, shifted_arith, rotated, plain_operations}
use Rattle.word_kit.proofs.Rooms.{turned}
use Rattle.ia_codec.specs.Prelude.{shift_row, shift_result, shift_carry, shift_overflow, is_rotate}
use Rattle.ia_codec.specs.declared.op.ShiftOp.{ShiftOp}
use Rattle.ia_codec.specs.declared.op.ShiftOp.TheVariants.{Rol, Ror, Shl, Shr, Sar}
use Rattle.ia_alu.specs.declared.given.HostIn.{HostIn}
use Rattle.ia_alu.specs.Values.{values_of, outcome_of}
use Rattle.ia_alu.specs.Terms.{shift_term, settled_term, turned_term}
use Rattle.ia_alu.proofs.Bits.{sign_is, count_is, choose_is}
use Rattle.ia_alu.proofs.Told.{told_same}

-- a flag that is chosen by a test that is another test
pick_is : (t : Bool) (n count : ℕ) (c d d' : Bool) → t ≡ eqb (word_and count 31) n → (eqb (count % 32) n ≡ false → d ≡ d') → bit_of (cond t (with_bit 0 0 c) (with_bit 0 0 d)) 0 ≡ cond (eqb (count % 32) n) c d'
pick_is t n count c d d' e h = choose_is t c d ∙ ap (λ (b : Bool). cond b c d) (e ∙ ap (λ m. eqb m n) (count_is count)) ∙ by_test (eqb (count % 32) n) h
  where
    by_test : (b : Bool) → (b ≡ false → d ≡ d') → cond b c d ≡ cond b c d'
    by_test true k = refl
    by_test false k = k refl

mod_twice : (count : ℕ) → count % 32 ≡ count % 32 % 32
mod_twice count = omega arith

less_is : (count : ℕ) → eqb (count % 32) 0 ≡ false → sum_word count 4294967295 false % 32 ≡ count % 32 - 1
less_is count h = grind (arith, nat_tests)

-- the bit that left last on the right is that of the place below the count
last_right_is : (x count : ℕ) → eqb (count % 32) 0 ≡ false → bit_of (shifted_right x (sum_word count 4294967295 false)) 0 ≡ bit_of x (count % 32 - 1)
last_right_is x count h = ap (λ k. bit_of (x / 2 ^ k) 0) (less_is count h) ∙ lowest (x / 2 ^ (count % 32 - 1))
  where
    lowest : (n : ℕ) → bit_of n 0 ≡ eqb (n % 2) 1
    lowest n = ap (λ m. eqb (m % 2) 1) (omega arith)

-- a quotient by a product whose one factor divides
apart : (x u w : ℕ) → 0 < u → 0 < w → x * u / (u * w) ≡ x / w
apart x u w hu hw = sym (div-div-eq-div-mul (x * u) u w) ∙ ap (λ n. n / w) (mul-div_cancel x hu)

halves : (count : ℕ) → eqb (count % 32) 0 ≡ false → 2 ^ (count % 32 - 1) * 2 ^ (32 - count % 32) ≡ 2 ^ 31
halves count h = let e : count % 32 - 1 + (32 - count % 32) ≡ 31 = grind (arith, nat_tests) in sym (pow-add 2 (count % 32 - 1) (32 - count % 32)) ∙ ap (λ k. 2 ^ k) e

below_top : (t : ℕ) → bit_of (t % 2 ^ 32) 31 ≡ bit_of t 31
below_top t = ap (λ n. eqb n 1) (omega arith)

-- on the left: that of the place 32 less the count
last_left_is : (x count : ℕ) → eqb (count % 32) 0 ≡ false → bit_of (shifted_left x (sum_word count 4294967295 false)) 31 ≡ bit_of x (32 - count % 32)
last_left_is x count h =
    let k = count % 32 in
    ap (λ j. bit_of (x * 2 ^ j % 2 ^ 32) 31) (less_is count h)
    ∙ below_top (x * 2 ^ (k - 1))
    ∙ ap (λ m. eqb (x * 2 ^ (k - 1) / m % 2) 1) (sym (halves count h))
    ∙ ap (λ n. eqb (n % 2) 1) (apart x (2 ^ (k - 1)) (2 ^ (32 - k)) (pow_pos (k - 1)) (pow_pos (32 - k)))

same_by : (b : Bool) {c c' : Bool} → (b ≡ true → c ≡ c') → (d : Bool) → cond b c d ≡ cond b c' d
same_by true h d = h refl
same_by false h d = refl

is_one : (count : ℕ) → eqb (count % 32) 1 ≡ true → count % 32 ≡ 1
is_one count h = grind (arith, nat_tests)

-- OF, whose value for the count 1 is another's
over_is : (count : ℕ) (p q old free o : Bool) → (count % 32 ≡ 1 → not (same p q) ≡ o) →
    bit_of (cond (eqb (word_and count 31) 0) (with_bit 0 0 old) (with_bit 0 0 (bit_of (cond (eqb (word_and count 31) 1) (with_bit 0 0 (not (same p q))) (with_bit 0 0 free)) 0))) 0
    ≡ cond (eqb (count % 32) 0) old (cond (eqb (count % 32) 1) o free)
over_is count p q old free o h =
    pick_is (eqb (word_and count 31) 0) 0 count old (bit_of (cond (eqb (word_and count 31) 1) (with_bit 0 0 (not (same p q))) (with_bit 0 0 free)) 0) (cond (eqb (count % 32) 1) o free) refl
    (λ e. choose_is (eqb (word_and count 31) 1) (not (same p q)) free ∙ ap (λ m. cond (eqb m 1) (not (same p q)) free) (count_is count) ∙ same_by (eqb (count % 32) 1) (λ t. h (is_one count t)) free)

kept_by : (count : ℕ) (old new new' : Bool) → (eqb (count % 32) 0 ≡ false → new ≡ new') → bit_of (cond (eqb (word_and count 31) 0) (with_bit 0 0 old) (with_bit 0 0 new)) 0 ≡ cond (eqb (count % 32) 0) old new'
kept_by count old new new' h = pick_is (eqb (word_and count 31) 0) 0 count old new new' refl h

not_same : (b : Bool) → not (same b false) ≡ b
not_same true = refl
not_same false = refl

rest_is : (count : ℕ) → count < 2 ^ 32 → sum_word (complement count) 0 true % 32 ≡ (32 - count % 32) % 32
rest_is count h = omega arith

left_lt : (x count : ℕ) → shifted_left x count < 2 ^ 32
left_lt x count = mod-lt (x * 2 ^ (count % 32)) (omega arith)

right_lt : (x k : ℕ) → x < 2 ^ 32 → x / 2 ^ k < 2 ^ 32
right_lt x k h = let e = div-le_self x (2 ^ k) in omega (arith, e)

arith_lt : (b : Bool) (x k : ℕ) → x < 2 ^ 32 → cond b (complement (complement x / 2 ^ k)) (x / 2 ^ k) < 2 ^ 32
arith_lt true x k h = omega arith
arith_lt false x k h = right_lt x k h

module _ {A : Type 0} where
  settled_is : (op : ShiftOp) (count r : ℕ) (last p q : Bool) (g : HostIn A ℕ Bool) → is_rotate op ≡ false → r ≡ shift_result op g.x (count % 32) → r < 2 ^ 32 →
      (eqb (count % 32) 0 ≡ false → last ≡ shift_carry op g.x (count % 32)) → (count % 32 ≡ 1 → not (same p q) ≡ shift_overflow op g.x) →
      outcome_of (λ n. n) (λ b. b) (settled_term plain_operations tt count r last p q g).effect ≡ shift_row op count (values_of (λ n. n) (λ b. b) g)
  settled_is op count r last p q g e er lt ec eo =
      told_same g.high false false er
      (kept_by count g.cf last (shift_carry op g.x (count % 32)) ec)
      (kept_by count g.zf (eqb r 0) (eqb (shift_result op g.x (count % 32)) 0) (λ _. ap (λ n. eqb n 0) er) ∙ sym (ap (λ (b : Bool). cond b g.zf (cond (eqb (count % 32) 0) g.zf (eqb (shift_result op g.x (count % 32)) 0))) e))
      (kept_by count g.sf (bit_of r 31) (is_negative (shift_result op g.x (count % 32))) (λ _. sign_is r lt ∙ ap (λ n. is_negative n) er) ∙ sym (ap (λ (b : Bool). cond b g.sf (cond (eqb (count % 32) 0) g.sf (is_negative (shift_result op g.x (count % 32))))) e))
      (over_is count p q g.of g.free_of (shift_overflow op g.x) eo)

  turned_is : (op : ShiftOp) (count r : ℕ) (last p q : Bool) (g : HostIn A ℕ Bool) → is_rotate op ≡ true → r ≡ shift_result op g.x (count % 32) →
      (eqb (count % 32) 0 ≡ false → last ≡ shift_carry op g.x (count % 32)) → (count % 32 ≡ 1 → not (same p q) ≡ shift_overflow op g.x) →
      outcome_of (λ n. n) (λ b. b) (turned_term plain_operations tt count r last p q g).effect ≡ shift_row op count (values_of (λ n. n) (λ b. b) g)
  turned_is op count r last p q g e er ec eo =
      told_same g.high false false er
      (kept_by count g.cf last (shift_carry op g.x (count % 32)) ec)
      (sym (ap (λ (b : Bool). cond b g.zf (cond (eqb (count % 32) 0) g.zf (eqb (shift_result op g.x (count % 32)) 0))) e))
      (sym (ap (λ (b : Bool). cond b g.sf (cond (eqb (count % 32) 0) g.sf (is_negative (shift_result op g.x (count % 32))))) e))
      (over_is count p q g.of g.free_of (shift_overflow op g.x) eo)

  pub shift_is : (op : ShiftOp) (count : ℕ) (g : HostIn A ℕ Bool) → g.x < 2 ^ 32 → count < 2 ^ 32 → outcome_of (λ n. n) (λ b. b) (shift_term plain_operations op tt count g).effect ≡ shift_row op count (values_of (λ n. n) (λ b. b) g)
  shift_is Rol count g hx hc =
      let r = rotated g.x count in
      let er : r ≡ rotated g.x (count % 32) = ap (λ k. g.x * 2 ^ k % 2 ^ 32 + g.x * 2 ^ k / 2 ^ 32) (mod_twice count) in
      turned_is Rol count r (bit_of r 0) (bit_of r 0) (bit_of r 31) g refl er (λ _. ap (λ n. bit_of n 0) er)
      (λ one. ap (λ n. not (same (bit_of n 0) (bit_of n 31))) (er ∙ ap (λ k. rotated g.x k) one) ∙ ap (λ (b : Bool). not (same (bit_of (rotated g.x 1) 0) b)) (sign_is (rotated g.x 1) (turned g.x 1 hx (omega arith))))
  shift_is Ror count g hx hc =
      let r = rotated g.x (sum_word (complement count) 0 true) in
      let er : r ≡ rotated g.x (32 - count % 32) = ap (λ k. g.x * 2 ^ k % 2 ^ 32 + g.x * 2 ^ k / 2 ^ 32) (rest_is count hc) in
      turned_is Ror count r (bit_of r 31) (bit_of r 31) (bit_of r 30) g refl er (λ _. ap (λ n. bit_of n 31) er)
      (λ one. ap (λ n. not (same (bit_of n 31) (bit_of n 30))) (er ∙ ap (λ k. rotated g.x (32 - k)) one))
  shift_is Shl count g hx hc =
      let r = shifted_left g.x count in
      let er : r ≡ shifted_left g.x (count % 32) = ap (λ k. g.x * 2 ^ k % 2 ^ 32) (mod_twice count) in
      let last = bit_of (shifted_left g.x (sum_word count 4294967295 false)) 31 in
      settled_is Shl count r last last (bit_of r 31) g refl er (left_lt g.x count) (last_left_is g.x count)
      (λ one. ap (λ (b : Bool). not (same b (bit_of r 31))) (last_left_is g.x count (ap (λ n. eqb n 0) one) ∙ ap (λ k. bit_of g.x (32 - k)) one)
      ∙ ap (λ (b : Bool). not (same (bit_of g.x (32 - 1)) b)) (sign_is r (left_lt g.x count) ∙ ap (λ n. is_negative n) (er ∙ ap (λ k. shifted_left g.x k) one)))
  shift_is Shr count g hx hc =
      let r = shifted_right g.x count in
      let er : r ≡ shifted_right g.x (count % 32) = ap (λ k. g.x / 2 ^ k) (mod_twice count) in
      settled_is Shr count r (bit_of (shifted_right g.x (sum_word count 4294967295 false)) 0) (bit_of g.x 31) false g refl er (right_lt g.x (count % 32) hx) (last_right_is g.x count)
      (λ one. not_same (bit_of g.x 31) ∙ sign_is g.x hx)
  shift_is Sar count g hx hc =
      let r = shifted_arith g.x count in
      let er : r ≡ shifted_arith g.x (count % 32) = ap (λ k. cond (is_negative g.x) (complement (complement g.x / 2 ^ k)) (g.x / 2 ^ k)) (mod_twice count) in
      settled_is Sar count r (bit_of (shifted_right g.x (sum_word count 4294967295 false)) 0) false false g refl er (arith_lt (is_negative g.x) g.x (count % 32) hx) (last_right_is g.x count)
      (λ one. refl)
