-- The terms of sums, differences and logic over plain words are their rows.
use Rattle.std.proofs.Common.{◌≡◌, ℕ, ◌^◌, ◌<◌, refl, ap, ◌∙◌, Bool, false, not, ◌&&◌, eqb, arith, bit_and, bit_or, bit_xor}
use Rattle.std.specs.Int.Bits.{and_lt}
use Rattle.std.proofs.lemmas.Nat.{or_lt, xor_lt}
use Rattle.std.proofs.lemmas.Bool.Decides.{nat_tests}
use Rattle.word_kit.specs.Prelude.{same, is_negative, complement, sum_word, sum_carries, difference_word, bit_of, word_and, word_or, word_xor, plain_operations}
use Rattle.word_kit.proofs.BitSums.{word_and-is, word_or-is, word_xor-is}
use Rattle.ia_codec.specs.Prelude.{alu_row, test_row, gives, sum_flags, difference_flags, logic_flags, HostEffect as Outcome}
use Rattle.ia_codec.specs.declared.op.AluOp.{AluOp}
use Rattle.ia_codec.specs.declared.op.AluOp.TheVariants.{Add, Or, Adc, Sbb, And, Sub, Xor, Cmp}
use Rattle.ia_alu.specs.declared.given.HostIn.{HostIn}
use Rattle.ia_alu.specs.Values.{values_of, outcome_of}
use Rattle.ia_alu.specs.Terms.{sum_term, difference_term, compare_term, logic_term, test_term, alu_term}
use Rattle.ia_alu.proofs.Bits.{sign_is}
use Rattle.ia_alu.proofs.Flags.{over_sum, over_difference, difference_is, borrow_is}
use Rattle.ia_alu.proofs.Told.{told, told_same}

sum_word_lt : (x y : ℕ) (c : Bool) → sum_word x y c < 2 ^ 32
sum_word_lt x y c = omega arith

difference_word_lt : (x y : ℕ) (c : Bool) → difference_word x y c < 2 ^ 32
difference_word_lt x y c = omega arith

top_of_complement : (y : ℕ) → y < 2 ^ 32 → bit_of (complement y) 31 ≡ not (is_negative y)
top_of_complement y h = grind (arith, nat_tests)

over_is : (a b s p q r : Bool) → a ≡ p → b ≡ q → s ≡ r → (not (same a s) && not (same b s)) ≡ (same p q && not (same r p))
over_is a b s p q r ea eb es = let o = over_sum p q r in rw (ea, eb, es) o

over_less : (a b s p q r : Bool) → a ≡ p → b ≡ not q → s ≡ r → (not (same a s) && not (same b s)) ≡ (not (same p q) && not (same r p))
over_less a b s p q r ea eb es = let o = over_difference p q r in rw (ea, eb, es) o

module _ {A : Type 0} where
  pub sum_is : (x y : ℕ) (c : Bool) (g : HostIn A ℕ Bool) → x < 2 ^ 32 → y < 2 ^ 32 →
      outcome_of (λ n. n) (λ b. b) (sum_term plain_operations tt x y c g).effect ≡ gives (sum_word x y c) (sum_flags x y c) (values_of (λ n. n) (λ b. b) g)
  sum_is x y c g hx hy =
      let s = sum_word x y c in
      let e = sign_is s (sum_word_lt x y c) in
      told_same g.high false false refl refl refl e (over_is (bit_of x 31) (bit_of y 31) (bit_of s 31) (is_negative x) (is_negative y) (is_negative s) (sign_is x hx) (sign_is y hy) e)

  pub less_is : (x y : ℕ) (d : Bool) (g : HostIn A ℕ Bool) (s : ℕ) → x < 2 ^ 32 → y < 2 ^ 32 → s ≡ difference_word x y d →
      told s g.high (not (sum_carries x (complement y) (not d))) (eqb s 0) (bit_of s 31) (not (same (bit_of x 31) (bit_of s 31)) && not (same (bit_of (complement y) 31) (bit_of s 31))) false false
      ≡ gives (difference_word x y d) (difference_flags x y d) (values_of (λ n. n) (λ b. b) g)
  less_is x y d g s hx hy e =
      let w = difference_word x y d in
      let t : bit_of s 31 ≡ is_negative w = ap (λ n. bit_of n 31) e ∙ sign_is w (difference_word_lt x y d) in
      told_same g.high false false e (borrow_is x y d hy) (ap (λ n. eqb n 0) e) t (over_less (bit_of x 31) (bit_of (complement y) 31) (bit_of s 31) (is_negative x) (is_negative y) (is_negative w) (sign_is x hx) (top_of_complement y hy) t)

  pub difference_row : (x y : ℕ) (d : Bool) (g : HostIn A ℕ Bool) → x < 2 ^ 32 → y < 2 ^ 32 →
      outcome_of (λ n. n) (λ b. b) (difference_term plain_operations tt x y (not d) g).effect ≡ gives (difference_word x y d) (difference_flags x y d) (values_of (λ n. n) (λ b. b) g)
  difference_row x y d g hx hy = less_is x y d g (sum_word x (complement y) (not d)) hx hy (difference_is x y d hy)

  -- cmp keeps the result
  pub compare_row : (g : HostIn A ℕ Bool) → g.x < 2 ^ 32 → g.y < 2 ^ 32 →
      outcome_of (λ n. n) (λ b. b) (compare_term plain_operations tt g).effect ≡ gives g.x (difference_flags g.x g.y false) (values_of (λ n. n) (λ b. b) g)
  compare_row g hx hy = ap (λ (o : Outcome). told g.x o.high o.flags.cf o.flags.zf o.flags.sf o.flags.of o.holds o.faults) (difference_row g.x g.y false g hx hy)

  pub logic_is : (w v : ℕ) (g : HostIn A ℕ Bool) → w ≡ v → v < 2 ^ 32 →
      outcome_of (λ n. n) (λ b. b) (logic_term plain_operations (record { word = w; held = tt }) g).effect ≡ gives v (logic_flags v) (values_of (λ n. n) (λ b. b) g)
  logic_is w v g e h = told_same g.high false false e refl (ap (λ n. eqb n 0) e) (ap (λ n. bit_of n 31) e ∙ sign_is v h) refl

  pub test_is : (g : HostIn A ℕ Bool) → g.x < 2 ^ 32 → g.y < 2 ^ 32 → outcome_of (λ n. n) (λ b. b) (test_term plain_operations tt g).effect ≡ test_row (values_of (λ n. n) (λ b. b) g)
  test_is g hx hy = ap (λ (o : Outcome). told g.x o.high o.flags.cf o.flags.zf o.flags.sf o.flags.of o.holds o.faults) (logic_is (word_and g.x g.y) (bit_and g.x g.y) g (word_and-is g.x g.y hx hy) (and_lt 32 g.x g.y hx hy))

  pub alu_is : (op : AluOp) (g : HostIn A ℕ Bool) → g.x < 2 ^ 32 → g.y < 2 ^ 32 → outcome_of (λ n. n) (λ b. b) (alu_term plain_operations op tt g).effect ≡ alu_row op (values_of (λ n. n) (λ b. b) g)
  alu_is Add g hx hy = sum_is g.x g.y false g hx hy
  alu_is Adc g hx hy = sum_is g.x g.y g.cf g hx hy
  alu_is Sub g hx hy = difference_row g.x g.y false g hx hy
  alu_is Sbb g hx hy = difference_row g.x g.y g.cf g hx hy
  alu_is And g hx hy = logic_is (word_and g.x g.y) (bit_and g.x g.y) g (word_and-is g.x g.y hx hy) (and_lt 32 g.x g.y hx hy)
  alu_is Or g hx hy = logic_is (word_or g.x g.y) (bit_or g.x g.y) g (word_or-is g.x g.y hx hy) (or_lt 32 g.x g.y hx hy)
  alu_is Xor g hx hy = logic_is (word_xor g.x g.y) (bit_xor g.x g.y) g (word_xor-is g.x g.y hx hy) (xor_lt 32 g.x g.y hx hy)
  alu_is Cmp g hx hy = compare_row g hx hy
