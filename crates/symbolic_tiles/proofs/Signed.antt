-- Signed and unsigned comparison from the flags of a difference; what the fields of CR get.
use Rattle.std.proofs.Common.{◌≡◌, ℕ, ◌-◌, ◌%◌, ◌^◌, ◌<◌, ◌≤◌, Bool, true, false, cond, not, eqb, ltb, pos, negsuc, bit_and, bit_or, ap, ◌∙◌, arith}
use Rattle.std.specs.Int.Bits.{and_self}
use Rattle.std.proofs.lemmas.Int.{ints}
use Rattle.std.proofs.lemmas.Bool.Decides.{nat_tests}
use Rattle.machines.specs.Prelude.{same, is_negative, signed, is_less, difference_word, Below, Less, difference_flags, logic_flags, condition_holds}
use Rattle.row_laws.proofs.Fields.{four_bits}
use Rattle.symbolic_tiles.proofs.Small.{or_so_8, or_so_4, or_so_2}

pub signed_low : (x : ℕ) → x < 2 ^ 31 → signed x ≡ pos x
signed_low x h = grind (arith, nat_tests)

pub signed_high : (x : ℕ) → 2 ^ 31 ≤ x → x < 2 ^ 32 → signed x ≡ negsuc (2 ^ 32 - 1 - x)
signed_high x l h = grind (arith, ints, nat_tests)

-- a signed comparison by signs
pub less_signed : (x y : ℕ) → x < 2 ^ 32 → y < 2 ^ 32 → is_less x y true ≡ cond (same (is_negative x) (is_negative y)) (ltb x y) (is_negative x)
less_signed x y hx hy = grind (arith, ints, nat_tests)

pub zero_test : (x y : ℕ) → x < 2 ^ 32 → y < 2 ^ 32 → eqb (difference_word x y false) 0 ≡ eqb x y
zero_test x y hx hy = grind (arith, nat_tests)

-- less is told by SF and OF
pub less_by_flags : (x y : ℕ) → x < 2 ^ 32 → y < 2 ^ 32 → condition_holds Less (difference_flags x y false) ≡ is_less x y true
less_by_flags x y hx hy = let e = less_signed x y hx hy in grind (arith, nat_tests)

-- CF tells an unsigned comparison
pub below_by_flags : (x y : ℕ) → condition_holds Below (difference_flags x y false) ≡ is_less x y false
below_by_flags x y = grind (arith, nat_tests)

-- the byte that a compare's field gets, where the condition holds and where the numbers are equal
abbrev pub field_byte : Bool → Bool → ℕ → ℕ
field_byte less equal so = bit_or (cond less 8 (cond equal 2 4)) (so % 256) % 256

pub field_by_tests : (lt gt eq less equal : Bool) (so : ℕ) → so < 2 → less ≡ lt → equal ≡ eq → cond lt false (cond eq false true) ≡ gt → cond lt (not eq) true ≡ true → field_byte less equal so ≡ four_bits lt gt eq (eqb so 1)
field_by_tests lt gt eq less equal so h p q r t = ap (λ (b : Bool). field_byte b equal so) p ∙ ap (λ (b : Bool). field_byte lt b so) q ∙ by_cases lt eq t ∙ ap (λ (b : Bool). four_bits lt b eq (eqb so 1)) r
  where
    by_cases : (lt eq : Bool) → cond lt (not eq) true ≡ true → field_byte lt eq so ≡ four_bits lt (cond lt false (cond eq false true)) eq (eqb so 1)
    by_cases true true t = absurd cc
    by_cases true false t = or_so_8 so h ∙ omega arith
    by_cases false true t = or_so_2 so h ∙ omega arith
    by_cases false false t = or_so_4 so h ∙ omega arith

-- of x and y the one is less, or the other, or they are equal
pub one_of_three : (x y : ℕ) (s : Bool) → x < 2 ^ 32 → y < 2 ^ 32 → (cond (is_less x y s) false (cond (eqb x y) false true) ≡ is_less y x s) × (cond (is_less x y s) (not (eqb x y)) true ≡ true)
one_of_three x y true hx hy = let p = less_signed x y hx hy in let q = less_signed y x hy hx in (grind (arith, nat_tests), grind (arith, nat_tests))
one_of_three x y false hx hy = (grind (arith, nat_tests), grind (arith, nat_tests))

pub field_of_compare : (x y so : ℕ) (s less equal : Bool) → x < 2 ^ 32 → y < 2 ^ 32 → so < 2 → less ≡ is_less x y s → equal ≡ eqb x y → field_byte less equal so ≡ four_bits (is_less x y s) (is_less y x s) (eqb x y) (eqb so 1)
field_of_compare x y so s less equal hx hy hs p q =
    let t = one_of_three x y s hx hy in
    field_by_tests (is_less x y s) (is_less y x s) (eqb x y) less equal so hs p q t.0 t.1

-- a result compared with 0 by test
pub field_of_result : (v r so : ℕ) → r ≡ v → v < 2 ^ 32 → so < 2 →
    field_byte (condition_holds Less (logic_flags (bit_and r r))) (eqb (bit_and r r) 0) so ≡ four_bits (is_less v 0 true) (is_less 0 v true) (eqb v 0) (eqb so 1)
field_of_result v r so e hv hs =
    let same : bit_and r r ≡ v = and_self r ∙ e in
    let p = less_signed v 0 hv (omega arith) in
    field_of_compare v 0 so true (condition_holds Less (logic_flags (bit_and r r))) (eqb (bit_and r r) 0) hv (omega arith) hs
    (ap (λ k. condition_holds Less (logic_flags k)) same ∙ negative v p) (ap (λ k. eqb k 0) same)
  where
    negative : (v : ℕ) → is_less v 0 true ≡ cond (same (is_negative v) (is_negative 0)) (ltb v 0) (is_negative v) → condition_holds Less (logic_flags v) ≡ is_less v 0 true
    negative v p = grind (arith, nat_tests)
