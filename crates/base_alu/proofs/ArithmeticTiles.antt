-- Tiles of arithmetic with registers.
use Rattle.std.proofs.Common.{◌≡◌, ℕ, suc, ◌+◌, ◌-◌, ◌*◌, ◌/◌, ◌%◌, ◌^◌, ◌<◌, ◌≤◌, Bool, true, false, cond, not, ◌&&◌, ◌||◌, eqb, ltb, ◌++◌, Option, Some, None, bit_and, bit_or, bit_xor, pos, neg_ℤ, int_div, ◌⊎◌, inl, inr, refl, sym, ap, ◌∙◌, subst, arith}
use Rattle.std.specs.Int.Bits.{and_self, xor_self, xor_assoc, xor_zero_r}
use Rattle.std.proofs.Math.Nat.{div-le_self, div-eq_of_lt}
use Rattle.std.proofs.lemmas.Nat.{le_or_l, le_or_r}
use Rattle.std.proofs.lemmas.Bool.{eqb-true}
use Rattle.std.proofs.lemmas.Bool.Decides.{nat_tests}
use Rattle.machines.specs.Prelude.{one_if, complement, signed, signed_in, two_complement, sum_word, sum_carries, shifted_arith, two_words, fits_word, signed_quotient, divide_faults, quotient, Instr, Arithmetic, ArithmeticUnary, ArithmeticOp, ArithmeticUnaryOp, IsLegal, quotient_signed, quotient_unsigned, sign_copies, update, Guest}
use Rattle.ppc_isa.specs.declared.instr.ArithmeticOp.TheVariants as arithmetic
use Rattle.ppc_isa.specs.declared.instr.ArithmeticUnaryOp.TheVariants as unary
use Rattle.ppc_isa.specs.Recording.{ca}
use Rattle.reg_map.specs.Prelude.{AreInRange}
use Rattle.symbolic_tiles.specs.Prelude.{IsTileOf, record_ops, SymbolicState, then_ops}
use Rattle.base_alu.proofs.Families.{arithmetic_do, unary_do}
use Rattle.base_alu.specs.Arithmetic.{arithmetic_ops, unary_ops}
use Rattle.row_laws.proofs.Changes.{values_in}
use Rattle.symbolic_tiles.proofs.Products.{high_word, parts_words}
use Rattle.symbolic_tiles.proofs.Rooms.{product_word}
use Rattle.ppc_sums.proofs.Quotients.{unsigned_is, signed_is, wide_is, fits_is}
use Rattle.symbolic_tiles.proofs.Signed.{signed_low, signed_high}
use Rattle.base_alu.proofs.SignShifts.{xor_test}
use Rattle.symbolic_tiles.proofs.Written.{ca_is}
use Rattle.symbolic_tiles.proofs.Results.{Then, HasResult, plain, put_both}
use Rattle.symbolic_tiles.proofs.Registers.{word, gpr}
use Rattle.base_alu.proofs.Sums.{ca_below, sub_word, sub_carry, sum_small, addc_does, adde_does, subfe_does}

-- a division that doesn't fault goes on
unless_then : (Q : SymbolicState → Type 0) (rest : SymbolicState → Option SymbolicState) (t : SymbolicState) (b : Bool) → b ≡ false → Then Q (rest t) → Then Q (then_ops rest (cond b None (Some t)))
unless_then Q rest t b e h = subst (λ (k : Bool). Then Q (then_ops rest (cond k None (Some t)))) (sym e) h

-- divwu: the divisor 0 becomes 1, and its dividend 0
divwu_faults : (z : Bool) (a b : ℕ) → eqb b 0 ≡ z → a < 2 ^ 32 → b < 2 ^ 32 → divide_faults 0 (cond z 0 a) (cond z 1 b) false ≡ false
divwu_faults true a b e ha hb = refl
divwu_faults false a b e ha hb = let q = div-le_self (0 * 2 ^ 32 + a) b in grind (arith, nat_tests)

divwu_is : (z : Bool) (a b : ℕ) → eqb b 0 ≡ z → a < 2 ^ 32 → quotient 0 (cond z 0 a) (cond z 1 b) false ≡ quotient_unsigned a b
divwu_is true a b e ha = sym (ap (λ (k : Bool). cond k 0 (a / b)) e)
divwu_is false a b e ha = unsigned_is a b ha

-- divw: also where the quotient would be 2^31 the dividend becomes 0
abbrev overflows : ℕ → ℕ → Bool
overflows a b = eqb a (2 ^ 31) && eqb b (2 ^ 32 - 1)

either_zero : (x y : ℕ) → eqb (bit_or x y) 0 ≡ (eqb x 0 && eqb y 0)
either_zero x y = by_tests (eqb x 0) (eqb y 0) refl refl
  where
    by_tests : (p q : Bool) → eqb x 0 ≡ p → eqb y 0 ≡ q → eqb (bit_or x y) 0 ≡ (p && q)
    by_tests true true p q = let e : x ≡ 0 = eqb-true x 0 p in let f : y ≡ 0 = eqb-true y 0 q in rw (e, f) refl
    by_tests true false p q = let r = le_or_r x y in grind (arith, nat_tests)
    by_tests false q p h = let l = le_or_l x y in grind (arith, nat_tests)

overflow_told : (a b : ℕ) → b < 2 ^ 32 → eqb (bit_and (bit_or (complement b) (bit_xor a 0x80000000)) (bit_or (complement b) (bit_xor a 0x80000000))) 0 ≡ overflows a b
overflow_told a b hb =
    ap (λ k. eqb k 0) (and_self (bit_or (complement b) (bit_xor a 0x80000000))) ∙ either_zero (complement b) (bit_xor a 0x80000000)
    ∙ ap (λ k. eqb (complement b) 0 && k) (xor_test a 0x80000000) ∙ turned
  where
    turned : (eqb (complement b) 0 && eqb a 0x80000000) ≡ overflows a b
    turned = grind (arith, nat_tests)

twice_xor : (a m : ℕ) → bit_xor (bit_xor a m) m ≡ a
twice_xor a m = xor_assoc a m m ∙ ap (bit_xor a) (xor_self m) ∙ xor_zero_r a

-- dividend and divisor of idiv
abbrev divided : Bool → Bool → ℕ → ℕ
divided z o a = cond z 0 (cond o 0 a)

divw_faults : (z o : Bool) (a b : ℕ) → eqb b 0 ≡ z → overflows a b ≡ o → a < 2 ^ 32 → b < 2 ^ 32 → divide_faults (sign_copies (divided z o a)) (divided z o a) (cond z 1 b) true ≡ false
divw_faults true o a b e f ha hb = refl
divw_faults false true a b e f ha hb = let q = fits_is 0 b (omega arith) hb in
    ap (λ k. k || not (fits_word (signed_quotient 0 0 b))) e ∙ ap not q
divw_faults false false a b e f ha hb =
    let w : signed_quotient (sign_copies a) a b ≡ int_div (signed a) (signed b) = ap (λ k. int_div k (signed b)) (copies_wide a ha) in
    ap (λ k. k || not (fits_word (signed_quotient (sign_copies a) a b))) e ∙ ap (λ k. not (fits_word k)) w ∙ ap not (fits_is a b ha hb) ∙ ap (λ k. not (not k)) f
  where
    copies_wide : (x : ℕ) → x < 2 ^ 32 → signed_in 64 (two_words (sign_copies x) x) ≡ signed x
    copies_wide x h = ap (λ k. signed_in 64 (two_words k x)) (sym (copies_are x h)) ∙ wide_is x h
      where
        copies_are : (x : ℕ) → x < 2 ^ 32 → shifted_arith x 31 ≡ sign_copies x
        copies_are x h = grind (arith, nat_tests)

divw_is : (z o : Bool) (a b : ℕ) → eqb b 0 ≡ z → overflows a b ≡ o → a < 2 ^ 32 → b < 2 ^ 32 → quotient (sign_copies (divided z o a)) (divided z o a) (cond z 1 b) true ≡ quotient_signed a b
divw_is true o a b e f ha hb = sym (ap (λ (k : Bool). cond (k || overflows a b) 0 (two_complement 32 (int_div (signed a) (signed b)))) e)
divw_is false true a b e f ha hb = last (divide_faults 0 0 b true) ∙ sym (ap (λ (k : Bool). cond (k || overflows a b) 0 (two_complement 32 (int_div (signed a) (signed b)))) e ∙ ap (λ (k : Bool). cond k 0 (two_complement 32 (int_div (signed a) (signed b)))) f)
  where
    quotient_0 : int_div (pos 0) (signed b) ≡ pos 0
    quotient_0 = by_sign (grind arith)
      where
        by_sign : (b < 2 ^ 31) ⊎ (2 ^ 31 ≤ b) → int_div (pos 0) (signed b) ≡ pos 0
        by_sign (inl l) = ap (int_div (pos 0)) (signed_low b l) ∙ ap pos (div-eq_of_lt {n = 0} {m = b} (let k : 0 < b = grind (arith, nat_tests) in k))
        by_sign (inr l) = ap (int_div (pos 0)) (signed_high b l hb) ∙ ap (λ k. neg_ℤ (pos k)) (div-eq_of_lt {n = 0} {m = suc (2 ^ 32 - 1 - b)} (omega arith))

    last : (k : Bool) → cond k 0 (two_complement 32 (int_div (signed_in 64 (two_words 0 0)) (signed b))) ≡ 0
    last true = refl
    last false = ap (two_complement 32) quotient_0
divw_is false false a b e f ha hb = ap (λ k. quotient k a b true) (copies_are a ha) ∙ signed_is a b ha hb
  where
    copies_are : (x : ℕ) → x < 2 ^ 32 → sign_copies x ≡ shifted_arith x 31
    copies_are x h = grind (arith, nat_tests)

-- a sum with CA as neg gives it
with_ca : (n : Bool → ℕ) (k : Bool → Bool) (i : Instr) (g : Guest) (d : ℕ) → AreInRange g → ((c : Bool) → n c < 2 ^ 32) →
    (n (ca (values_in i g)) < 2 ^ 32) × ((n (ltb 0 (g.locs 42 % 256 + one_if false)) ≡ n (ca (values_in i g))) × ((x : ℕ) → update (update g.locs d (n (ltb 0 (g.locs 42 % 256 + one_if false)))) 42 (one_if (k (ltb 0 (g.locs 42 % 256 + one_if false)))) x ≡ update (update g.locs d (n (ca (values_in i g)))) 42 (one_if (k (ca (values_in i g)))) x) × (g.bytes ≡ g.bytes))
with_ca n k i g d range small =
    let c = ca_below (g.locs 42) (range 42 (omega arith)) ∙ sym (ca_is (values_in i g) g.locs range (record { cr = refl; xer = refl })) in
    (small (ca (values_in i g)), (ap n c, put_both g.locs d (ap n c) (ap k c), refl))

pub arithmetic_does : (op : ArithmeticOp) (d a b : ℕ) (records : Bool) → IsLegal (Arithmetic op d a b records) → IsTileOf (Arithmetic op d a b records) (arithmetic_ops op d a b ++ record_ops records)
arithmetic_does arithmetic.Add d a b r legal = arithmetic_do arithmetic.Add d a b r legal (arithmetic_ops arithmetic.Add d a b) ((tt, word a (legal.fit.1.1.0)), ((tt, word b (legal.fit.1.1.1.0)), ((word d (legal.fit.1.0), tt), tt))) (omega arith)
    (λ guest host g regs flags choices range words. plain g.locs g.bytes d (omega arith) (omega arith))
arithmetic_does arithmetic.Addc d a b r legal = addc_does d a b r legal
arithmetic_does arithmetic.Adde d a b r legal = adde_does d a b r legal
arithmetic_does arithmetic.Subf d a b r legal = arithmetic_do arithmetic.Subf d a b r legal (arithmetic_ops arithmetic.Subf d a b) ((tt, word b (legal.fit.1.1.1.0)), ((tt, word a (legal.fit.1.1.0)), ((word d (legal.fit.1.0), tt), tt))) (omega arith)
    (λ guest host g regs flags choices range words. plain g.locs g.bytes d (sub_word (g.locs a) (g.locs b) true (gpr g a range (legal.fit.1.1.0))) (omega arith))
arithmetic_does arithmetic.Subfc d a b r legal = arithmetic_do arithmetic.Subfc d a b r legal (arithmetic_ops arithmetic.Subfc d a b) ((tt, word b (legal.fit.1.1.1.0)), ((tt, word a (legal.fit.1.1.0)), ((word d (legal.fit.1.0), tt), ((omega arith, omega arith), tt)))) (omega arith)
    (λ guest host g regs flags choices range words.
    let x = gpr g a range (legal.fit.1.1.0) in
    let w = sub_word (g.locs a) (g.locs b) true x in
    (sum_small (complement (g.locs a)) (g.locs b) true, (w, put_both g.locs d w (sub_carry (g.locs a) (g.locs b) true x), refl)))
arithmetic_does arithmetic.Subfe d a b r legal = subfe_does d a b r legal
arithmetic_does arithmetic.Mullw d a b r legal = arithmetic_do arithmetic.Mullw d a b r legal (arithmetic_ops arithmetic.Mullw d a b) ((tt, word a (legal.fit.1.1.0)), ((tt, word b (legal.fit.1.1.1.0)), ((word d (legal.fit.1.0), tt), tt))) (omega arith)
    (λ guest host g regs flags choices range words. plain g.locs g.bytes d refl (product_word (g.locs a) (g.locs b)))
arithmetic_does arithmetic.Mulhw d a b r legal = arithmetic_do arithmetic.Mulhw d a b r legal (arithmetic_ops arithmetic.Mulhw d a b) ((tt, word a (legal.fit.1.1.0)), (word b (legal.fit.1.1.1.0), ((tt, tt), ((word d (legal.fit.1.0), tt), tt)))) (omega arith)
    (λ guest host g regs flags choices range words. plain g.locs g.bytes d refl (high_word (g.locs a) (g.locs b) true (gpr g a range (legal.fit.1.1.0)) (gpr g b range (legal.fit.1.1.1.0))))
arithmetic_does arithmetic.Mulhwu d a b r legal = arithmetic_do arithmetic.Mulhwu d a b r legal (arithmetic_ops arithmetic.Mulhwu d a b) ((tt, word a (legal.fit.1.1.0)), (word b (legal.fit.1.1.1.0), ((tt, tt), ((word d (legal.fit.1.0), tt), tt)))) (omega arith)
    (λ guest host g regs flags choices range words. plain g.locs g.bytes d refl (high_word (g.locs a) (g.locs b) false (gpr g a range (legal.fit.1.1.0)) (gpr g b range (legal.fit.1.1.1.0))))
arithmetic_does arithmetic.Divwu d a b r legal = arithmetic_do arithmetic.Divwu d a b r legal (arithmetic_ops arithmetic.Divwu d a b)
    ((tt, word b (legal.fit.1.1.1.0)), ((tt, word a (legal.fit.1.1.0)), ((tt, omega arith), ((tt, tt), ((tt, tt), ((tt, omega arith), ((tt, tt), ((tt, omega arith), (tt, ((word d (legal.fit.1.0), tt), tt)))))))))) (omega arith)
    (λ guest host g regs flags choices range words.
    let A = g.locs a in
    let B = g.locs b in
    let x = gpr g a range (legal.fit.1.1.0) in
    let y = gpr g b range (legal.fit.1.1.1.0) in
    let z : eqb (bit_and B B) 0 ≡ eqb B 0 = ap (λ k. eqb k 0) (and_self B) in
    let f : divide_faults 0 (cond (eqb (bit_and B B) 0) 0 A) (cond (eqb (bit_and B B) 0) 1 B) false ≡ false = ap (λ (k : Bool). divide_faults 0 (cond k 0 A) (cond k 1 B) false) z ∙ divwu_faults (eqb B 0) A B refl x y in
    let w : quotient 0 (cond (eqb (bit_and B B) 0) 0 A) (cond (eqb (bit_and B B) 0) 1 B) false ≡ quotient_unsigned A B = ap (λ (k : Bool). quotient 0 (cond k 0 A) (cond k 1 B) false) z ∙ divwu_is (eqb B 0) A B refl x in
    let n : quotient_unsigned A B < 2 ^ 32 = quotient_small (eqb B 0) A B x in
    (n, unless_then (HasResult false d (quotient_unsigned A B) false g) _ _ (divide_faults 0 (cond (eqb (bit_and B B) 0) 0 A) (cond (eqb (bit_and B B) 0) 1 B) false) f (w, (λ q. ap (λ k. update g.locs d k q) w), refl)))
  where
    quotient_small : (z : Bool) (a b : ℕ) → a < 2 ^ 32 → cond z 0 (a / b) < 2 ^ 32
    quotient_small true a b h = omega arith
    quotient_small false a b h = let q = div-le_self a b in omega (arith, q, h)
arithmetic_does arithmetic.Divw d a b r legal = arithmetic_do arithmetic.Divw d a b r legal (arithmetic_ops arithmetic.Divw d a b)
    ((tt, word a (legal.fit.1.1.0)), ((tt, word b (legal.fit.1.1.1.0)), ((tt, tt), (tt, ((tt, omega arith), ((tt, tt), ((tt, omega arith), ((tt, tt), ((tt, omega arith), ((tt, tt), ((tt, tt), ((tt, tt), ((tt, omega arith), ((tt, tt), (tt, (tt, ((word d (legal.fit.1.0), tt), tt))))))))))))))))) (omega arith)
    (λ guest host g regs flags choices range words.
    let A = g.locs a in
    let B = g.locs b in
    let x = gpr g a range (legal.fit.1.1.0) in
    let y = gpr g b range (legal.fit.1.1.1.0) in
    let T = bit_xor (bit_xor A 0x80000000) 0x80000000 in
    let E = bit_or (complement B) (bit_xor A 0x80000000) in
    let D = divided (eqb (bit_and B B) 0) (eqb (bit_and E E) 0) T in
    let V = cond (eqb (bit_and B B) 0) 1 B in
    let z : eqb (bit_and B B) 0 ≡ eqb B 0 = ap (λ k. eqb k 0) (and_self B) in
    let o : eqb (bit_and E E) 0 ≡ overflows A B = overflow_told A B y in
    let eD : D ≡ divided (eqb B 0) (overflows A B) A = ap (λ k. divided k (eqb (bit_and E E) 0) T) z ∙ ap (λ k. divided (eqb B 0) k T) o ∙ ap (divided (eqb B 0) (overflows A B)) (twice_xor A 0x80000000) in
    let eV : V ≡ cond (eqb B 0) 1 B = ap (λ (k : Bool). cond k 1 B) z in
    let f : divide_faults (sign_copies D) D V true ≡ false = ap (λ k. divide_faults (sign_copies k) k V true) eD ∙ ap (λ k. divide_faults (sign_copies (divided (eqb B 0) (overflows A B) A)) (divided (eqb B 0) (overflows A B) A) k true) eV ∙ divw_faults (eqb B 0) (overflows A B) A B refl refl x y in
    let w : quotient (sign_copies D) D V true ≡ quotient_signed A B = ap (λ k. quotient (sign_copies k) k V true) eD ∙ ap (λ k. quotient (sign_copies (divided (eqb B 0) (overflows A B) A)) (divided (eqb B 0) (overflows A B) A) k true) eV ∙ divw_is (eqb B 0) (overflows A B) A B refl refl x y in
    let n : quotient_signed A B < 2 ^ 32 = subst (λ k. k < 2 ^ 32) w (parts_words (sign_copies D) D V true (subst (λ k. k < 2 ^ 32) (sym eV) (divisor_small (eqb B 0) B y)) f).0 in
    (n, unless_then (HasResult false d (quotient_signed A B) false g) _ _ (divide_faults (sign_copies D) D V true) f (w, (λ q. ap (λ k. update g.locs d k q) w), refl)))
  where
    divisor_small : (z : Bool) (b : ℕ) → b < 2 ^ 32 → cond z 1 b < 2 ^ 32
    divisor_small true b h = omega arith
    divisor_small false b h = h

pub unary_does : (op : ArithmeticUnaryOp) (d a : ℕ) (records : Bool) → IsLegal (ArithmeticUnary op d a records) → IsTileOf (ArithmeticUnary op d a records) (unary_ops op d a ++ record_ops records)
unary_does unary.Addze d a r legal = unary_do unary.Addze d a r legal (unary_ops unary.Addze d a) ((tt, (omega arith, omega arith)), (tt, ((tt, word a (legal.fit.1.1.0)), ((tt, omega arith), ((word d (legal.fit.1.0), tt), ((omega arith, omega arith), tt)))))) (omega arith)
    (λ guest host g regs flags choices range words. with_ca (λ c. sum_word (g.locs a) 0 c) (λ c. sum_carries (g.locs a) 0 c) (ArithmeticUnary unary.Addze d a r) g d range (λ c. omega arith))
unary_does unary.Addme d a r legal = unary_do unary.Addme d a r legal (unary_ops unary.Addme d a) ((tt, (omega arith, omega arith)), (tt, ((tt, word a (legal.fit.1.1.0)), ((tt, omega arith), ((word d (legal.fit.1.0), tt), ((omega arith, omega arith), tt)))))) (omega arith)
    (λ guest host g regs flags choices range words. with_ca (λ c. sum_word (g.locs a) 0xFFFFFFFF c) (λ c. sum_carries (g.locs a) 0xFFFFFFFF c) (ArithmeticUnary unary.Addme d a r) g d range (λ c. omega arith))
unary_does unary.Subfze d a r legal = unary_do unary.Subfze d a r legal (unary_ops unary.Subfze d a) ((tt, word a (legal.fit.1.1.0)), (tt, ((tt, (omega arith, omega arith)), (tt, ((tt, omega arith), ((word d (legal.fit.1.0), tt), ((omega arith, omega arith), tt))))))) (omega arith)
    (λ guest host g regs flags choices range words. with_ca (λ c. sum_word (complement (g.locs a)) 0 c) (λ c. sum_carries (complement (g.locs a)) 0 c) (ArithmeticUnary unary.Subfze d a r) g d range (λ c. omega arith))
unary_does unary.Subfme d a r legal = unary_do unary.Subfme d a r legal (unary_ops unary.Subfme d a) ((tt, word a (legal.fit.1.1.0)), (tt, ((tt, (omega arith, omega arith)), (tt, ((tt, omega arith), ((word d (legal.fit.1.0), tt), ((omega arith, omega arith), tt))))))) (omega arith)
    (λ guest host g regs flags choices range words. with_ca (λ c. sum_word (complement (g.locs a)) 0xFFFFFFFF c) (λ c. sum_carries (complement (g.locs a)) 0xFFFFFFFF c) (ArithmeticUnary unary.Subfme d a r) g d range (λ c. omega arith))
unary_does unary.Neg d a r legal = unary_do unary.Neg d a r legal (unary_ops unary.Neg d a) ((tt, word a (legal.fit.1.1.0)), (tt, ((word d (legal.fit.1.0), tt), tt))) (omega arith)
    (λ guest host g regs flags choices range words. plain g.locs g.bytes d (sub_word (g.locs a) 0 true (gpr g a range (legal.fit.1.1.0))) (omega arith))
