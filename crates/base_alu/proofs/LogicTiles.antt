-- Tiles of logic, of shifts of words, and of counts and extensions.
use Rattle.std.proofs.Common.{◌≡◌, ℕ, zero, suc, ◌+◌, ◌-◌, ◌*◌, ◌/◌, ◌%◌, ◌^◌, ◌<◌, ◌≤◌, Bool, true, false, cond, not, eqb, leb, List, ◌++◌, bit_and, bit_or, bit_xor, refl, sym, ap, ◌∙◌, subst, mul_assoc, arith}
use Rattle.std.specs.Int.Bits.{and_lt}
use Rattle.std.proofs.Math.Nat.{mod-lt, div-eq_of_lt, div-le_self, mul-mod_left, pow-suc}
use Rattle.std.proofs.Math.Pow.{pow_mono, pow_pos, split}
use Rattle.std.proofs.lemmas.Nat.{or_lt, xor_lt, and_comm, or_comm, pow-add}
use Rattle.std.proofs.lemmas.Bool.{eqb-true}
use Rattle.std.proofs.lemmas.Bool.Decides.{nat_tests}
use Rattle.word_kit.proofs.Rooms.{below_factor}
use Rattle.machines.specs.Prelude.{complement, bit_of, word_and, word_or, word_xor, shifted_left, shifted_right, Logic, LogicUnary, LogicOp, LogicUnaryOp, Cntlzw, Extsb, Extsh, IsLegal, left_by, right_by, leading_zeros, logic_unary_row, highest_one, choice_at}
use Rattle.word_kit.proofs.BitSums.{word_and-is, word_or-is, word_xor-is}
use Rattle.ppc_isa.specs.declared.instr.LogicOp.TheVariants as logic
use Rattle.symbolic_tiles.specs.Prelude.{IsTileOf, room_of, AreWellFormed, record_ops}
use Rattle.symbolic_tiles.specs.declared.symbolic_op.SymbolicOp.{SymbolicOp}
use Rattle.base_alu.proofs.Families.{logic_do}
use Rattle.base_alu.specs.Logic.{logic_ops, logic_unary_ops}
use Rattle.row_laws.proofs.Shapes.{logic_unary_gives}
use Rattle.row_laws.proofs.Changes.{values_in}
use Rattle.symbolic_tiles.proofs.Results.{plain, OpsGive, results_do}
use Rattle.base_alu.proofs.SignShifts.{test_32, near_count, far_count, sraw_does}
use Rattle.symbolic_tiles.proofs.Small.{each_same}
use Rattle.symbolic_tiles.proofs.Registers.{word, gpr}

and_is : (x y : ℕ) → x < 2 ^ 32 → y < 2 ^ 32 → bit_and x y ≡ word_and x y
and_is x y hx hy = sym (word_and-is x y hx hy)

or_is : (x y : ℕ) → x < 2 ^ 32 → y < 2 ^ 32 → bit_or x y ≡ word_or x y
or_is x y hx hy = sym (word_or-is x y hx hy)

xor_is : (x y : ℕ) → x < 2 ^ 32 → y < 2 ^ 32 → bit_xor x y ≡ word_xor x y
xor_is x y hx hy = sym (word_xor-is x y hx hy)

-- past 32 nothing is left
left_is : (far : Bool) (b s : ℕ) → leb 32 (b % 64) ≡ far → cond far 0 (shifted_left s (b % 2 ^ 8 % 32)) ≡ left_by s (b % 64)
left_is false b s e = ap (λ k. s * 2 ^ k % 2 ^ 32) (near_count b e)
left_is true b s e =
    let n = b % 64 in
    let h = far_count b e in
    let t : n - 32 + 32 ≡ n = omega arith in
    let p : 2 ^ n ≡ 2 ^ (n - 32) * 2 ^ 32 = ap (λ k. 2 ^ k) (sym t) ∙ pow-add 2 (n - 32) 32 in
    sym (ap (λ k. k % 2 ^ 32) (ap (λ k. s * k) p ∙ sym (mul_assoc s (2 ^ (n - 32)) (2 ^ 32))) ∙ mul-mod_left (s * 2 ^ (n - 32)) (2 ^ 32))

right_is : (far : Bool) (b s : ℕ) → leb 32 (b % 64) ≡ far → s < 2 ^ 32 → cond far 0 (shifted_right s (b % 2 ^ 8 % 32)) ≡ right_by s (b % 64)
right_is false b s e hs = ap (λ k. s / 2 ^ k) (near_count b e)
right_is true b s e hs = let p : 2 ^ 32 ≤ 2 ^ (b % 64) = pow_mono {i = 32} {j = b % 64} (far_count b e) in sym (div-eq_of_lt (omega (arith, p)))

pub logic_does : (op : LogicOp) (s a b : ℕ) (records : Bool) → IsLegal (Logic op s a b records) → IsTileOf (Logic op s a b records) (logic_ops op s a b ++ record_ops records)
logic_does logic.And s a b r legal = logic_do logic.And s a b r legal (logic_ops logic.And s a b) ((tt, word s (legal.fit.1.0)), ((tt, word b (legal.fit.1.1.1.0)), ((word a (legal.fit.1.1.0), tt), tt))) (omega arith)
    (λ guest host g regs flags choices range words. let x = gpr g s range (legal.fit.1.0) in let y = gpr g b range (legal.fit.1.1.1.0) in plain g.locs g.bytes a (and_is (g.locs s) (g.locs b) x y) (and_lt 32 (g.locs s) (g.locs b) x y))
logic_does logic.Or s a b r legal = logic_do logic.Or s a b r legal (logic_ops logic.Or s a b) ((tt, word s (legal.fit.1.0)), ((tt, word b (legal.fit.1.1.1.0)), ((word a (legal.fit.1.1.0), tt), tt))) (omega arith)
    (λ guest host g regs flags choices range words. let x = gpr g s range (legal.fit.1.0) in let y = gpr g b range (legal.fit.1.1.1.0) in plain g.locs g.bytes a (or_is (g.locs s) (g.locs b) x y) (or_lt 32 (g.locs s) (g.locs b) x y))
logic_does logic.Xor s a b r legal = logic_do logic.Xor s a b r legal (logic_ops logic.Xor s a b) ((tt, word s (legal.fit.1.0)), ((tt, word b (legal.fit.1.1.1.0)), ((word a (legal.fit.1.1.0), tt), tt))) (omega arith)
    (λ guest host g regs flags choices range words. let x = gpr g s range (legal.fit.1.0) in let y = gpr g b range (legal.fit.1.1.1.0) in plain g.locs g.bytes a (xor_is (g.locs s) (g.locs b) x y) (xor_lt 32 (g.locs s) (g.locs b) x y))
logic_does logic.Nand s a b r legal = logic_do logic.Nand s a b r legal (logic_ops logic.Nand s a b) ((tt, word s (legal.fit.1.0)), ((tt, word b (legal.fit.1.1.1.0)), (tt, ((word a (legal.fit.1.1.0), tt), tt)))) (omega arith)
    (λ guest host g regs flags choices range words. let x = gpr g s range (legal.fit.1.0) in let y = gpr g b range (legal.fit.1.1.1.0) in plain g.locs g.bytes a (ap complement (and_is (g.locs s) (g.locs b) x y)) (omega arith))
logic_does logic.Nor s a b r legal = logic_do logic.Nor s a b r legal (logic_ops logic.Nor s a b) ((tt, word s (legal.fit.1.0)), ((tt, word b (legal.fit.1.1.1.0)), (tt, ((word a (legal.fit.1.1.0), tt), tt)))) (omega arith)
    (λ guest host g regs flags choices range words. let x = gpr g s range (legal.fit.1.0) in let y = gpr g b range (legal.fit.1.1.1.0) in plain g.locs g.bytes a (ap complement (or_is (g.locs s) (g.locs b) x y)) (omega arith))
logic_does logic.Eqv s a b r legal = logic_do logic.Eqv s a b r legal (logic_ops logic.Eqv s a b) ((tt, word s (legal.fit.1.0)), ((tt, word b (legal.fit.1.1.1.0)), (tt, ((word a (legal.fit.1.1.0), tt), tt)))) (omega arith)
    (λ guest host g regs flags choices range words. let x = gpr g s range (legal.fit.1.0) in let y = gpr g b range (legal.fit.1.1.1.0) in plain g.locs g.bytes a (ap complement (xor_is (g.locs s) (g.locs b) x y)) (omega arith))
logic_does logic.Andc s a b r legal = logic_do logic.Andc s a b r legal (logic_ops logic.Andc s a b) ((tt, word b (legal.fit.1.1.1.0)), (tt, ((tt, word s (legal.fit.1.0)), ((word a (legal.fit.1.1.0), tt), tt)))) (omega arith)
    (λ guest host g regs flags choices range words. let x = gpr g s range (legal.fit.1.0) in let y : complement (g.locs b) < 2 ^ 32 = omega arith in plain g.locs g.bytes a (and_comm (complement (g.locs b)) (g.locs s) ∙ and_is (g.locs s) (complement (g.locs b)) x y) (and_lt 32 (complement (g.locs b)) (g.locs s) y x))
logic_does logic.Orc s a b r legal = logic_do logic.Orc s a b r legal (logic_ops logic.Orc s a b) ((tt, word b (legal.fit.1.1.1.0)), (tt, ((tt, word s (legal.fit.1.0)), ((word a (legal.fit.1.1.0), tt), tt)))) (omega arith)
    (λ guest host g regs flags choices range words. let x = gpr g s range (legal.fit.1.0) in let y : complement (g.locs b) < 2 ^ 32 = omega arith in plain g.locs g.bytes a (or_comm (complement (g.locs b)) (g.locs s) ∙ or_is (g.locs s) (complement (g.locs b)) x y) (or_lt 32 (complement (g.locs b)) (g.locs s) y x))
logic_does logic.Slw s a b r legal = logic_do logic.Slw s a b r legal (logic_ops logic.Slw s a b) ((tt, word b (legal.fit.1.1.1.0)), ((tt, word s (legal.fit.1.0)), (tt, ((tt, omega arith), ((tt, omega arith), ((tt, tt), ((word a (legal.fit.1.1.0), tt), tt))))))) (omega arith)
    (λ guest host g regs flags choices range words.
    let e = ap (λ (t : Bool). cond t 0 (shifted_left (g.locs s) (g.locs b % 2 ^ 8 % 32))) (test_32 (g.locs b)) ∙ left_is (leb 32 (g.locs b % 64)) (g.locs b) (g.locs s) refl in
    plain g.locs g.bytes a e (subst (λ k. k < 2 ^ 32) (sym e) (mod-lt (g.locs s * 2 ^ (g.locs b % 64)) (omega arith))))
logic_does logic.Srw s a b r legal = logic_do logic.Srw s a b r legal (logic_ops logic.Srw s a b) ((tt, word b (legal.fit.1.1.1.0)), ((tt, word s (legal.fit.1.0)), (tt, ((tt, omega arith), ((tt, omega arith), ((tt, tt), ((word a (legal.fit.1.1.0), tt), tt))))))) (omega arith)
    (λ guest host g regs flags choices range words.
    let x = gpr g s range (legal.fit.1.0) in
    let e = ap (λ (t : Bool). cond t 0 (shifted_right (g.locs s) (g.locs b % 2 ^ 8 % 32))) (test_32 (g.locs b)) ∙ right_is (leb 32 (g.locs b % 64)) (g.locs b) (g.locs s) refl x in
    plain g.locs g.bytes a e (subst (λ k. k < 2 ^ 32) (sym e) (let d = div-le_self (g.locs s) (2 ^ (g.locs b % 64)) in omega (arith, d, x))))
logic_does logic.Sraw s a b r legal = sraw_does s a b r legal

-- a word of 0, and every place n of the highest 1: bsr's place, with 63 for none, turned over by 31
some_bit : ℕ → ℕ → Bool
some_bit zero x = false
some_bit (suc n) x = cond (bit_of x n) true (some_bit n x)

zeros_by_scan : (n x : ℕ) → n ≤ 32 → bit_xor (cond (some_bit n x) (highest_one n x) 63) 31 ≡ leading_zeros n x
unfolding some_bit highest_one leading_zeros
zeros_by_scan zero x h = refl
zeros_by_scan (suc n) x h = by_bit (bit_of x n) (zeros_by_scan n x (omega arith))
  where
    by_bit : (b : Bool) → bit_xor (cond (some_bit n x) (highest_one n x) 63) 31 ≡ leading_zeros n x → bit_xor (cond (cond b true (some_bit n x)) (cond b n (highest_one n x)) 63) 31 ≡ cond b (31 - n) (leading_zeros n x)
    by_bit true e = each_same (λ k. bit_xor k 31) (λ k. 31 - k) 32 n refl (omega arith)
    by_bit false e = e

no_bit : (n x : ℕ) → x < 2 ^ n → some_bit n x ≡ not (eqb x 0)
unfolding some_bit
no_bit zero x h = let z : x ≡ 0 = omega arith in rw z refl
no_bit (suc n) x h = by_bit (bit_of x n) refl (no_bit n x)
  where
    p : 2 ^ suc n ≡ 2 ^ n * 2
    p = pow-suc 2 n

    low : x / 2 ^ n < 2
    low = below_factor (x / 2 ^ n) (2 ^ n) 2 (let s = split x n in omega (arith, s, p))

    by_bit : (b : Bool) → bit_of x n ≡ b → (x < 2 ^ n → some_bit n x ≡ not (eqb x 0)) → cond b true (some_bit n x) ≡ not (eqb x 0)
    by_bit true e rest = let z : eqb x 0 ≡ false = nonzero (eqb x 0) refl in sym (ap not z)
      where
        nonzero : (t : Bool) → eqb x 0 ≡ t → t ≡ false
        nonzero false q = refl
        nonzero true q = let z = eqb-true x 0 q in let f : bit_of 0 n ≡ true = ap (λ k. bit_of k n) (sym z) ∙ e in let d : 0 / 2 ^ n ≡ 0 = div-eq_of_lt (pow_pos n) in let c : false ≡ true = ap (λ k. eqb (k % 2) 1) (sym d) ∙ f in absurd cc
    by_bit false e rest = rest (let s = split x n in let d : x / 2 ^ n ≡ 0 = zero_of (x / 2 ^ n) low e in small (x / 2 ^ n) (2 ^ n) d s (mod-lt x (pow_pos n)))
      where
        zero_of : (q : ℕ) → q < 2 → eqb (q % 2) 1 ≡ false → q ≡ 0
        zero_of q h e = grind (arith, nat_tests)

        small : (q u : ℕ) → q ≡ 0 → q * u + x % u ≡ x → x % u < u → x < u
        small q u d s l = let z : q * u ≡ 0 * u = ap (λ k. k * u) d in omega arith

module _ (op : LogicUnaryOp) (s a : ℕ) (records : Bool) (legal : IsLegal (LogicUnary op s a records)) where
  logic_unary_do : (ops : List SymbolicOp) → AreWellFormed ops → room_of ops ≤ 534 → OpsGive (LogicUnary op s a records) a false records (λ g. (logic_unary_row op records (values_in (LogicUnary op s a records) g)).a) (λ g. false) (legal.fit.1.1.0) ops → IsTileOf (LogicUnary op s a records) (ops ++ record_ops records)
  logic_unary_do ops are short run = results_do (LogicUnary op s a records) a false records _ _ (legal.fit.1.1.0) ops legal are short (λ guest g. refl) (λ g. logic_unary_gives op records (values_in (LogicUnary op s a records) g)) run

zeros_small : (n x : ℕ) → leading_zeros n x ≤ 32
unfolding leading_zeros
zeros_small zero x = omega arith
zeros_small (suc n) x = by_bit (bit_of x n) (zeros_small n x)
  where
    by_bit : (b : Bool) → leading_zeros n x ≤ 32 → cond b (31 - n) (leading_zeros n x) ≤ 32
    by_bit true h = omega arith
    by_bit false h = h

pub logic_unary_does : (op : LogicUnaryOp) (s a : ℕ) (records : Bool) → IsLegal (LogicUnary op s a records) → IsTileOf (LogicUnary op s a records) (logic_unary_ops op s a ++ record_ops records)
logic_unary_does Cntlzw s a r legal = logic_unary_do Cntlzw s a r legal (logic_unary_ops Cntlzw s a) ((tt, word s (legal.fit.1.0)), ((tt, omega arith), ((tt, tt), ((tt, omega arith), ((word a (legal.fit.1.1.0), tt), tt))))) (omega arith)
    (λ guest host g regs flags choices range words.
    let S = g.locs s in
    let e = by_zero S ((choice_at choices 0).value % 2 ^ 32) (eqb S 0) (no_bit 32 S (gpr g s range (legal.fit.1.0))) ∙ zeros_by_scan 32 S (omega arith) in
    plain g.locs g.bytes a e (subst (λ k. k < 2 ^ 32) (sym e) (let z = zeros_small 32 S in omega (arith, z))))
  where
    by_zero : (S free : ℕ) (t : Bool) → some_bit 32 S ≡ not t → bit_xor (cond t 63 (cond t free (highest_one 32 S))) 31 ≡ bit_xor (cond (some_bit 32 S) (highest_one 32 S) 63) 31
    by_zero S free true e = ap (λ (b : Bool). bit_xor (cond b (highest_one 32 S) 63) 31) (sym e)
    by_zero S free false e = ap (λ (b : Bool). bit_xor (cond b (highest_one 32 S) 63) 31) (sym e)
logic_unary_does Extsb s a r legal = logic_unary_do Extsb s a r legal (logic_unary_ops Extsb s a) ((tt, word s (legal.fit.1.0)), ((tt, tt), ((word a (legal.fit.1.1.0), tt), tt))) (omega arith)
    (λ guest host g regs flags choices range words. plain g.locs g.bytes a refl (grind (arith, nat_tests)))
logic_unary_does Extsh s a r legal = logic_unary_do Extsh s a r legal (logic_unary_ops Extsh s a) ((tt, word s (legal.fit.1.0)), ((tt, tt), ((word a (legal.fit.1.1.0), tt), tt))) (omega arith)
    (λ guest host g regs flags choices range words. plain g.locs g.bytes a refl (grind (arith, nat_tests)))
