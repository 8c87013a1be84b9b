-- Tiles of sums.
use Rattle.std.proofs.Common.{◌≡◌, ℕ, ◌+◌, ◌%◌, ◌^◌, ◌<◌, Bool, true, false, not, eqb, ltb, ◌++◌, refl, sym, ap, ◌∙◌, arith}
use Rattle.std.proofs.lemmas.Bool.Decides.{nat_tests}
use Rattle.machines.specs.Prelude.{one_if, complement, sum_word, sum_carries, difference_word, Instr, Arithmetic, Addc, Adde, Subfe, IsLegal, Add, Below}
use Rattle.ppc_isa.specs.Recording.{ca}
use Rattle.symbolic_tiles.specs.Prelude.{IsTileOf, record_ops}
use Rattle.base_alu.specs.Arithmetic.{carrying_ops, adde_ops, subfe_ops}
use Rattle.row_laws.proofs.Shapes.{arithmetic_gives}
use Rattle.row_laws.proofs.Changes.{values_in}
use Rattle.symbolic_tiles.proofs.Written.{ca_is}
use Rattle.symbolic_tiles.proofs.Registers.{word, gpr}
use Rattle.symbolic_tiles.proofs.Results.{put_both, results_do}

-- CA as the host's flag: neg gives it, cmp with 1 its complement
pub ca_below : (n : ℕ) → n < 2 → ltb 0 (n % 256 + one_if false) ≡ eqb n 1
ca_below n h = grind (arith, nat_tests)

ca_not_below : (n : ℕ) → n < 2 → ltb (n % 256) (1 + one_if false) ≡ not (eqb n 1)
ca_not_below n h = grind (arith, nat_tests)

-- a difference is a sum with the complement
pub sub_word : (x y : ℕ) (c : Bool) → x < 2 ^ 32 → difference_word y x (not c) ≡ sum_word (complement x) y c
sub_word x y true h = omega arith
sub_word x y false h = omega arith

pub sub_carry : (x y : ℕ) (c : Bool) → x < 2 ^ 32 → not (ltb y (x + one_if (not c))) ≡ sum_carries (complement x) y c
sub_carry x y true h = grind (arith, nat_tests)
sub_carry x y false h = grind (arith, nat_tests)

pub sum_small : (x y : ℕ) (c : Bool) → sum_word x y c < 2 ^ 32
sum_small x y c = omega arith

pub addc_does : (d a b : ℕ) (records : Bool) → IsLegal (Arithmetic Addc d a b records) → IsTileOf (Arithmetic Addc d a b records) (carrying_ops Add d a b Below ++ record_ops records)
addc_does d a b records legal =
    results_do (Arithmetic Addc d a b records) d true records (λ g. sum_word (g.locs a) (g.locs b) false) (λ g. sum_carries (g.locs a) (g.locs b) false) ld (carrying_ops Add d a b Below) legal
    ((tt, word a la), ((tt, word b lb), ((word d ld, tt), ((omega arith, omega arith), tt))))
    (omega arith) (λ guest g. refl) (λ g. arithmetic_gives Addc records (values_in (Arithmetic Addc d a b records) g))
    (λ guest host g regs flags choices range words. (omega arith, (refl, (λ x. refl), refl)))
  where
    ld : d < 32
    ld = legal.fit.1.0

    la : a < 32
    la = legal.fit.1.1.0

    lb : b < 32
    lb = legal.fit.1.1.1.0

pub adde_does : (d a b : ℕ) (records : Bool) → IsLegal (Arithmetic Adde d a b records) → IsTileOf (Arithmetic Adde d a b records) (adde_ops d a b ++ record_ops records)
adde_does d a b records legal =
    results_do i d true records (λ g. sum_word (g.locs a) (g.locs b) (ca (values_in i g))) (λ g. sum_carries (g.locs a) (g.locs b) (ca (values_in i g))) ld (adde_ops d a b) legal
    ((tt, (omega arith, omega arith)), (tt, ((tt, word a la), ((tt, word b lb), ((word d ld, tt), ((omega arith, omega arith), tt))))))
    (omega arith) (λ guest g. refl) (λ g. arithmetic_gives Adde records (values_in i g))
    (λ guest host g regs flags choices range words.
    let c = ca_below (g.locs 42) (range 42 (omega arith)) ∙ sym (ca_is (values_in i g) g.locs range (record { cr = refl; xer = refl })) in
    (sum_small (g.locs a) (g.locs b) (ca (values_in i g)), (ap (λ k. sum_word (g.locs a) (g.locs b) k) c, put_both g.locs d (ap (λ k. sum_word (g.locs a) (g.locs b) k) c) (ap (λ k. sum_carries (g.locs a) (g.locs b) k) c), refl)))
  where
    i : Instr
    i = Arithmetic Adde d a b records

    ld : d < 32
    ld = legal.fit.1.0

    la : a < 32
    la = legal.fit.1.1.0

    lb : b < 32
    lb = legal.fit.1.1.1.0

pub subfe_does : (d a b : ℕ) (records : Bool) → IsLegal (Arithmetic Subfe d a b records) → IsTileOf (Arithmetic Subfe d a b records) (subfe_ops d a b ++ record_ops records)
subfe_does d a b records legal =
    results_do i d true records (λ g. sum_word (complement (g.locs a)) (g.locs b) (ca (values_in i g))) (λ g. sum_carries (complement (g.locs a)) (g.locs b) (ca (values_in i g))) ld (subfe_ops d a b) legal
    ((tt, (omega arith, omega arith)), ((tt, omega arith), ((tt, word b lb), ((tt, word a la), ((word d ld, tt), ((omega arith, omega arith), tt))))))
    (omega arith) (λ guest g. refl) (λ g. arithmetic_gives Subfe records (values_in i g))
    (λ guest host g regs flags choices range words.
    let v = values_in i g in
    let c : ltb (g.locs 42 % 256) (1 + one_if false) ≡ not (ca v) = ca_not_below (g.locs 42) (range 42 (omega arith)) ∙ ap not (sym (ca_is v g.locs range (record { cr = refl; xer = refl }))) in
    let w : difference_word (g.locs b) (g.locs a) (ltb (g.locs 42 % 256) (1 + one_if false)) ≡ sum_word (complement (g.locs a)) (g.locs b) (ca v) = ap (λ k. difference_word (g.locs b) (g.locs a) k) c ∙ sub_word (g.locs a) (g.locs b) (ca v) (gpr g a range la) in
    let k : not (ltb (g.locs b) (g.locs a + one_if (ltb (g.locs 42 % 256) (1 + one_if false)))) ≡ sum_carries (complement (g.locs a)) (g.locs b) (ca v) = ap (λ n. not (ltb (g.locs b) (g.locs a + one_if n))) c ∙ sub_carry (g.locs a) (g.locs b) (ca v) (gpr g a range la) in
    (sum_small (complement (g.locs a)) (g.locs b) (ca v), (w, put_both g.locs d w k, refl)))
  where
    i : Instr
    i = Arithmetic Subfe d a b records

    ld : d < 32
    ld = legal.fit.1.0

    la : a < 32
    la = legal.fit.1.1.0

    lb : b < 32
    lb = legal.fit.1.1.1.0
