-- Signed readings, products and quotients, and what std computes of them.
use Rattle.std.proofs.Common.{◌≡◌, ℕ, ◌/◌, ◌^◌, ◌<◌, ◌≤◌, refl, sym, ap, ◌∙◌, subst, true, arith, rules, ℤ, pos, negsuc, ◌*ℤ◌, int_div, int_rem, unsigned_abs, FitsSigned, to_z, of_z, w32, w64, Some, Ok, Err, OkIff, IsTrue}
use Rattle.std.specs.declared.result.Result.{Result}
use Rattle.std.specs.Result.{result_ok}
use Rattle.std.specs.Int.{IsNonZero}
use Rattle.std.proofs.lemmas.Int.{ints, to_z-of_z, fits_signed_mul, fits_signed_from_abs, rem_below}
use Rattle.std.proofs.lemmas.Bool.Decides.{nat_tests}
use Rattle.word_kit.specs.Prelude.{signed, two_complement, product_high, fits_word}

signed_is : (x : ℕ) → x < 2 ^ 32 → to_z w32 x ≡ signed x
signed_is x h = grind (arith, ints, nat_tests)

two_complement_64 : (z : ℤ) → of_z w64 z ≡ two_complement 64 z
two_complement_64 (pos n) = refl
two_complement_64 (negsuc n) = omega arith

two_complement_32 : (z : ℤ) → of_z w32 z ≡ two_complement 32 z
two_complement_32 (pos n) = refl
two_complement_32 (negsuc n) = omega arith

-- a word's signed reading fits 32 bits, and 64
fits_32 : (x : ℕ) → x < 2 ^ 32 → FitsSigned w32 (to_z w32 x)
fits_32 x h = search (arith, rules)

abs_32 : (z : ℤ) → FitsSigned w32 z → unsigned_abs z ≤ 2 ^ 31
abs_32 (pos n) f = let b = f.sfits in omega arith
abs_32 (negsuc n) f = let b = f.sfits in omega arith

fits_64 : (z : ℤ) → FitsSigned w32 z → FitsSigned w64 z
fits_64 z f = fits_signed_from_abs w64 z (let b = abs_32 z f in omega arith)

-- what is cast to 64 bits
pub cast_64 : (z : ℤ) → FitsSigned w32 z → to_z w64 (of_z w64 (to_z w32 (of_z w32 z))) ≡ z
cast_64 z f = ap (λ y. to_z w64 (of_z w64 y)) (to_z-of_z w32 z f) ∙ to_z-of_z w64 z (fits_64 z f)

-- the high word of a product, as it is computed
pub product_is : (x y r : ℕ) (a b : ℤ) → x < 2 ^ 32 → y < 2 ^ 32 → a ≡ to_z w32 x → b ≡ to_z w32 y →
    r ≡ of_z w64 (to_z w64 (of_z w64 (to_z w64 (of_z w64 (to_z w32 (of_z w32 a))) *ℤ to_z w64 (of_z w64 (to_z w32 (of_z w32 b)))))) →
    r / 4294967296 ≡ product_high x y true
product_is x y r a b hx hy ea eb h =
    let fa : FitsSigned w32 a = rw ea (fits_32 x hx) in
    let fb : FitsSigned w32 b = rw eb (fits_32 y hy) in
    let ca = cast_64 a fa in
    let cb = cast_64 b fb in
    let fp : FitsSigned w64 (a *ℤ b) = fits_signed_mul w64 a b (2 ^ 31) (2 ^ 31) (abs_32 a fa) (abs_32 b fb) (omega arith) in
    let p : r ≡ of_z w64 (a *ℤ b) = h ∙ ap (λ z. of_z w64 (to_z w64 (of_z w64 z))) (ap (λ z. z *ℤ to_z w64 (of_z w64 (to_z w32 (of_z w32 b)))) ca ∙ ap (λ z. a *ℤ z) cb) ∙ ap (λ z. of_z w64 z) (to_z-of_z w64 (a *ℤ b) fp) in
    let sa : a ≡ signed x = ea ∙ signed_is x hx in
    let sb : b ≡ signed y = eb ∙ signed_is y hy in
    ap (λ n. n / 4294967296) (p ∙ two_complement_64 (a *ℤ b) ∙ ap (λ z. two_complement 64 z) (ap (λ z. z *ℤ b) sa ∙ ap (λ z. signed x *ℤ z) sb))

-- a conversion that gives a value
pub told : {E : Type 0} (res : Result ℤ E) (P : Type 0) (v f : ℤ) → OkIff res P v → result_ok res ≡ Some f → P × (f ≡ v)
told (Ok x) P v f h e = (h.0, cc)
told (Err x) P v f h e = absurd cc

fits_is : (z : ℤ) → FitsSigned w32 z → IsTrue (fits_word z)
fits_is (pos n) f = let b : n < 2 ^ 31 = f.sfits in search (arith, rules, nat_tests)
fits_is (negsuc n) f = let b : n < 2 ^ 31 = f.sfits in search (arith, rules, nat_tests)

some_abs : (b : ℤ) → IsNonZero w64 b → 0 < unsigned_abs b
some_abs (pos n) h = h
some_abs (negsuc n) h = omega arith

-- the quotient and the remainder, as they are computed
pub parts_are : (a b : ℤ) (q f : ℤ) (r s : ℕ) → FitsSigned w64 a → FitsSigned w32 b → IsNonZero w64 b → FitsSigned w64 q → q ≡ int_div a b →
    FitsSigned w32 q × (f ≡ q) → r ≡ of_z w32 (to_z w32 (of_z w32 f)) →
    s ≡ of_z w32 (to_z w32 (of_z w32 (to_z w64 (of_z w64 (int_rem a b))))) →
    ((b ≡ pos 0 → ⊥) × IsTrue (fits_word (int_div a b))) × ((r ≡ two_complement 32 (int_div a b)) × (s ≡ two_complement 32 (int_rem a b)))
parts_are a b q f r s fa fb nz fq e t er es =
    let nonzero : b ≡ pos 0 → ⊥ = λ z. absurd (omega (arith, subst (λ d. 0 < of_z w64 d) z nz)) in
    let below = rem_below a b (some_abs b nz) in
    let small = abs_32 b fb in
    let fr : FitsSigned w32 (int_rem a b) = fits_signed_from_abs w32 (int_rem a b) (omega arith) in
    let fits : IsTrue (fits_word (int_div a b)) = subst (λ z. IsTrue (fits_word z)) e (fits_is q t.0) in
    let eq : r ≡ of_z w32 q = er ∙ ap (λ z. of_z w32 (to_z w32 (of_z w32 z))) t.1 ∙ ap (λ z. of_z w32 z) (to_z-of_z w32 q t.0) in
    let er : s ≡ of_z w32 (int_rem a b) = es ∙ ap (λ z. of_z w32 (to_z w32 (of_z w32 z))) (to_z-of_z w64 (int_rem a b) (fits_64 (int_rem a b) fr)) ∙ ap (λ z. of_z w32 z) (to_z-of_z w32 (int_rem a b) fr) in
    ((nonzero, fits), (eq ∙ ap (λ z. of_z w32 z) e ∙ two_complement_32 (int_div a b), er ∙ two_complement_32 (int_rem a b)))

-- the same, where the code has cast dividend, divisor and quotient to 64 bits
pub parts_of_casts : (a b a' b' q f : ℤ) (r s : ℕ) → a' ≡ a → b' ≡ b → FitsSigned w64 a → FitsSigned w32 b →
    (IsNonZero w64 b' × FitsSigned w64 (int_div a' b')) × (q ≡ int_div a' b') →
    FitsSigned w32 (to_z w64 (of_z w64 q)) × (f ≡ to_z w64 (of_z w64 q)) → r ≡ of_z w32 (to_z w32 (of_z w32 f)) →
    s ≡ of_z w32 (to_z w32 (of_z w32 (to_z w64 (of_z w64 (int_rem a' b'))))) →
    ((b ≡ pos 0 → ⊥) × IsTrue (fits_word (int_div a b))) × ((r ≡ two_complement 32 (int_div a b)) × (s ≡ two_complement 32 (int_rem a b)))
parts_of_casts a b a' b' q f r s ea eb fa fb h t er es =
    let nz : IsNonZero w64 b = subst (λ d. IsNonZero w64 d) eb h.0.0 in
    let eq : q ≡ int_div a b = h.1 ∙ ap (λ d. int_div d b') ea ∙ ap (λ d. int_div a d) eb in
    let fq : FitsSigned w64 q = subst (λ z. FitsSigned w64 z) (sym h.1) h.0.1 in
    let cq : to_z w64 (of_z w64 q) ≡ q = to_z-of_z w64 q fq in
    let f32 : FitsSigned w32 q = subst (λ z. FitsSigned w32 z) cq t.0 in
    let m : int_rem a' b' ≡ int_rem a b = ap (λ d. int_rem d b') ea ∙ ap (λ d. int_rem a d) eb in
    parts_are a b q f r s fa fb nz fq eq (f32, t.1 ∙ cq) er (es ∙ ap (λ z. of_z w32 (to_z w32 (of_z w32 (to_z w64 (of_z w64 z))))) m)
