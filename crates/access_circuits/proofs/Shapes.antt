-- Accesses that agree in number, way and width.
use Rattle.std.proofs.Common.{◌≡◌, ◌↔◌, ℕ, zero, suc, ◌+◌, ◌<◌, ◌==◌, ◌&&◌, Bool, true, false, IsTrue, List, length, refl, sym, ◌∙◌, ap, subst, arith, add-one, get_or}
use Rattle.std.proofs.lemmas.List.{get_or_default}
use Rattle.std.proofs.lemmas.Bool.{eq-eqb, eqb-true}
use Rattle.std.proofs.Math.Decide.{dec_lt}
use Rattle.word_kit.specs.Prelude.{same}
use Rattle.access_circuits.specs.Lists.{no_words, AreShapedAlike, HaveSameShapes}
use Rattle.access_circuits.specs.Terms.{is_shaped_alike, are_shaped_alike, have_same_shapes}
use Rattle.access_circuits.specs.declared.accesses.AccessWords.{AccessWords}

pub shapes_begin : (xs ys : List AccessWords) → true ≡ are_shaped_alike 0 xs ys
unfolding are_shaped_alike
shapes_begin xs ys = refl

-- one access more
pub shapes_go_on : (n : ℕ) (xs ys : List AccessWords) (d e : AccessWords) → n < length xs → n < length ys → are_shaped_alike n xs ys && is_shaped_alike (get_or xs n d) (get_or ys n e) ≡ are_shaped_alike (n + 1) xs ys
unfolding are_shaped_alike
shapes_go_on n xs ys d e l m = rw (get_or_default xs n d no_words l, get_or_default ys n e no_words m, add-one) refl

pub shapes_step : (n : ℕ) (xs ys : List AccessWords) (d e : AccessWords) (before alike after : Bool) → n < length xs → n < length ys → before ≡ are_shaped_alike n xs ys → alike ≡ is_shaped_alike (get_or xs n d) (get_or ys n e) → after ≡ before && alike → after ≡ are_shaped_alike (n + 1) xs ys
shapes_step n xs ys d e before alike after l m p q r = r ∙ ap (λ b. b && alike) p ∙ ap (λ b. are_shaped_alike n xs ys && b) q ∙ shapes_go_on n xs ys d e l m

same_is : (a b : Bool) → IsTrue (same a b) ↔ (a ≡ b)
same_is true true = (λ h. refl, λ e. refl)
same_is true false = (λ h. sym h, λ e. sym e)
same_is false true = (λ h. h, λ e. e)
same_is false false = (λ h. refl, λ e. refl)

both_are : (a b : Bool) → IsTrue (a && b) ↔ (IsTrue a × IsTrue b)
both_are true b = (λ h. (refl, h), λ h. h.1)
both_are false b = (λ h. absurd (let none : false ≡ true = h in cc), λ h. h.0)

number_is : (a b : ℕ) → IsTrue (a == b) ↔ (a ≡ b)
number_is a b = (eqb-true a b, eq-eqb a b)

shape_is : (x y : AccessWords) → IsTrue (is_shaped_alike x y) ↔ ((x.loads ≡ y.loads) × (x.width ≡ y.width))
shape_is x y =
    let s = both_are (same x.loads y.loads) (x.width == y.width) in (
      λ h. ((same_is x.loads y.loads).0 (s.0 h).0, (number_is x.width y.width).0 (s.0 h).1),
      λ h. s.1 ((same_is x.loads y.loads).1 h.0, (number_is x.width y.width).1 h.1),
    )

shapes_are : (n : ℕ) (xs ys : List AccessWords) → IsTrue (are_shaped_alike n xs ys) ↔ AreShapedAlike n xs ys
unfolding are_shaped_alike
shapes_are zero xs ys = (λ h. record { loads = λ k l. absurd (omega (arith, l)); width = λ k l. absurd (omega (arith, l)) }, λ h. refl)
shapes_are (suc n) xs ys =
    let s = both_are (are_shaped_alike n xs ys) (is_shaped_alike (get_or xs n no_words) (get_or ys n no_words)) in
    let before = shapes_are n xs ys in
    let here = shape_is (get_or xs n no_words) (get_or ys n no_words) in (
      λ h. record {
        loads = λ k l. elim (dec_lt k n) [
          | yes lt ↦ (before.0 (s.0 h).0).loads k lt
          | no ge ↦ let e : n ≡ k = omega (arith, l, ge) in subst (λ j. (get_or xs j no_words).loads ≡ (get_or ys j no_words).loads) e (here.0 (s.0 h).1).0
        ];
        width = λ k l. elim (dec_lt k n) [
          | yes lt ↦ (before.0 (s.0 h).0).width k lt
          | no ge ↦ let e : n ≡ k = omega (arith, l, ge) in subst (λ j. (get_or xs j no_words).width ≡ (get_or ys j no_words).width) e (here.0 (s.0 h).1).1
        ];
      },
      λ h. s.1 (before.1 (record { loads = λ k l. h.loads k (omega (arith, l)); width = λ k l. h.width k (omega (arith, l)) }), here.1 (h.loads n (omega arith), h.width n (omega arith))),
    )

pub same_shapes_are : (xs ys : List AccessWords) → IsTrue (have_same_shapes xs ys) ↔ HaveSameShapes xs ys
same_shapes_are xs ys =
    let s = both_are (length xs == length ys) (are_shaped_alike (length xs) xs ys) in
    let count = number_is (length xs) (length ys) in
    let shapes = shapes_are (length xs) xs ys in (
      λ h. record { count = count.0 (s.0 h).0; shapes = shapes.0 (s.0 h).1 },
      λ h. s.1 (count.1 h.count, shapes.1 h.shapes),
    )

pub shapes_end : (n : ℕ) (xs ys : List AccessWords) (b : Bool) → length xs ≡ length ys → n ≡ length xs → b ≡ are_shaped_alike n xs ys → b ≡ have_same_shapes xs ys
shapes_end n xs ys b count whole e = e ∙ ap (λ j. are_shaped_alike j xs ys) whole ∙ sym (ap (λ t. t && are_shaped_alike (length xs) xs ys) (eq-eqb (length xs) (length ys) count))
