-- A text that begins as a numeral is what `decimal` writes of the number that `parse` reads from it.
use Rattle.std.proofs.Common.{◌≡◌, ◌≢◌, ◌<◌, ◌≤◌, ◌^◌, ◌==◌, ℕ, false, List, [], ◌∷◌, length, get_or, slice_index, refl, sym, ap, subst, ◌∙◌, arith, suc, zero, decimal, Result, Ok, Err}
use Rattle.std.specs.Str.{IsUtf8}
use Rattle.std.specs.Str.Parse.{AllDigits, digits_value, without_leading_plus, ParsesUnsigned}
use Rattle.std.proofs.lemmas.Grind.{common_steps}
use Rattle.std.proofs.lemmas.Str.{IsUtf8-from_ascii}
use Rattle.std.proofs.lemmas.Str.Parse.{IsNumeralModel, digit_from_value}
use Rattle.std.proofs.lemmas.Fmt.{decimal-digits_value, decimal_is_IsNumeral, decimal_digit, first_decimal, parse-decimal, decimal_injective, IsAscii-decimal}
use Rattle.outside.specs.Numerals.{BeginsNumeral}

numerals : IsNumeralModel (AllDigits 10) (digits_value 10)
numerals = record { to = λ ds d. d; from = λ ds d. d; same = λ ds d. refl }

first_high : (ds : List ℕ) → AllDigits 10 ds → get_or ds 0 0 ≤ 57
first_high [] d = omega arith
first_high (c ∷ cs) d = omega (arith, digit_from_value c d.0)

begins-decimal : (n : ℕ) → n < 2 ^ 64 → BeginsNumeral (decimal n)
begins-decimal zero small = rw (decimal_digit 0 (omega arith)) (record { low = omega arith; high = omega arith; alone = λ e. refl })
begins-decimal (suc n) small =
    let first = first_decimal (suc n) (omega arith) small in
    record { low = omega (arith, first); high = first_high _ (decimal_is_IsNumeral (suc n) small).0.1; alone = λ e. absurd (omega (arith, first, e)) }

-- a text that doesn't begin so is no numeral
pub unbegun : (text : List ℕ) (n : ℕ) → (BeginsNumeral text → ⊥) → n < 2 ^ 64 → text ≢ decimal n
unbegun text n none small e = none (subst BeginsNumeral (sym e) (begins-decimal n small))

-- nor is one that is no text
pub no_text : (text : List ℕ) (n : ℕ) → (IsUtf8 text → ⊥) → n < 2 ^ 64 → text ≢ decimal n
no_text text n none small e = none (subst IsUtf8 (sym e) (IsUtf8-from_ascii _ (IsAscii-decimal n small)))

-- nor is one that `parse` refuses
pub unread : {E : Type 0} (t text : List ℕ) (n : ℕ) (r : Result ℕ E) (e : E) → t ≡ text → ParsesUnsigned 64 10 t r → r ≡ Err e → n < 2 ^ 64 → text ≢ decimal n
unread t text n r e same reads failed small is =
    let read : r ≡ Ok n = parse-decimal 64 n t r small small (same ∙ is) reads in
    cc

without_plus : (text : List ℕ) → BeginsNumeral text → without_leading_plus text ≡ text
without_plus text begins =
    let none : (slice_index text 0 == 43) ≡ false = grind (arith, common_steps, begins.low) in
    rw none refl

some : (text : List ℕ) → 48 ≤ get_or text 0 0 → 0 < length text
some [] low = omega arith
some (c ∷ cs) low = omega arith

-- the number that `parse` reads is the one that is written
pub read : {E : Type 0} (t text : List ℕ) (n : ℕ) (r : Result ℕ E) → t ≡ text → BeginsNumeral text → ParsesUnsigned 64 10 t r → r ≡ Ok n → (text ≡ decimal n) × (n < 2 ^ 64)
read {E} t text n r same begins all is =
    let reads : ParsesUnsigned {E = E} 64 10 text (Ok n) = subst (λ t. ParsesUnsigned {E = E} 64 10 t (Ok n)) same (subst (λ r. ParsesUnsigned 64 10 t r) is all) in
    let e = without_plus text begins in
    let digits : AllDigits 10 text = subst (AllDigits 10) e reads.0.0.1 in
    let value : digits_value 10 text ≡ n = ap (digits_value 10) (sym e) ∙ sym reads.1 in
    let small : digits_value 10 text < 2 ^ 64 = subst (λ t. digits_value 10 t < 2 ^ 64) e reads.0.1 in
    (sym (decimal-digits_value numerals text digits (some text begins.low) begins.alone small) ∙ ap decimal value, subst (λ v. v < 2 ^ 64) value small)

-- two numbers aren't written by one text
pub other : (text : List ℕ) (m n : ℕ) → text ≡ decimal m → m < 2 ^ 64 → n < m → text ≢ decimal n
other text m n is small below e = omega (arith, below, decimal_injective m n small (omega (arith, small, below)) (sym is ∙ e))
