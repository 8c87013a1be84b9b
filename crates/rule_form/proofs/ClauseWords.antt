-- The words of clauses.
use Rattle.std.proofs.Common.{◌≡◌, ◌≢◌, ℕ, ℤ, zero, suc, ◌+◌, ◌-◌, ◌<◌, ◌++◌, ◌^◌, List, [], ◌∷◌, length, map, get_or, drop, refl, sym, ap, ◌∙◌, arith, decimal, Bor, take, length-append}
use Rattle.std.proofs.lemmas.Fmt.{decimal_injective}
use Rattle.std.proofs.lemmas.List.{length-map}
use Rattle.std.specs.List.{AllByRecursion}
use Rattle.word_kit.specs.Prelude.{IsLiteral, variable}
use Rattle.rule_body.specs.Prelude.{AreRising}
use Rattle.rule_form.specs.Prelude.{literal_word}

-- 0 is no variable
pub not-zero : (word : List ℕ) (m n : ℕ) → m ≡ 0 → word ≡ decimal m → 0 < n → n < 2 ^ 31 → word ≡ decimal n → ⊥
not-zero word m n none is some small e =
    let same = decimal_injective m n (omega (arith, none)) (omega (arith, small)) (sym is ∙ e) in
    absurd (omega (arith, same, none, some))

pub rising-fit : (low : ℕ) (zs : List ℤ) → AreRising low zs → AllByRecursion IsLiteral zs
rising-fit low [] h = tt
rising-fit low (z ∷ zs) h = (record { nonzero = omega (arith, h.0); within = h.1 }, rising-fit (variable z) zs h.2)

pub literal-at : (ws : List (Bor (List ℕ))) (zs : List ℤ) (i : ℕ) (d : Bor (List ℕ)) → AllByRecursion IsLiteral zs → map (λ w. w.now) ws ≡ map literal_word zs → i < length ws
    → ((z : ℤ) → IsLiteral z → (get_or ws i d).now ≢ literal_word z) → ⊥
literal-at [] zs i d h e below none = absurd (omega (arith, below))
literal-at (w ∷ ws) [] i d h e below none = absurd (let f = ap length e in omega (arith, f))
literal-at (w ∷ ws) (z ∷ zs) zero d h e below none = none z h.0 (ap (λ l. get_or l 0 []) e)
literal-at (w ∷ ws) (z ∷ zs) (suc i) d h e below none = literal-at ws zs i d h.1 (ap (drop 1) e) (omega (arith, below)) none

front : (ws : List (Bor (List ℕ))) (ms : List (List ℕ)) (e : List ℕ) → map (λ w. w.now) ws ≡ ms ++ e ∷ [] → map (λ w. w.now) (take (length ms) ws) ≡ ms
front [] [] e is = refl
front (w ∷ ws) [] e is = refl
front [] (m ∷ ms) e is = absurd (let f = ap length is in omega (arith, f))
front (w ∷ ws) (m ∷ ms) e is =
    let head : w.now ≡ m = ap (λ l. get_or l 0 []) is in
    ap (λ k. k ∷ map (λ w. w.now) (take (length ms) ws)) head ∙ ap (λ l. m ∷ l) (front ws ms e (ap (drop 1) is))

-- the words between the first and the last
pub middle : (ws : List (Bor (List ℕ))) (ms : List (List ℕ)) (k e : List ℕ) → map (λ w. w.now) ws ≡ k ∷ (ms ++ e ∷ []) → map (λ w. w.now) (take (length ws - 1 - 1) (drop 1 ws)) ≡ ms
middle [] ms k e is = absurd (let f = ap length is in omega (arith, f))
middle (w ∷ ws) ms k e is =
    let rest : map (λ w. w.now) ws ≡ ms ++ e ∷ [] = ap (drop 1) is in
    let lengths : length ws ≡ length ms + 1 = sym (length-map ws (λ (w : Bor (List ℕ)). w.now)) ∙ ap length rest ∙ length-append ms (e ∷ []) in
    let count : length (w ∷ ws) - 1 - 1 ≡ length ms = omega (arith, lengths) in
    ap (λ n. map (λ w. w.now) (take n ws)) count ∙ front ws ms e rest
