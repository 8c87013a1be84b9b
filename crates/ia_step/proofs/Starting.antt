-- The first state.
use Rattle.std.proofs.Common.{◌≡◌, ℕ, ◌+◌, zero, suc, cond, ltb, List, [], ◌∷◌, drop, refl, sym, ◌∙◌, ap, arith, false}
use Rattle.std.proofs.lemmas.Bool.Decides.{nat_tests}
use Rattle.std.specs.Prelude.{slice_index}
use Rattle.std.proofs.lemmas.List.{get_or-drop, drop-drop}
use Rattle.machines.specs.Prelude.{Choice, choice_at, chosen_word, no_choice}

-- the choices behind n of them
pub behind : (n : ℕ) (l m k : List Choice) → m ≡ drop n l → k ≡ drop 1 m → k ≡ drop (n + 1) l
behind n l m k e f = f ∙ ap (drop 1) e ∙ drop-drop 1 n l

pub first_behind : (n : ℕ) (l m : List Choice) → m ≡ drop n l → choice_at m 0 ≡ choice_at l n
first_behind n l m e = ap (λ m. choice_at m 0) e ∙ get_or-drop n l 0 no_choice ∙ (let e : n + 0 ≡ n = omega arith in ap (choice_at l) e)

pub word_behind : (n : ℕ) (l m : List Choice) (w : ℕ) → m ≡ drop n l → w ≡ chosen_word (choice_at m 0) → chosen_word (choice_at l n) ≡ w
word_behind n l m w e f = sym (ap chosen_word (first_behind n l m e)) ∙ sym f

not_below : (r : ℕ) → ltb (suc (suc (suc (suc (suc (suc (suc (suc r)))))))) 8 ≡ false
not_below r = grind (arith, nat_tests)

pub registers_are : (f : ℕ → ℕ) (a b c d e g h i : ℕ) → f 0 ≡ a → f 1 ≡ b → f 2 ≡ c → f 3 ≡ d → f 4 ≡ e → f 5 ≡ g → f 6 ≡ h → f 7 ≡ i
    → (r : ℕ) → cond (ltb r 8) (f r) 0 ≡ slice_index (a ∷ b ∷ c ∷ d ∷ e ∷ g ∷ h ∷ i ∷ []) r
registers_are f a b c d e g h i a' b' c' d' e' g' h' i' zero = a'
registers_are f a b c d e g h i a' b' c' d' e' g' h' i' (suc zero) = b'
registers_are f a b c d e g h i a' b' c' d' e' g' h' i' (suc (suc zero)) = c'
registers_are f a b c d e g h i a' b' c' d' e' g' h' i' (suc (suc (suc zero))) = d'
registers_are f a b c d e g h i a' b' c' d' e' g' h' i' (suc (suc (suc (suc zero)))) = e'
registers_are f a b c d e g h i a' b' c' d' e' g' h' i' (suc (suc (suc (suc (suc zero))))) = g'
registers_are f a b c d e g h i a' b' c' d' e' g' h' i' (suc (suc (suc (suc (suc (suc zero)))))) = h'
registers_are f a b c d e g h i a' b' c' d' e' g' h' i' (suc (suc (suc (suc (suc (suc (suc zero))))))) = i'
registers_are f a b c d e g h i a' b' c' d' e' g' h' i' (suc (suc (suc (suc (suc (suc (suc (suc r)))))))) = rw (not_below r) refl
