-- The parameters in slots, one after another, and those at home. This project's own.
use Rattle.std.proofs.Common.{◌≡◌, ℕ, suc, ◌+◌, ◌<◌, ◌≤◌, inl, inr, Bool, true, false, List, [], ◌∷◌, length, get_or, drop, refl, ap, ◌∙◌, arith}
use Rattle.std.proofs.Math.Seq.{drop-cons}
use Rattle.std.proofs.lemmas.Option.{slice_get_within}
use Rattle.rule_body.specs.Prelude.{IsHome}
use Rattle.rule_lines.specs.Lines.{nth_slot}

from_slot : (slots : List Bool) (k n : ℕ) → k < length slots → get_or slots k false ≡ true → nth_slot (drop k slots) (suc n) ≡ suc (nth_slot (drop (suc k) slots) n)
unfolding nth_slot
from_slot slots k n lt e = ap (λ xs. nth_slot xs (suc n)) (drop-cons slots k false lt ∙ ap (λ b. b ∷ drop (suc k) slots) e)

from_home : (slots : List Bool) (k n : ℕ) → k < length slots → get_or slots k false ≡ false → nth_slot (drop k slots) n ≡ suc (nth_slot (drop (suc k) slots) n)
unfolding nth_slot
from_home slots k n lt e = ap (λ xs. nth_slot xs n) (drop-cons slots k false lt ∙ ap (λ b. b ∷ drop (suc k) slots) e)

-- it is here, or it is one further
pub at_slot : (slots : List Bool) (k n : ℕ) → k < length slots → get_or slots k false ≡ true → n ≡ 0 → nth_slot (drop k slots) n ≡ 0
unfolding nth_slot
at_slot slots k n lt e z = ap (nth_slot (drop k slots)) z ∙ ap (λ xs. nth_slot xs 0) (drop-cons slots k false lt ∙ ap (λ b. b ∷ drop (suc k) slots) e)

pub past_slot : (slots : List Bool) (k n m : ℕ) → k < length slots → get_or slots k false ≡ true → n ≡ suc m → k + nth_slot (drop k slots) n ≡ k + 1 + nth_slot (drop (k + 1) slots) m
past_slot slots k n m lt e s =
    let h = ap (nth_slot (drop k slots)) s ∙ from_slot slots k m lt e in
    let i : suc k ≡ k + 1 = omega arith in
    let j = ap (λ x. nth_slot (drop x slots) m) i in
    omega (arith, h, j)

pub past_home : (slots : List Bool) (k n : ℕ) → k < length slots → get_or slots k false ≡ false → k + nth_slot (drop k slots) n ≡ k + 1 + nth_slot (drop (k + 1) slots) n
past_home slots k n lt e =
    let h = from_home slots k n lt e in
    let i : suc k ≡ k + 1 = omega arith in
    let j = ap (λ x. nth_slot (drop x slots) n) i in
    omega (arith, h, j)

pub past_all : (slots : List Bool) (n : ℕ) → nth_slot (drop (length slots) slots) n ≡ 0
unfolding nth_slot
past_all [] n = refl
past_all (b ∷ slots) n = past_all slots n

-- a home stands from 4 to 148
pub home_bounds : (slots : List Bool) (o size : ℕ) → length slots ≤ 6 → IsHome slots o size → (4 ≤ o) × (o ≤ 148)
home_bounds slots o size few (inl w) = let g = slice_get_within slots w.0 false w.2 in let e = w.1 in (omega (arith, e), omega (arith, e, g, few))
home_bounds slots o size few (inr w) = let h = w.1 in let l = w.0 in (omega (arith, l), omega (arith, h))
