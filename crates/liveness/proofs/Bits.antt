-- Sets as numbers.
use Rattle.std.proofs.Common.{◌≡◌, ℕ, ◌+◌, ◌/◌, ◌%◌, ◌^◌, ◌<◌, ◌⊎◌, ◌↔◌, inl, inr, sym, ◌∙◌, arith, max, bit_and, bit_or, bit_xor}
use Rattle.std.specs.Prelude.{IsBitSet}
use Rattle.std.specs.Int.{bit_at}
use Rattle.std.proofs.lemmas.Bool.{cases_lt}
use Rattle.std.proofs.lemmas.Nat.{and_mask, bit_set_by_shift}
use Rattle.std.proofs.lemmas.Nat.Bits.{bit_at_or, bit_at_xor, bit_at-lt, bit_at_ones, bit_at_ones_above}
use Rattle.liveness.specs.Prelude.{IsLocation, Has, Unwritten}

-- the two ways to say that a location is in a set
pub in_set : (n l : ℕ) → Has n l ↔ IsBitSet n l
in_set n l = (λ h. (bit_set_by_shift n l).0 (shifted ∙ h), λ h. sym shifted ∙ (bit_set_by_shift n l).1 h) where
  shifted : bit_and (n / 2 ^ l) 1 ≡ bit_at n l
  shifted = and_mask (n / 2 ^ l) 1

apart : (a w o x : ℕ) → a < 2 → w < 2 → o ≡ max a w → x ≡ (o + w) % 2 → (x ≡ 1 → (a ≡ 1) × (w ≡ 1 → ⊥)) × ((a ≡ 1) × (w ≡ 1 → ⊥) → x ≡ 1)
apart a w o x al wl oe xe = (λ e. (omega arith, λ f. omega arith), λ h. let one = h.0 in let none = h.1 in omega arith)

pub unwritten_is : (set writes l : ℕ) → Has (bit_xor (bit_or set writes) writes) l ↔ Unwritten set writes l
unwritten_is set writes l = apart (bit_at set l) (bit_at writes l) (bit_at (bit_or set writes) l) (bit_at (bit_xor (bit_or set writes) writes) l)
    (bit_at-lt set l) (bit_at-lt writes l) (bit_at_or set writes l) (bit_at_xor (bit_or set writes) writes l)

either : (a b o : ℕ) → a < 2 → b < 2 → o ≡ max a b → (o ≡ 1 → (a ≡ 1) ⊎ (b ≡ 1)) × ((a ≡ 1) ⊎ (b ≡ 1) → o ≡ 1)
either a b o al bl e = (λ one. grind arith, λ h. elim h [ inl x ↦ omega arith | inr x ↦ omega arith ])

pub joined : (a b l : ℕ) → Has (bit_or a b) l ↔ Has a l ⊎ Has b l
joined a b l = either (bit_at a l) (bit_at b l) (bit_at (bit_or a b) l) (bit_at-lt a l) (bit_at-lt b l) (bit_at_or a b l)

pub every : (l : ℕ) → Has 70368744177663 l ↔ IsLocation l
every l = (λ h. elim (cases_lt l 46) [ inl lt ↦ lt | inr le ↦ absurd (let z = bit_at_ones_above 46 l le in zero_or_one _ h z) ], bit_at_ones 46 l) where
  zero_or_one : (x : ℕ) → x ≡ 1 → x ≡ 0 → ⊥
  zero_or_one x e f = omega arith
