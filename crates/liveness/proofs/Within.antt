-- Only locations are live.
use Rattle.std.proofs.Common.{◌≡◌, ℕ, ◌-◌, ◌%◌, ◌<◌, ◌≤◌, ◌^◌, inl, inr, List, [], ◌∷◌, length, sym, ◌∙◌, subst, arith, min, bit_and}
use Rattle.std.specs.Int.{bit_at}
use Rattle.std.proofs.lemmas.Bool.{cases_lt}
use Rattle.std.proofs.lemmas.Nat.{and_mask}
use Rattle.std.proofs.lemmas.Nat.Bits.{bit_at_and, bit_at-lt, bit_at_ones, bit_at_ones_above, bit_at_above, same_from_bits}
use Rattle.liveness.specs.Prelude.{Flow, Has, flow_at}
use Rattle.liveness.specs.Flows.{IsPath}

one_or_zero : (x : ℕ) → x ≡ 1 → x ≡ 0 → ⊥
one_or_zero x e f = omega arith

pub below : (n l : ℕ) → n < 2 ^ 46 → Has n l → l < 46
below n l lt h = elim (cases_lt l 46) [ inl less ↦ less | inr le ↦ absurd (one_or_zero (bit_at n l) h (bit_at_above n 46 l lt le)) ]

pub located : (flows : List Flow) → ((k : ℕ) → k < length flows → (flow_at flows k).reads < 2 ^ 46) → (l : ℕ) (later : List ℕ) (k : ℕ) → IsPath flows l k later → l < 46
located flows few l [] k path = below (flow_at flows k).reads l (few k path.0) path.1
located flows few l (s ∷ later) k path = located flows few l later s path.2

-- a set of locations is a number below 2^46
pub small : (n : ℕ) → ((l : ℕ) → Has n l → l < 46) → n < 2 ^ 46
small n within = subst (λ (x : ℕ). x < 2 ^ 46) (sym whole) (rest n) where
  smaller : (a b m : ℕ) → a < 2 → b ≡ 1 → m ≡ min a b → a ≡ m
  smaller a b m lt one e = omega arith

  none : (a b m : ℕ) → a ≡ 0 → b ≡ 0 → m ≡ min a b → a ≡ m
  none a b m z one e = omega arith

  zero_above : (l : ℕ) → 46 ≤ l → bit_at n l ≡ 0
  zero_above l le = elim (cases_lt 0 (bit_at n l)) [
    | inl pos ↦ absurd (let lt = bit_at-lt n l in let in_set : bit_at n l ≡ 1 = omega arith in let less = within l in_set in omega arith)
    | inr z ↦ omega arith
  ]

  each : (l : ℕ) → bit_at n l ≡ bit_at (bit_and n (2 ^ 46 - 1)) l
  each l = elim (cases_lt l 46) [
    | inl lt ↦ smaller (bit_at n l) (bit_at (2 ^ 46 - 1) l) (bit_at (bit_and n (2 ^ 46 - 1)) l) (bit_at-lt n l) (bit_at_ones 46 l lt) (bit_at_and n (2 ^ 46 - 1) l)
    | inr le ↦ none (bit_at n l) (bit_at (2 ^ 46 - 1) l) (bit_at (bit_and n (2 ^ 46 - 1)) l) (zero_above l le) (bit_at_ones_above 46 l le) (bit_at_and n (2 ^ 46 - 1) l)
  ]

  whole : n ≡ n % 2 ^ 46
  whole = same_from_bits n (bit_and n (2 ^ 46 - 1)) each ∙ and_mask n 46

  rest : (n : ℕ) → n % 2 ^ 46 < 2 ^ 46
  rest n = omega arith
