-- Sets of locations as numbers.
use Rattle.std.proofs.Common.{◌≡◌, ℕ, suc, ◌+◌, ◌-◌, ◌/◌, ◌%◌, ◌<◌, ◌^◌, ◌==◌, ◌⊎◌, ◌↔◌, List, [], ◌∷◌, Bool, true, false, cond, refl, sym, subst, inl, inr, arith, fold, filter, map, max, Contains, IsBitSet}
use Rattle.std.specs.List.{range_with_len}
use Rattle.std.specs.Int.{bit_at}
use Rattle.std.proofs.lemmas.Bool.Decides.{eqb_tells}
use Rattle.std.proofs.lemmas.Nat.{bit_set_by_shift, and_mask}
use Rattle.std.proofs.lemmas.Nat.Bits.{bit_at_or, bit_at-pow_same, bit_at-pow_other, bit_at-lt, bit_at-zero}
use Rattle.std.proofs.lemmas.List.Elements.{Contains-append_left, Contains-append_right, Contains-append_cases, Contains-push, Contains-push_cases}
use Rattle.ppc_isa.specs.Locations.{IsSetOf, with_bit, bits_of, chosen_of, when, cr}
use Rattle.ppc_isa.specs.declared.locs.Locs.{Locs}

pub range_next : (a n : ℕ) → a < n → range_with_len a (n - a) ≡ a ∷ range_with_len (a + 1) (n - (a + 1))
range_next a n lt = let e : n - a ≡ suc (n - (a + 1)) = omega arith in rw e refl

-- the first field, if it is chosen, and then the rest
pub fold-chosen_of : (mask n f : ℕ) (rest : List ℕ) → fold with_bit n (chosen_of mask (f ∷ rest)) ≡ fold with_bit (fold with_bit n (when (mask / 2 ^ (7 - f) % 2 == 1) (cr f))) (chosen_of mask rest)
fold-chosen_of mask n f rest = by_test (mask / 2 ^ (7 - f) % 2 == 1) where
  by_test : (b : Bool) → fold with_bit n (map cr (cond b (f ∷ filter (λ x. mask / 2 ^ (7 - x) % 2 == 1) rest) (filter (λ x. mask / 2 ^ (7 - x) % 2 == 1) rest))) ≡ fold with_bit (fold with_bit n (when b (cr f))) (chosen_of mask rest)
  by_test true = refl
  by_test false = refl

from_max : (a b m : ℕ) → m ≡ max a b → m ≡ 1 → b ≡ 0 → a ≡ 1
from_max a b m e one zero = omega arith

max_left : (a b m : ℕ) → m ≡ max a b → a ≡ 1 → b < 2 → m ≡ 1
max_left a b m e one lt = omega arith

max_right : (a b m : ℕ) → m ≡ max a b → b ≡ 1 → a < 2 → m ≡ 1
max_right a b m e one lt = omega arith

-- a bit of a set with one more location
joined : (n x k : ℕ) → bit_at (with_bit n x) k ≡ 1 → (bit_at n k ≡ 1) ⊎ (x ≡ k)
joined n x k h =
    elim (eqb_tells k x) [
      | inl e ↦ inr (sym e.1)
      | inr e ↦ inl (from_max (bit_at n k) (bit_at (2 ^ x) k) (bit_at (with_bit n x) k) (bit_at_or n (2 ^ x) k) h (bit_at-pow_other x k e.1))
    ]

kept : (n x k : ℕ) → bit_at n k ≡ 1 → bit_at (with_bit n x) k ≡ 1
kept n x k h = max_left (bit_at n k) (bit_at (2 ^ x) k) (bit_at (with_bit n x) k) (bit_at_or n (2 ^ x) k) h (bit_at-lt (2 ^ x) k)

joins : (n x k : ℕ) → x ≡ k → bit_at (with_bit n x) k ≡ 1
joins n x k e = max_right (bit_at n k) (bit_at (2 ^ x) k) (bit_at (with_bit n x) k) (bit_at_or n (2 ^ x) k) (rw e (bit_at-pow_same k)) (bit_at-lt n k)

-- a location is the first of a list, or one of the others
first_or_later : (x : ℕ) (xs : List ℕ) (k : ℕ) → Contains (x ∷ xs) k → (x ≡ k) ⊎ Contains xs k
first_or_later x xs k h =
    elim (Contains-append_cases (x ∷ []) xs k h) [
      | inl c ↦ (elim (Contains-push_cases [] x k c) [ inl none ↦ absurd (omega (arith, none.1)) | inr e ↦ inl e ])
      | inr c ↦ inr c
    ]

first_is : (x : ℕ) (xs : List ℕ) (k : ℕ) → x ≡ k → Contains (x ∷ xs) k
first_is x xs k e = Contains-append_left (x ∷ []) xs k (subst (λ (y : ℕ). Contains (x ∷ []) y) e (Contains-push [] x))

-- the bits of a set that grows by a list
found : (n : ℕ) (xs : List ℕ) (k : ℕ) → bit_at (fold with_bit n xs) k ≡ 1 → (bit_at n k ≡ 1) ⊎ Contains xs k
found n [] k h = inl h
found n (x ∷ xs) k h =
    elim (found (with_bit n x) xs k h) [
      | inl b ↦ (elim (joined n x k b) [ inl old ↦ inl old | inr e ↦ inr (first_is x xs k e) ])
      | inr c ↦ inr (Contains-append_right (x ∷ []) xs k c)
    ]

has_bit : (n : ℕ) (xs : List ℕ) (k : ℕ) → (bit_at n k ≡ 1) ⊎ Contains xs k → bit_at (fold with_bit n xs) k ≡ 1
has_bit n [] k (inl h) = h
has_bit n [] k (inr c) = absurd (omega (arith, c.1))
has_bit n (x ∷ xs) k (inl h) = has_bit (with_bit n x) xs k (inl (kept n x k h))
has_bit n (x ∷ xs) k (inr c) =
    elim (first_or_later x xs k c) [
      | inl e ↦ has_bit (with_bit n x) xs k (inl (joins n x k e))
      | inr later ↦ has_bit (with_bit n x) xs k (inr later)
    ]

bit_tells : (n k : ℕ) → (bit_at n k ≡ 1) ↔ IsBitSet n k
bit_tells n k = rw (and_mask (n / 2 ^ k) 1) at (bit_set_by_shift n k)

bits_tell : (locations : List ℕ) (k : ℕ) → IsBitSet (bits_of locations) k ↔ Contains locations k
bits_tell locations k = (there, back) where
  there : IsBitSet (bits_of locations) k → Contains locations k
  there b =
      elim (found 0 locations k ((bit_tells (bits_of locations) k).1 b)) [
        | inl z ↦ absurd (omega (arith, z, bit_at-zero k))
        | inr c ↦ c
      ]

  back : Contains locations k → IsBitSet (bits_of locations) k
  back c = (bit_tells (bits_of locations) k).0 (has_bit 0 locations k (inr c))

pub is_set : (set : Locs) (locations : List ℕ) → set.bits ≡ bits_of locations → set.bits < 2 ^ 46 → IsSetOf set locations
is_set set locations e lt = record {
  within = lt;
  each = λ k. subst (λ (n : ℕ). IsBitSet n k ↔ Contains locations k) (sym e) (bits_tell locations k);
}
