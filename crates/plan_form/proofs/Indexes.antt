-- Maps by their indexes: a map of a full problem stands at one index.
use Rattle.std.proofs.Common.{◌≡◌, ◌⊎◌, inl, inr, ℕ, ◌+◌, ◌<◌, ◌≤◌, List, length, ap, ◌∙◌, arith}
use Rattle.std.proofs.lemmas.List.{get_or_default}
use Rattle.std.proofs.lemmas.Bool.{cases_lt}
use Rattle.machines.specs.Prelude.{Map}
use Rattle.plan_form.specs.Prelude.{Problem, map_number, IsFullOver, IsAt, map_at}

pub below-split : (k n : ℕ) → k < n + 1 → (k < n) ⊎ (k ≡ n)
below-split k n h = elim (cases_lt k n) [ inl low ↦ inl low | inr high ↦ inr (omega arith) ]

pub map_at-is : (q : Problem) (m : Map) (i : ℕ) → IsAt q m i → map_at q i ≡ m
map_at-is q m i h = get_or_default q.maps.items i q.exit m h.within ∙ h.is

pub map_at-at : (q : Problem) (i : ℕ) → i < length q.maps.items → IsAt q (map_at q i) i
map_at-at q i h = record { within = h; is = get_or_default q.maps.items i (map_at q i) q.exit h }

-- a map stands once
pub map-once : (q : Problem) (candidates : List ℕ) (price : ℕ → ℕ → ℕ) → IsFullOver q candidates price → (m : Map) (i j : ℕ) → IsAt q m i → IsAt q m j → i ≡ j
map-once q candidates price full m i j a b = go (cases_lt i j) (cases_lt j i)
  where
    apart : (i j : ℕ) → IsAt q m i → IsAt q m j → i < j → ⊥
    apart i j a b h =
        let less = full.in_order i j m h b.within in
        let e = ap (map_number candidates) a.is in let f = ap (map_number candidates) b.is in
        omega (arith, less, e, f)

    go : (i < j) ⊎ (j ≤ i) → (j < i) ⊎ (i ≤ j) → i ≡ j
    go (inl h) k = absurd (apart i j a b h)
    go (inr h) (inl k) = absurd (apart j i b a k)
    go (inr h) (inr k) = omega arith
