-- A full problem has few maps, since their numbers increase.
use Rattle.std.proofs.Common.{inl, inr, ℕ, zero, suc, ◌<◌, ◌≤◌, ◌==◌, not, List, length, get_or, Option, Some, None, arith}
use Rattle.std.proofs.lemmas.Bool.{cases_lt}
use Rattle.std.proofs.lemmas.List.Sums.{prefix_len-le-length}
use Rattle.machines.specs.Prelude.{Map}
use Rattle.plan_form.specs.Prelude.{Problem, content_number, map_number, IsFullOver}

content-few : (candidates : List ℕ) → length candidates ≤ 6 → (x : Option ℕ) → content_number candidates x ≤ 7
content-few candidates few None = omega arith
content-few candidates few (Some g) = let k = prefix_len-le-length (λ h. not (h == g)) candidates in omega (arith, k, few)

number-few : (candidates : List ℕ) → length candidates ≤ 6 → (m : Map) → map_number candidates m ≤ 399
number-few candidates few m = let a = content-few candidates few m.ebx in let b = content-few candidates few m.esi in let c = content-few candidates few m.edi in omega (arith, a, b, c)

module _ (q : Problem) (candidates : List ℕ) (price : ℕ → ℕ → ℕ) (full : IsFullOver q candidates price) where
  index-low : (i : ℕ) → i < length q.maps.items → i ≤ map_number candidates (get_or q.maps.items i q.exit)
  index-low zero h = omega arith
  index-low (suc i) h =
      let rest = index-low i (omega (arith, h)) in
      let less = full.in_order i (suc i) q.exit (omega arith) h in
      omega (arith, rest, less)

  pub few-maps : length q.maps.items ≤ 400
  few-maps = elim (cases_lt 400 (length q.maps.items)) [
    | inl many ↦ absurd (let a = index-low 400 many in let b = number-few candidates full.few (get_or q.maps.items 400 q.exit) in omega (arith, a, b))
    | inr few ↦ few
  ]
