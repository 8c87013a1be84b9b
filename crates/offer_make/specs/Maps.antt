-- The maps over some candidates, and contents of slots by their numbers.
use Rattle.std.specs.Prelude.{ℕ, zero, suc, ◌<◌, ◌↔◌, List, Contains, AllPairs, slice_index_or, Option, Some, None}
use Rattle.machines.specs.Prelude.{Map}
pub use Rattle.ppc_isa.specs.Map.{AreApart}
use Rattle.plan_form.specs.Prelude.{IsMapOver, map_number}

-- the maps over the candidates, in order
pub record AreMapsOver (candidates : List ℕ) (maps : List Map) : Type 0 where
  pub each : (m : Map) → Contains maps m ↔ IsMapOver candidates m
  pub in_order : AllPairs (λ m n. map_number candidates m < map_number candidates n) maps

-- 0 is empty, n the candidate at n - 1
abbrev pub content_of : List ℕ → ℕ → Option ℕ
content_of candidates zero = None
content_of candidates (suc n) = Some (slice_index_or candidates n 0)
