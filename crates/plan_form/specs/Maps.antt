-- The maps over a list of GPRs, its candidates.
use Rattle.std.specs.Prelude.{ℕ, ◌+◌, ◌*◌, ◌==◌, Option, Some, None, List, Contains}
use Rattle.std.specs.List.{position_or_len}
use Rattle.machines.specs.Prelude.{Map, IsMap}

-- a slot is empty or holds one of these GPRs
abbrev pub IsContentOf : List ℕ → Option ℕ → Type 0
IsContentOf candidates None = Unit {0}
IsContentOf candidates (Some g) = Contains candidates g

-- a map that holds candidates alone
pub record IsMapOver (candidates : List ℕ) (m : Map) : Type 0 where
  pub is_map : IsMap m
  pub ebx : IsContentOf candidates m.ebx
  pub esi : IsContentOf candidates m.esi
  pub edi : IsContentOf candidates m.edi

-- the number of a slot's content: 0 where it is empty, else one more than the candidate's place
abbrev pub content_number : List ℕ → Option ℕ → ℕ
content_number candidates None = 0
content_number candidates (Some g) = position_or_len (λ h. h == g) candidates + 1

-- maps over at most six candidates are ordered by the content of ebx, then of esi, then of edi
abbrev pub map_number : List ℕ → Map → ℕ
map_number candidates m =
    49 * content_number candidates m.ebx + 7 * content_number candidates m.esi + content_number candidates m.edi
