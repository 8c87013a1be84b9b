-- Keys of maps: numbers that tell maps apart, and the table that finds a map's index by them.
use Rattle.std.specs.Prelude.{◌≡◌, ℕ, ◌+◌, ◌*◌, ◌<◌, List, length, slice_index_or, Option, Some, None}
use Rattle.machines.specs.Prelude.{Map}
use Rattle.plan_form.specs.declared.problem.Problem.{Problem}
use Rattle.plan_form.specs.Labels.{map_at}

-- a slot has 33 contents
abbrev pub content_key : Option ℕ → ℕ
content_key None = 0
content_key (Some g) = g + 1

abbrev pub key : Map → ℕ
key m = (content_key m.ebx * 33 + content_key m.esi) * 33 + content_key m.edi

-- the table has the index of each map at its key
pub record IsIndex (q : Problem) (table : List ℕ) : Type 0 where
  pub len : length table ≡ 33 * 33 * 33
  pub at : (i : ℕ) → i < length q.maps.items → slice_index_or table (key (map_at q i)) 0 ≡ i
