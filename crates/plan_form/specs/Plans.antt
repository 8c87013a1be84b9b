-- The plans of a problem, their costs, and the labels that certify a plan.
use Rattle.std.specs.Prelude.{◌≡◌, ◌⊎◌, ℕ, suc, ◌+◌, ◌-◌, ◌*◌, ◌<◌, ◌==◌, List, [], ◌∷◌, length, Contains, Option, Some, None, Bool, false}
use Rattle.std.specs.List.{position_or_len}
use Rattle.machines.specs.Prelude.{Map}
use Rattle.reg_map.specs.declared.moves.Move.TheVariants.{Drop, Take}
use Rattle.plan_form.specs.declared.problem.Problem.{Problem}
use Rattle.plan_form.specs.declared.problem.Step.{Step}
use Rattle.plan_form.specs.declared.problem.Step.TheVariants.{Go, Lay}
use Rattle.plan_form.specs.declared.problem.Tile.TheVariants.{Base, Rule}
use Rattle.reg_map.specs.Prelude.{moved}

-- a place with a map
pub record Node : Type 0 where
  pub place : ℕ
  pub map : Map

abbrev pub last : Problem → ℕ
last q = q.places - 1

-- a step leads from a node to a node at this price
abbrev pub Leads : Problem → Node → Step → ℕ → Node → Type 0
Leads q u (Go step) price v =
    Contains q.moves.items (record { place = u.place; map = u.map; step = step; price = price })
    × (v ≡ record { place = u.place; map = moved u.map step })
Leads q u (Lay tile) price v =
    Contains q.offers.items (record { from = u.place; to = v.place; map = u.map; tile = tile; price = price })
    × (v.map ≡ u.map)

-- how many moves may still follow in a row, before and after a step
abbrev pub Leaves : ℕ → Step → ℕ → Type 0
Leaves moves (Go step) after = moves ≡ suc after
Leaves moves (Lay tile) after = after ≡ 6

abbrev pub entry_node : Problem → Node
entry_node q = record { place = 0; map = q.entry }

abbrev pub exit_node : Problem → Node
exit_node q = record { place = last q; map = q.exit }

-- the steps lead from a node, with so many moves in a row to begin with, to the last node, at this cost
abbrev pub IsWalk : Problem → ℕ → Node → List Step → ℕ → Type 0
IsWalk q moves u [] cost = (u ≡ exit_node q) × (cost ≡ 0)
IsWalk q moves u (step ∷ steps) cost =
    (price : ℕ) × (after : ℕ) × (v : Node) × (rest : ℕ)
    × Leads q u step price v × Leaves moves step after × IsWalk q after v steps rest × (cost ≡ price + rest)

-- a valid plan of this cost
abbrev pub IsValidPlan : Problem → List Step → ℕ → Type 0
IsValidPlan q steps cost = IsWalk q 6 (entry_node q) steps cost

-- a map's slots hold this GPR in edi, and nothing else
abbrev pub is_alone : ℕ → Option ℕ → Option ℕ → Option ℕ → Bool
is_alone g None None (Some h) = h == g
is_alone g None None None = false
is_alone g None (Some y) z = false
is_alone g (Some x) y z = false

-- the candidates stand in the order of the maps that hold one of them alone
abbrev pub rank : Problem → ℕ → ℕ
rank q g = position_or_len (λ m. is_alone g m.ebx m.esi m.edi) q.maps.items

-- the order of steps: Base, rules by number, Drop by slot, Take by slot and then candidate
abbrev pub order : Problem → Step → ℕ
order q (Lay Base) = 0
order q (Lay (Rule n)) = n + 1
order q (Go (Drop slot)) = 0x1_0000_0001 + slot
order q (Go (Take slot g)) = 0x1_0000_0200 + 512 * slot + rank q g

-- the first list of steps isn't behind the second one
abbrev pub IsNotBehind : Problem → List Step → List Step → Type 0
IsNotBehind q [] other = Unit {0}
IsNotBehind q (x ∷ xs) [] = ⊥
IsNotBehind q (x ∷ xs) (y ∷ ys) = (order q x < order q y) ⊎ ((order q x ≡ order q y) × IsNotBehind q xs ys)

-- a plan of this cost is at least as good as another: it costs less, or as much and has fewer steps, or as many and stands first
abbrev pub IsAsGood : Problem → ℕ → List Step → ℕ → List Step → Type 0
IsAsGood q cost steps cost' other =
    (cost < cost') ⊎ ((cost ≡ cost') × ((length steps < length other) ⊎ ((length steps ≡ length other) × IsNotBehind q steps other)))

-- the plan that is to be chosen
pub record IsChosen (q : Problem) (steps : List Step) (cost : ℕ) : Type 0 where
  pub plan : IsValidPlan q steps cost
  pub best : (other : List Step) (cost' : ℕ) → IsValidPlan q other cost' → IsAsGood q cost steps cost' other
