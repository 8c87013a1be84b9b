-- What the planner answers.
use Rattle.std.specs.Prelude.{◌≡◌, ℕ, ◌≤◌, List, Contains}
use Rattle.plan_form.specs.declared.problem.Problem.{Problem}
use Rattle.plan_form.specs.declared.problem.Step.{Step}
use Rattle.plan_form.specs.Prelude.{Node, IsChosen, last, IsAt, IsShaped, Certifies, label_at}
use Rattle.tile_plan.specs.Reach.{Reaches}

-- a map of the problem at one of its places, and at the last place the exit map
pub record IsNode (q : Problem) (u : Node) : Type 0 where
  pub place : u.place ≤ last q
  pub map : Contains q.maps.items u.map
  pub at_end : u.place ≡ last q → u.map ≡ q.exit

-- steps lead from the start to the node at this cost, and at no lower one
pub record IsLeastCost (q : Problem) (u : Node) (cost : ℕ) : Type 0 where
  pub reached : Reaches q u cost
  pub bound : (other : ℕ) → Reaches q u other → cost ≤ other

-- the plan that is to be chosen, with labels that are the least costs from the start and certify its cost
pub record IsSolution (q : Problem) (steps : List Step) (values : List (List ℕ)) : Type 0 where
  pub cost : ℕ
  pub chosen : IsChosen q steps cost
  pub shaped : IsShaped q values
  pub certificate : Certifies q values cost
  pub labels : (u : Node) (i : ℕ) → IsNode q u → IsAt q u.map i → IsLeastCost q u (label_at q values u.place i)
