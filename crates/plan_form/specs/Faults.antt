-- Where labels fail first.
use Rattle.std.specs.Prelude.{◌≡◌, ◌≢◌, ◌⊎◌, ℕ, ◌+◌, ◌*◌, ◌<◌, ◌≤◌, List, Option, Some, None}
use Rattle.plan_form.specs.declared.problem.Problem.{Problem}
use Rattle.plan_form.specs.declared.problem.Offer.{Offer}
use Rattle.plan_form.specs.declared.problem.MovePrice.{MovePrice}
use Rattle.plan_form.specs.declared.problem.BadLabel.{BadLabel}
use Rattle.plan_form.specs.declared.problem.Step.{Step}
use Rattle.plan_form.specs.declared.problem.Step.TheVariants.{Go, Lay}
use Rattle.plan_form.specs.declared.check.Fault.{Fault}
use Rattle.reg_map.specs.Prelude.{moved}
use Rattle.plan_form.specs.Plans.{Node, Leads, IsValidPlan, order, last}
use Rattle.plan_form.specs.Labels.{IsAt, label_at, IsObeyed}

-- the order of edges: by place, by the index of the map, by the order of steps
abbrev pub edge_order : Problem → ℕ → ℕ → Step → ℕ
edge_order q place i step = (512 * place + i) * 0x2_0000_0000 + order q step

-- an edge is obeyed
abbrev pub IsPassed : Problem → List (List ℕ) → Node → ℕ → Node → Type 0
IsPassed q values u price v = (i j : ℕ) → IsAt q u.map i → IsAt q v.map j → label_at q values v.place j ≤ label_at q values u.place i + price

-- this edge is not obeyed, and the fault says so
pub record IsFaultOf (q : Problem) (values : List (List ℕ)) (u : Node) (step : Step) (price : ℕ) (v : Node) (fault : Fault) : Type 0 where
  pub i : ℕ
  pub j : ℕ
  pub from : IsAt q u.map i
  pub to : IsAt q v.map j
  pub leads : Leads q u step price v
  pub fails : label_at q values u.place i + price < label_at q values v.place j
  pub place_is : fault.bad.place ≡ u.place
  pub map_is : fault.bad.map ≡ i
  pub from_is : fault.bad.from ≡ label_at q values u.place i
  pub to_is : fault.bad.to ≡ label_at q values v.place j
  pub price_is : fault.bad.price ≡ price
  pub order_is : fault.order ≡ edge_order q u.place i step

-- the result is one of the two, and not behind either
abbrev pub IsNoLater : Option Fault → ℕ → Type 0
IsNoLater None n = ⊥
IsNoLater (Some fault) n = fault.order ≤ n

pub record IsEarlier (first other result : Option Fault) : Type 0 where
  pub one : (result ≡ first) ⊎ (result ≡ other)
  pub by_first : (n : ℕ) → IsNoLater first n → IsNoLater result n
  pub by_other : (n : ℕ) → IsNoLater other n → IsNoLater result n

-- what is found is a fault of some edge
abbrev pub IsSound : Problem → List (List ℕ) → Option Fault → Type 0
IsSound q values None = Unit {0}
IsSound q values (Some fault) = (u : Node) × (step : Step) × (price : ℕ) × (v : Node) × IsFaultOf q values u step price v fault

-- what is found is not behind the edge, where that is not obeyed
abbrev pub IsFound : Problem → List (List ℕ) → Node → Step → ℕ → Node → Option Fault → Type 0
IsFound q values u step price v found = (i j : ℕ) → IsAt q u.map i → IsAt q v.map j
    → label_at q values u.place i + price < label_at q values v.place j → IsNoLater found (edge_order q u.place i step)

pub record IsMoveFault (q : Problem) (values : List (List ℕ)) (move : MovePrice) (found : Option Fault) : Type 0 where
  pub sound : IsSound q values found
  pub covers : IsFound q values (record { place = move.place; map = move.map }) (Go move.step) move.price (record { place = move.place; map = moved move.map move.step }) found

pub record IsOfferFault (q : Problem) (values : List (List ℕ)) (offer : Offer) (found : Option Fault) : Type 0 where
  pub sound : IsSound q values found
  pub covers : IsFound q values (record { place = offer.from; map = offer.map }) (Lay offer.tile) offer.price (record { place = offer.to; map = offer.map }) found

-- the first edge that is not obeyed, and nothing exactly where all are
pub record IsFirstFault (q : Problem) (values : List (List ℕ)) (found : Option Fault) : Type 0 where
  pub sound : IsSound q values found
  pub covers : (u : Node) (step : Step) (price : ℕ) (v : Node) → Leads q u step price v → IsFound q values u step price v found

-- the label of the start is not 0
pub record IsBadStart (q : Problem) (values : List (List ℕ)) (bad : BadLabel) : Type 0 where
  pub i : ℕ
  pub at : IsAt q q.entry i
  pub fails : label_at q values 0 i ≢ 0
  pub is : bad ≡ record { place = 0; map = i; from = label_at q values 0 i; to = 0; price = 0 }

-- the first edge that is not obeyed
pub record IsBadEdge (q : Problem) (values : List (List ℕ)) (bad : BadLabel) : Type 0 where
  pub fault : Fault
  pub is : bad ≡ fault.bad
  pub first : IsFirstFault q values (Some fault)

-- all edges are obeyed, and the last label isn't the plan's cost
pub record IsBadEnd (q : Problem) (steps : List Step) (values : List (List ℕ)) (bad : BadLabel) : Type 0 where
  pub edges : IsObeyed q values
  pub cost : ℕ
  pub plan : IsValidPlan q steps cost
  pub i : ℕ
  pub at : IsAt q q.exit i
  pub fails : label_at q values (last q) i ≢ cost
  pub is : bad ≡ record { place = last q; map = i; from = label_at q values (last q) i; to = cost; price = 0 }

-- the start is tried first, then the edges, then the end
abbrev pub IsFirstBad : Problem → List Step → List (List ℕ) → BadLabel → Type 0
IsFirstBad q steps values bad = IsBadStart q values bad
    ⊎ (((i : ℕ) → IsAt q q.entry i → label_at q values 0 i ≡ 0) × (IsBadEdge q values bad ⊎ IsBadEnd q steps values bad))
