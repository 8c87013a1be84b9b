-- Edges between maps by their indexes.
use Rattle.std.specs.Prelude.{◌≡◌, ◌≢◌, ℕ, ◌<◌, List, [], ◌∷◌, ◌++◌, length, slice_index_or, Contains, All}
use Rattle.plan_form.specs.declared.problem.Problem.{Problem}
use Rattle.plan_form.specs.declared.problem.Step.TheVariants.{Go, Lay}
use Rattle.plan_form.specs.declared.problem.Offer.{Offer}
use Rattle.plan_form.specs.declared.problem.MovePrice.{MovePrice}
use Rattle.reg_map.specs.Prelude.{moved}
use Rattle.plan_form.specs.Prelude.{Node, Leads, IsAt, map_at}
use Rattle.tile_plan.specs.declared.arcs.Arc.{Arc}

-- the node at a place and the index of a map
abbrev pub node_at : Problem → ℕ → ℕ → Node
node_at q place i = record { place = place; map = map_at q i }

-- the edge of a move, and of an offer
pub record IsMoveArc (q : Problem) (move : MovePrice) (arc : Arc) : Type 0 where
  pub from : IsAt q move.map arc.from
  pub step : arc.step ≡ Go move.step
  pub price : arc.price ≡ move.price
  pub place : arc.place ≡ move.place
  pub to : IsAt q (moved move.map move.step) arc.to

pub record IsOfferArc (q : Problem) (offer : Offer) (arc : Arc) : Type 0 where
  pub from : IsAt q offer.map arc.from
  pub step : arc.step ≡ Lay offer.tile
  pub price : arc.price ≡ offer.price
  pub place : arc.place ≡ offer.to
  pub to : IsAt q offer.map arc.to

-- an edge of the problem
pub record IsArc (q : Problem) (place : ℕ) (arc : Arc) : Type 0 where
  pub from : arc.from < length q.maps.items
  pub to : arc.to < length q.maps.items
  pub leads : Leads q (node_at q place arc.from) arc.step arc.price (node_at q arc.place arc.to)

-- the edges from a place, all of them
pub record AreArcs (q : Problem) (place : ℕ) (arcs : List Arc) : Type 0 where
  pub sound : All (IsArc q place) arcs
  pub moves : (move : MovePrice) → Contains q.moves.items move → move.place ≡ place → (arc : Arc) × Contains arcs arc × IsMoveArc q move arc
  pub offers : (offer : Offer) → Contains q.offers.items offer → offer.from ≡ place → (arc : Arc) × Contains arcs arc × IsOfferArc q offer arc

-- the edges from each place in turn
pub record AreAllArcs (q : Problem) (arcs : List (List Arc)) : Type 0 where
  pub len : length arcs ≡ q.places
  pub places : (place : ℕ) → place < q.places → AreArcs q place (slice_index_or arcs place [])

-- of the first n items, those at the place have their edge in the list
pub record IsCollected {X : Type 0} (at : X → ℕ) (Is : X → Arc → Type 0) (place : ℕ) (items : List X) (n : ℕ) (arcs : List Arc) : Type 0 where
  pub each : (k : ℕ) (d : X) → k < n → at (slice_index_or items k d) ≡ place → (arc : Arc) × Contains arcs arc × Is (slice_index_or items k d) arc

-- the edges from a place of the first so many moves and of the first so many offers
pub record AreFromPlace (q : Problem) (place moves offers : ℕ) (arcs : List Arc) : Type 0 where
  pub sound : All (IsArc q place) arcs
  pub moves_in : IsCollected (λ (m : MovePrice). m.place) (IsMoveArc q) place q.moves.items moves arcs
  pub offers_in : IsCollected (λ (o : Offer). o.from) (IsOfferArc q) place q.offers.items offers arcs

-- the same from each place
pub record AreSoFar (q : Problem) (moves offers : ℕ) (arcs : List (List Arc)) : Type 0 where
  pub len : length arcs ≡ q.places
  pub places : (place : ℕ) → place < q.places → AreFromPlace q place moves offers (slice_index_or arcs place [])

-- the list of one place has one more edge, at its end
pub record IsPushed (old new : List (List Arc)) (place : ℕ) (arc : Arc) : Type 0 where
  pub len : length new ≡ length old
  pub here : slice_index_or new place [] ≡ slice_index_or old place [] ++ arc ∷ []
  pub others : (k : ℕ) → k ≢ place → slice_index_or new k [] ≡ slice_index_or old k []
