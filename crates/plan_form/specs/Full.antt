-- Full problems: those that have all maps over some GPRs and all moves between these, and a base tile for each word.
use Rattle.std.specs.Prelude.{◌≡◌, ◌⊎◌, ℕ, ◌+◌, ◌^◌, ◌<◌, ◌≤◌, ◌↔◌, List, length, All, AllPairs, Contains}
use Rattle.machines.specs.Prelude.{Map}
use Rattle.reg_map.specs.Prelude.{moved, moved_gpr, IsPossible}
use Rattle.plan_form.specs.declared.problem.Problem.{Problem}
use Rattle.plan_form.specs.declared.problem.Tile.{Tile}
use Rattle.plan_form.specs.declared.problem.Tile.TheVariants.{Base, Rule}
use Rattle.plan_form.specs.declared.problem.Offer.{Offer}
use Rattle.plan_form.specs.declared.problem.MovePrice.{MovePrice}
use Rattle.plan_form.specs.Maps.{IsMapOver, map_number}
use Rattle.plan_form.specs.Plans.{last}

-- rule numbers are 32-bit numbers
abbrev pub IsNumbered : Tile → Type 0
IsNumbered Base = Unit {0}
IsNumbered (Rule n) = n < 2 ^ 32

-- a move from one of the maps to another, at the price of its GPR at the place
pub record IsMove (q : Problem) (candidates : List ℕ) (price : ℕ → ℕ → ℕ) (move : MovePrice) : Type 0 where
  pub place : move.place < last q
  pub from : IsMapOver candidates move.map
  pub possible : IsPossible move.map move.step
  pub to : IsMapOver candidates (moved move.map move.step)
  pub price_is : move.price ≡ price move.place (moved_gpr move.map move.step)

-- a tile leads one to three places on, at most to the last place, and there under the exit map alone
pub record IsOffer (q : Problem) (candidates : List ℕ) (offer : Offer) : Type 0 where
  pub onward : offer.from < offer.to
  pub short : offer.to ≤ offer.from + 3
  pub within : offer.to ≤ last q
  pub map : IsMapOver candidates offer.map
  pub at_end : offer.to ≡ last q → offer.map ≡ q.exit
  pub price : offer.price < 1024
  pub tile : IsNumbered offer.tile

-- full over these candidates and these prices of moves
pub record IsFullOver (q : Problem) (candidates : List ℕ) (price : ℕ → ℕ → ℕ) : Type 0 where
  pub low : 2 ≤ q.places
  pub high : q.places ≤ 65
  pub few : length candidates ≤ 6
  pub registers : All (λ g. g < 32) candidates
  pub maps : (m : Map) → Contains q.maps.items m ↔ IsMapOver candidates m
  pub in_order : AllPairs (λ m n. map_number candidates m < map_number candidates n) q.maps.items
  pub entry : IsMapOver candidates q.entry
  pub exit : IsMapOver candidates q.exit
  pub prices : (place g : ℕ) → (price place g ≡ 0) ⊎ (price place g ≡ 3)
  pub moves : (move : MovePrice) → Contains q.moves.items move ↔ IsMove q candidates price move
  pub offers : (offer : Offer) → Contains q.offers.items offer → IsOffer q candidates offer
  pub base : (place : ℕ) (m : Map) → place < last q → IsMapOver candidates m → (place + 1 ≡ last q → m ≡ q.exit)
      → (cost : ℕ) × Contains q.offers.items (record { from = place; to = place + 1; map = m; tile = Base; price = cost })
  pub single : (o p : Offer) → Contains q.offers.items o → Contains q.offers.items p
      → o.from ≡ p.from → o.map ≡ p.map → o.tile ≡ p.tile → o ≡ p

-- The tables of moves and of offers may stand in any order.
abbrev pub IsFull : Problem → Type 0
IsFull q = (candidates : List ℕ) × (price : ℕ → ℕ → ℕ) × IsFullOver q candidates price
