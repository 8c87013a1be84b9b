use Rattle.std.proofs.Common.{◌≡◌, ◌<◌, ℕ, get_or}
use Rattle.plan_form.specs.Prelude.{MovePrice}
use Rattle.plan_form.proofs.cost.price_among.Given as goal

abbrev pub invariant-loop-item : goal.invariant-loop-item
invariant-loop-item l = (price k : ℕ) → k < l.item-index
    → let sought : MovePrice = record { place = l.place; map = l.map; step = l.step; price = price } in get_or l.moves k sought ≡ sought → ⊥
