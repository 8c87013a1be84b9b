use Rattle.std.proofs.Common.{◌≡◌, ◌<◌, ℕ, get_or}
use Rattle.plan_form.specs.Prelude.{Offer}
use Rattle.plan_form.proofs.cost.offer_among.Given as goal

abbrev pub invariant-loop-item : goal.invariant-loop-item
invariant-loop-item l = (to price k : ℕ) → k < l.item-index
    → let sought : Offer = record { from = l.place; to = to; map = l.map; tile = l.tile; price = price } in get_or l.offers k sought ≡ sought → ⊥
