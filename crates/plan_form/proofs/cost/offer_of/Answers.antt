use Rattle.std.proofs.Common.{◌≡◌, ℕ}
use Rattle.plan_form.specs.Prelude.{Offer}
use Rattle.plan_form.proofs.Parts.{front-offer}
use Rattle.plan_form.proofs.cost.offer_of.Goals as goal

pub returns-in-None : goal.returns-in-None
returns-in-None c =
    let m : ℕ → ℕ → Offer = λ to price. record { from = c.args.place; to = to; map = c.args.map.now; tile = c.args.tile; price = price } in
    front-offer c.args.offers.now c.first_offer-begin.result m (λ o. o ≡ m o.to o.price) c.offer_among-in-None.result c.offer_among-in-None.ensures c.in-None.ensures
