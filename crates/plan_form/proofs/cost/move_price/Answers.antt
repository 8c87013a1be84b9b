use Rattle.std.proofs.Common.{ℕ}
use Rattle.plan_form.specs.Prelude.{MovePrice}
use Rattle.plan_form.proofs.Parts.{front-search}
use Rattle.plan_form.proofs.cost.move_price.Goals as goal

pub returns-in-None : goal.returns-in-None
returns-in-None c =
    let m : ℕ → MovePrice = λ price. record { place = c.args.place; map = c.args.map.now; step = c.args.step; price = price } in
    front-search c.args.moves.now c.first_move-begin.result m c.price_among-in-None.result c.price_among-in-None.ensures c.in-None.ensures
