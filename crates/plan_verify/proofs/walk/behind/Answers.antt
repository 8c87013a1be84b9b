use Rattle.std.proofs.Common.{ℕ, Contains, refl, sym, subst}
use Rattle.plan_form.specs.declared.problem.MovePrice.{MovePrice}
use Rattle.plan_form.specs.declared.problem.Offer.{Offer}
use Rattle.plan_form.specs.declared.problem.Step.{Step}
use Rattle.plan_form.specs.declared.problem.Step.TheVariants.{Go, Lay}
use Rattle.plan_form.specs.Prelude.{Node, Leads, Leaves}
use Rattle.plan_verify.specs.Failures.{LeadsNowhere}
use Rattle.plan_verify.proofs.walk.behind.Goals as goal

pub returns-in-None : goal.returns-in-None
returns-in-None c =
    let q = c.args.problem.now in
    let s = c.args.stand.now in
    let u : Node = record { place = s.place; map = s.map } in
    let move : ℕ → MovePrice = λ price. record { place = s.place; map = s.map; step = c.in-Go.go; price = price } in
    let none : LeadsNowhere q s.left u (Go c.in-Go.go) = λ price after v leads _. c.in-None.ensures price (subst (λ xs. Contains xs (move price)) (sym c.as_slice.ensures.value) leads.0) in
    subst (λ (step : Step). LeadsNowhere q s.left u step) (sym c.in-Go.is) none

pub returns-in-None-offer_of : goal.returns-in-None-offer_of
returns-in-None-offer_of c =
    let q = c.args.problem.now in
    let s = c.args.stand.now in
    let u : Node = record { place = s.place; map = s.map } in
    let offer : ℕ → ℕ → Offer = λ to price. record { from = s.place; to = to; map = s.map; tile = c.in-Lay.tile; price = price } in
    let none : LeadsNowhere q s.left u (Lay c.in-Lay.tile) = λ price after v leads _. c.in-None-offer_of.ensures v.place price (subst (λ xs. Contains xs (offer v.place price)) (sym c.as_slice-in-Lay.ensures.value) leads.0) in
    subst (λ (step : Step). LeadsNowhere q s.left u step) (sym c.in-Lay.is) none

pub returns-in-Some-offer_of : goal.returns-in-Some-offer_of
returns-in-Some-offer_of c =
    let q = c.args.problem.now in
    let s = c.args.stand.now in
    let u : Node = record { place = s.place; map = s.map } in
    let o = c.in-Some-offer_of.offer in
    let v : Node = record { place = o.to; map = s.map } in
    let found = c.in-Some-offer_of.ensures in
    let there = subst (λ xs. Contains xs o) c.as_slice-in-Lay.ensures.value found.0 in
    let leads : Leads q u (Lay c.in-Lay.tile) o.price v = (subst (Contains q.offers.items) found.1 there, refl) in
    subst (λ (step : Step). ((price : ℕ) × Leads q u step price v) × Leaves s.left step 6) (sym c.in-Lay.is) ((o.price, leads), refl)
