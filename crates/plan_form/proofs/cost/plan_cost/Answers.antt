use Rattle.std.proofs.Common.{◌≡◌, suc, Contains, ◌-◌, refl, sym, ◌∙◌, subst, arith, List}
use Rattle.plan_form.specs.Prelude.{Step, Go, Lay, MovePrice, Node, IsValidPlan}
use Rattle.reg_map.specs.Prelude.{moved}
use Rattle.plan_form.proofs.Costs.{node-same, follow, followed-as, stuck, arrives}
use Rattle.plan_form.proofs.cost.plan_cost.Goals as goal
use Rattle.plan_form.proofs.cost.plan_cost.Goals.{in-Go+else-left-eq0+in-Some, in-Lay+in-Some-offer_of}

pub loop-step-preserved : goal.loop-step-preserved
loop-step-preserved c =
    let q = c.args.problem.now in
    let l = c.loop-step in
    let u : Node = record { place = l.place; map = l.map } in
    elim c.match-step.branch [
      | in-Go+else-left-eq0+in-Some w ↦
          let move : MovePrice = record { place = l.place; map = l.map; step = w.in-Go.go; price = w.in-Some.price } in
          let v : Node = record { place = l.place; map = moved l.map w.in-Go.go } in
          let there = subst (λ xs. Contains xs move) w.as_slice.ensures.value w.in-Some.ensures in
          let leaves : l.left ≡ suc (l.left - 1) = omega (arith, w.if-left-eq0.false) in
          followed-as q c.as_slice-steps.result.now _ _ _ _ _ v _ w.left-is w.cost-is (node-same _ _ _ _ w.place-is (w.map-is ∙ w.map_behind-map.ensures))
          (follow q c.requires.0 c.requires.1 c.requires.2 c.as_slice-steps.result.now _ _ _ u (Go w.in-Go.go) _ w.in-Some.price (l.left - 1) v l.invariant c.loop-step-test.true w.in-Go.is (there, refl) leaves)
      | in-Lay+in-Some-offer_of w ↦
          let o = w.in-Some-offer_of.offer in
          let v : Node = record { place = o.to; map = l.map } in
          let found = w.in-Some-offer_of.ensures in
          let there = subst (λ xs. Contains xs o) w.as_slice-in-Lay.ensures.value found.0 in
          let here = subst (Contains q.offers.items) found.1 there in
          followed-as q c.as_slice-steps.result.now _ _ _ _ _ v _ w.left-is w.cost-is (node-same _ _ _ _ w.place-is w.map-is)
          (follow q c.requires.0 c.requires.1 c.requires.2 c.as_slice-steps.result.now _ _ _ u (Lay w.in-Lay.tile) _ o.price 6 v l.invariant c.loop-step-test.true w.in-Lay.is (here, refl) refl)
    ]

pub returns-then-same_map : goal.returns-then-same_map
returns-then-same_map c =
    let q = c.args.problem.now in
    let same : c.loop-step.map ≡ q.exit = c.same_map.ensures.0 c.if-same_map.true in
    subst (λ (xs : List Step). IsValidPlan q xs c.loop-step.cost) c.as_slice-steps.ensures.value
    (arrives q c.requires.0 c.requires.1 c.requires.2 _ _ _ _ _ c.loop-step.invariant c.loop-step-test.false (node-same _ _ _ _ c.if-place-problem.true same))

pub returns-in_default : goal.returns-in_default
returns-in_default c =
    let q = c.args.problem.now in
    let l = c.loop-step in
    λ cost plan.
    stuck q c.requires.0 c.requires.1 c.requires.2 c.as_slice-steps.result.now _ _ _ _ (Go c.in-Go.go) _ l.invariant c.loop-step-test.true c.in-Go.is
    (λ price after v h _. c.in_default.ensures price (subst (λ xs. Contains xs (record { place = l.place; map = l.map; step = c.in-Go.go; price = price })) (sym c.as_slice.ensures.value) h.0))
    cost (subst (λ (xs : List Step). IsValidPlan q xs cost) (sym c.as_slice-steps.ensures.value) plan)

pub returns-in_default-offer_of : goal.returns-in_default-offer_of
returns-in_default-offer_of c =
    let q = c.args.problem.now in
    let l = c.loop-step in
    λ cost plan.
    stuck q c.requires.0 c.requires.1 c.requires.2 c.as_slice-steps.result.now _ _ _ _ (Lay c.in-Lay.tile) _ l.invariant c.loop-step-test.true c.in-Lay.is
    (λ price after v h _. c.in_default-offer_of.ensures v.place price (subst (λ xs. Contains xs (record { from = l.place; to = v.place; map = l.map; tile = c.in-Lay.tile; price = price })) (sym c.as_slice-in-Lay.ensures.value) h.0))
    cost (subst (λ (xs : List Step). IsValidPlan q xs cost) (sym c.as_slice-steps.ensures.value) plan)
