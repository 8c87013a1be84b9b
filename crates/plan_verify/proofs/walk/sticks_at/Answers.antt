use Rattle.std.proofs.Common.{ℕ, List, refl, subst}
use Rattle.plan_form.specs.declared.problem.Step.{Step}
use Rattle.plan_form.specs.Prelude.{IsValidPlan, Node}
use Rattle.plan_form.proofs.Costs.{node-same}
use Rattle.plan_verify.proofs.Walks.{follow, arrives}
use Rattle.plan_verify.proofs.walk.sticks_at.Goals as goal

pub loop-step-preserved : goal.loop-step-preserved
loop-step-preserved c =
    let l = c.loop-step in
    let u : Node = record { place = l.stand.place; map = l.stand.map } in
    let v : Node = record { place = c.in-Some.next.place; map = c.in-Some.next.map } in
    let leads = c.in-Some.ensures.0 in
    follow c.args.problem.now c.as_slice-steps.result.now l.step-index l.stand.left u l.invariant _ _ c.loop-step-test.true refl leads.0 c.in-Some.next.left v leads.1 c.in-Some.ensures.1

pub returns-then-same_map : goal.returns-then-same_map
returns-then-same_map c =
    let q = c.args.problem.now in
    let l = c.loop-step in
    let u : Node = record { place = l.stand.place; map = l.stand.map } in
    let there = node-same _ _ _ _ c.if-stand-problem.true (c.same_map.ensures.0 c.if-same_map.true) in
    subst (λ (xs : List Step). (cost : ℕ) × IsValidPlan q xs cost) c.as_slice-steps.ensures.value
    (arrives q c.as_slice-steps.result.now l.step-index l.stand.left u l.invariant c.loop-step-test.false there)
