-- The first of the least plans by weight is the plan to be chosen.
use Rattle.std.proofs.Common.{◌≡◌, inl, inr, ℕ, List, length, arith}
use Rattle.std.proofs.lemmas.Bool.{cases_lt}
use Rattle.plan_form.specs.declared.problem.Problem.{Problem}
use Rattle.plan_form.specs.declared.problem.Step.{Step}
use Rattle.plan_form.specs.Prelude.{IsFullOver, IsValidPlan, IsChosen, IsAsGood, entry_node}
use Rattle.tile_plan.specs.Prelude.{IsFirstPlan}
use Rattle.tile_plan.proofs.Firsts.{walk-short}

pub chosen-of : (q : Problem) (candidates : List ℕ) (price : ℕ → ℕ → ℕ) → IsFullOver q candidates price → (steps : List Step) → (h : IsFirstPlan q steps)
    → IsChosen q steps h.first.cost
chosen-of q candidates price full steps h = record { plan = h.first.walk; best = go }
  where
    go : (other : List Step) (cost : ℕ) → IsValidPlan q other cost → IsAsGood q h.first.cost steps cost other
    go other cost plan =
        let low = h.least.bound other cost plan in
        let weighs = h.first.weighs in
        let short = walk-short q candidates price full 6 (entry_node q) other cost (omega arith) plan in
        elim (cases_lt h.first.cost cost) [
          | inl less ↦ inl less
          | inr high ↦
              let same : h.first.cost ≡ cost = omega (arith, high, low, weighs, short.0, full.high) in
              inr (
                same,
                elim (cases_lt (length steps) (length other)) [
                  | inl fewer ↦ inl fewer
                  | inr more ↦
                      let even : length steps ≡ length other = omega (arith, more, low, weighs, same) in
                      inr (even, h.first.first other cost plan (omega (arith, weighs, same, even)))
                ],
              )
        ]
