-- A plan that is certified fails nowhere.
use Rattle.std.proofs.Common.{◌≡◌, inl, inr, ℕ, List, [], ◌∷◌, length, get_or, sym, subst, ◌∙◌, arith}
use Rattle.plan_form.specs.declared.problem.BadLabel.{BadLabel}
use Rattle.plan_form.specs.declared.problem.Problem.{Problem}
use Rattle.plan_form.specs.declared.problem.Step.{Step}
use Rattle.plan_form.specs.Faults.{IsFirstBad}
use Rattle.plan_form.specs.Labels.{CertifyPlan}
use Rattle.plan_form.specs.Prelude.{Node, IsFullOver, IsShaped, IsWalk, entry_node}
use Rattle.plan_form.proofs.Bounds.{leads-once}
use Rattle.plan_form.proofs.Costs.{leaves-once, walk-once}
use Rattle.plan_verify.specs.Failures.{CertifiedPlansDoNotFail, FailsWithin, IsCounted, Sticks}

module _ (q : Problem) (candidates : List ℕ) (price : ℕ → ℕ → ℕ) (full : IsFullOver q candidates price) where
  never_stuck : (moves : ℕ) (u : Node) (steps : List Step) (cost place : ℕ) → IsWalk q moves u steps cost → Sticks q moves u steps place → ⊥
  never_stuck moves u [] cost place walk stuck = stuck.0 walk.0
  never_stuck moves u (step ∷ steps) cost place walk (inl stuck) = stuck.0 walk.0 walk.1 walk.2 walk.4 walk.5
  never_stuck moves u (step ∷ steps) cost place walk (inr on) =
      let same = leads-once q candidates price full u step on.0 walk.0 on.2 walk.2 on.3 walk.4 in
      let left = leaves-once moves step on.1 walk.1 on.4 walk.5 in
      let rest = subst (λ (n : ℕ). Sticks q n walk.2 steps place) left (subst (λ (v : Node). Sticks q on.1 v steps place) same.1 on.5) in
      never_stuck walk.1 walk.2 steps walk.3 place walk.6 rest

  counted : (values : List (List ℕ)) → IsShaped q values → (k : ℕ) → IsCounted q values k
  counted values shaped k =
      let low = full.low in
      let places = shaped.places in
      record {
        before = λ lt. shaped.before k lt;
        at_end = λ is. subst (λ (n : ℕ). length (get_or values n []) ≡ 1) (sym is) shaped.at_end;
        past = λ lt. omega (arith, low, places, lt);
      }

  never_mislabelled : (steps : List Step) (values : List (List ℕ)) (bad : BadLabel) → CertifyPlan q steps values → IsFirstBad q steps values bad → ⊥
  never_mislabelled steps values bad certified (inl start) = start.fails (certified.2.start start.i start.at)
  never_mislabelled steps values bad certified (inr (started, inl edge)) =
      let found = edge.first.sound in
      let of = found.4 in
      let obeyed = certified.2.edges found.0 found.1 found.2 found.3 of.i of.j of.leads of.from of.to in
      let fails = of.fails in
      omega (arith, obeyed, fails)
  never_mislabelled steps values bad certified (inr (started, inr end)) =
      end.fails (certified.2.end end.i end.at ∙ walk-once q candidates price full 6 (entry_node q) steps certified.0 end.cost certified.1 end.plan)

  never_within : (steps : List Step) (values : List (List ℕ)) (place : ℕ) → IsShaped q values → CertifyPlan q steps values → FailsWithin q steps values place → ⊥
  never_within steps values place shaped certified (inl stuck) = never_stuck 6 (entry_node q) steps certified.0 place certified.1 stuck
  never_within steps values place shaped certified (inr (valid, inl miscounted)) = miscounted.fails (counted values shaped place)
  never_within steps values place shaped certified (inr (valid, inr (has, mislabelled))) = never_mislabelled steps values mislabelled.0 certified mislabelled.1

pub never : CertifiedPlansDoNotFail
never q steps values place full shaped certified fails = never_within q full.0 full.1 full.2 steps values place shaped certified fails
