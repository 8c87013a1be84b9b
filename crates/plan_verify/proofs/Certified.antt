-- A plan that its labels certify is good.
use Rattle.std.proofs.Common.{◌≡◌, ℕ, ◌≤◌, Bool, List, [], get_or, sym, subst, ap, ◌∙◌, arith}
use Rattle.block_find.specs.declared.block.Block.{Block}
use Rattle.code_layout.specs.Prelude.{no_registers}
use Rattle.liveness.specs.Prelude.{Sets}
use Rattle.offer_make.specs.Problem.{IsProblemOf}
use Rattle.plan_form.specs.declared.problem.BlockPlan.{BlockPlan}
use Rattle.plan_form.specs.Labels.{CertifyPlan}
use Rattle.plan_form.specs.declared.problem.Problem.{Problem}
use Rattle.plan_form.specs.declared.problem.Step.{Step}
use Rattle.plan_form.specs.Prelude.{Certifies, IsFull, IsShaped, IsValidPlan, last, values_of}
use Rattle.plan_form.proofs.Bounds.{at, label-last}
use Rattle.plan_verify.specs.Failures.{IsGood, IsHeaded, end_label}

pub certified_good : ((q : Problem) (values : List (List ℕ)) (cost : ℕ) → IsFull q → Certifies q values cost → (steps : List Step) (other : ℕ) → IsValidPlan q steps other → cost ≤ other)
    → (live : Sets) (block : Block) (leader : Bool) (b : BlockPlan) → IsHeaded block b → (q : Problem) → IsProblemOf block no_registers no_registers leader live q → IsFull q
    → IsShaped q (values_of b.labels) → CertifyPlan q b.plan.steps.items (values_of b.labels) → IsGood live block leader b
certified_good least live block leader b headed q is full shaped certified =
    let values = values_of b.labels in
    let i = at q q.exit ((full.2.maps q.exit).1 full.2.exit) in
    let places = is.places in
    let words = headed.words in
    let last_is : last q ≡ b.words = omega (arith, places, words) in
    let cost_is : certified.0 ≡ end_label b = sym (certified.2.end i.0 i.1) ∙ label-last q values i.0 ∙ ap (λ (n : ℕ). get_or (get_or values n []) 0 0) last_is in
    let certifies : Certifies q values (end_label b) = subst (Certifies q values) cost_is certified.2 in
    record {
      headed = headed;
      problem = q;
      is_problem = is;
      is_full = full;
      shaped = shaped;
      valid = subst (IsValidPlan q b.plan.steps.items) cost_is certified.1;
      certified = certifies;
      least = λ steps cost plan. least q values (end_label b) full certifies steps cost plan;
    }
