use Rattle.std.proofs.Common.{rules, ◌≡◌, inr, ℕ, true, MatchOption, Option, Some, None}
use Rattle.plan_verify.specs.Failures.{IsHeaded}
use Rattle.plan_verify.proofs.Certified.{certified_good}
use Rattle.plan_verify.proofs.block_fault.block_fault.Goals as goal

either : {A B : Type 0} {P Q : ℕ → Type 0} (o : Option ℕ) → (A → B) → ((x : ℕ) → P x → Q x) → MatchOption o A P → MatchOption o B Q
either None f g h = f h
either (Some x) f g h = g x h

pub returns : goal.returns
returns c =
    let q = c.in_ok-problem.problem in
    let block = c.args.block.now in
    let plan = c.args.plan.now in
    let is = c.in_ok-problem.ensures.problem in
    let yes : c.is_headed.result ≡ true = (search rules) in
    let headed : IsHeaded block plan = c.is_headed.ensures.0 yes in
    either c.fault_within.result
    (λ good. certified_good c.certified_cost_is_least.ensures c.args.live.now block c.args.leader plan headed q is c.in_ok-problem.ensures.full good.0 good.1)
    (λ place fails. inr (record { headed = headed; problem = q; is_problem = is; fails = fails }))
    c.fault_within.ensures
