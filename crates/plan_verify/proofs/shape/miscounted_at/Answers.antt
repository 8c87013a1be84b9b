use Rattle.std.proofs.Common.{rules, ◌≡◌, true, ⊎_elim, subst, arith}
use Rattle.std.proofs.lemmas.Bool.{cases_lt}
use Rattle.plan_form.specs.Prelude.{values_of}
use Rattle.plan_verify.specs.Failures.{IsCounted}
use Rattle.plan_verify.proofs.Shapes.{shaped}
use Rattle.plan_verify.proofs.shape.miscounted_at.Goals as goal

pub loop-place-preserved : goal.loop-place-preserved
loop-place-preserved c = λ k lt.
    let yes : c.is_counted.result ≡ true = (search rules) in
    ⊎_elim
    (λ before. c.loop-place.invariant k before)
    (λ ge. let same : c.loop-place.place ≡ k = omega (arith, lt, ge) in subst (λ n. IsCounted c.args.problem.now (values_of c.args.labels.now) n) same (c.is_counted.ensures.0 yes))
    (cases_lt k c.loop-place.place)

pub returns : goal.returns
returns c =
    let low = c.requires.2.low in
    shaped c.args.problem.now (values_of c.args.labels.now) low (λ k lt. c.loop-place.invariant k (omega (arith, lt, c.loop-place-test.false, c.loop-place.auto)))
