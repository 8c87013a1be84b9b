-- Where each place has as many labels as it needs, labels are shaped.
use Rattle.std.proofs.Common.{◌≡◌, ℕ, ◌+◌, ◌<◌, ◌≤◌, List, [], length, get_or, ⊎_elim, refl, ap, arith}
use Rattle.std.proofs.lemmas.Bool.{cases_lt}
use Rattle.std.proofs.lemmas.List.{get_or_past}
use Rattle.plan_form.specs.declared.problem.Problem.{Problem}
use Rattle.plan_form.specs.Prelude.{IsShaped, last}
use Rattle.plan_verify.specs.Failures.{IsCounted}

module _ (q : Problem) (values : List (List ℕ)) (some : 2 ≤ q.places) (each : (k : ℕ) → k < q.places + 1 → IsCounted q values k) where
  abbrev at_last : length (get_or values (last q) []) ≡ 1
  at_last = (each (last q) (omega (arith, some))).at_end refl

  no_more : length values ≤ q.places
  no_more = (each q.places (omega arith)).past (omega (arith, some))

  no_fewer : q.places ≤ length values
  no_fewer = ⊎_elim
      (λ lt. omega (arith, lt, some))
      (λ ge. let none : length (get_or values (last q) []) ≡ 0 = ap length (get_or_past values (last q) [] ge) in omega (arith, none, at_last))
      (cases_lt (last q) (length values))

  pub shaped : IsShaped q values
  shaped = record {
    places = omega (arith, no_more, no_fewer);
    before = λ place lt. (each place (omega (arith, lt, some))).before lt;
    at_end = at_last;
  }
