use Rattle.std.proofs.Common.{inr, arith}
use Rattle.runs.proofs.Runs.{never_agrees}
use Rattle.runs.proofs.law.standing_still_fails.Goals as goal

pub returns : goal.returns
returns c = record {
  bounded = λ p q g h meets. let p0 = meets.0 in let q0 = meets.1 in (omega arith, omega arith);
  stands = λ p q g h meets. inr meets;
  differs = never_agrees;
}
