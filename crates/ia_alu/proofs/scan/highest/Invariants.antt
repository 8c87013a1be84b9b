use Rattle.std.proofs.Common.{◌≡◌}
use Rattle.word_kit.specs.Prelude.{GivesWord, plain_operations}
use Rattle.word_kit.specs.Algebra.{IsLater}
use Rattle.ia_alu.specs.Parts.{highest_term}
use Rattle.ia_alu.proofs.scan.highest.Given as goal

-- the places so far make what the term of so many makes
abbrev pub invariant-loop-place : goal.invariant-loop-place
invariant-loop-place g l = record {
  later : IsLater g.A.Alg l.fn.alg l.alg;
  makes : record { word = l.highest; held = g.A.Alg.held l.alg } ≡ highest_term g.A.Alg.ops l.place (g.A.Alg.held l.fn.alg) l.x;
  gives : GivesWord g.A.Alg l.alg l.highest (λ v. (highest_term plain_operations l.place tt (g.A.Alg.word l.x v)).word);
}
