use Rattle.std.proofs.Common.{◌≡◌}
use Rattle.word_kit.specs.Prelude.{GivesWord}
use Rattle.word_kit.specs.Algebra.{IsLater}
use Rattle.ppc_isa.specs.ShiftRows.{leading_zeros}
use Rattle.ppc_bits.specs.ShiftTerms.{zeros_term}
use Rattle.ppc_bits.proofs.counts.zeros.Given as goal

-- the places so far make what the term of so many makes
abbrev pub invariant-loop-place : goal.invariant-loop-place
invariant-loop-place g l = record {
  later : IsLater g.A.Alg l.fn.alg l.alg;
  makes : record { word = l.count; held = g.A.Alg.held l.alg } ≡ zeros_term g.A.Alg.ops l.place l.x (g.A.Alg.held l.fn.alg);
  gives : GivesWord g.A.Alg l.alg l.count (λ v. leading_zeros l.place (g.A.Alg.word l.x v));
}
