use Rattle.std.proofs.Common.{◌≡◌, ℕ, ◌+◌, ◌-◌, add-one, rules, refl, cond}
use Rattle.word_kit.specs.Prelude.{Operations, bit_of}
use Rattle.ppc_isa.specs.ShiftRows.{leading_zeros}
use Rattle.ppc_bits.specs.ShiftTerms.{zeros_term}
use Rattle.ppc_bits.proofs.counts.zeros.Goals as goal

more : {W B H : Type 0} (ops : Operations W B H) (n : ℕ) (x : W) (h : H) → zeros_term ops (n + 1) x h ≡ ops.pick_of (zeros_term ops n x h).held (ops.bit_of x n) (ops.lit_of (31 - n)) (zeros_term ops n x h).word
unfolding zeros_term
more ops n x h = rw add-one refl

more_zeros : (n x : ℕ) → leading_zeros (n + 1) x ≡ cond (bit_of x n) (31 - n) (leading_zeros n x)
unfolding leading_zeros
more_zeros n x = rw add-one refl

pub loop-place-init : goal.loop-place-init
unfolding zeros_term leading_zeros
loop-place-init g c = search rules

pub loop-place-preserved : goal.loop-place-preserved
loop-place-preserved g c = record {
  later = search rules;
  makes = simp more (search rules);
  gives = record { owned = search rules; means = simp more_zeros (search rules) };
}
