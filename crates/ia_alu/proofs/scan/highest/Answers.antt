use Rattle.std.proofs.Common.{◌≡◌, ℕ, ◌+◌, add-one, rules, refl}
use Rattle.word_kit.specs.Prelude.{Operations}
use Rattle.ia_alu.specs.Parts.{highest_term}
use Rattle.ia_alu.proofs.scan.highest.Goals as goal

more : {W B H : Type 0} (ops : Operations W B H) (n : ℕ) (h : H) (x : W) → highest_term ops (n + 1) h x ≡ ops.pick_of (highest_term ops n h x).held (ops.bit_of x n) (ops.lit_of n) (highest_term ops n h x).word
unfolding highest_term
more ops n h x = rw add-one refl

pub loop-place-init : goal.loop-place-init
unfolding highest_term
loop-place-init g c = search rules

pub loop-place-preserved : goal.loop-place-preserved
loop-place-preserved g c = record {
  later = search rules;
  makes = simp more (search rules);
  gives = record { owned = search rules; means = simp more (search rules) };
}
