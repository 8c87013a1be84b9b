use Rattle.std.proofs.Common.{ℕ, refl, arith}
use Rattle.std.proofs.lemmas.List.{get_or-replicate}
use Rattle.rule_places.proofs.inputs.widths.Goals as goal

pub loop-place-init : goal.loop-place-init
loop-place-init c = (refl, λ k lt. absurd (omega (arith, lt)), λ k lt. let e = get_or-replicate {A = ℕ} 64 k 0 0 lt in omega (arith, e))
