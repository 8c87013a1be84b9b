use Rattle.std.proofs.Common.{◌≡◌, ◌*◌, ◌/◌}
use Rattle.word_kit.specs.Prelude.{bit_of, of_bits}
use Rattle.ppc_flow.proofs.masks.fields_mask.Given as goal

-- the fields so far
abbrev pub invariant-loop-place : goal.invariant-loop-place
invariant-loop-place l = l.mask ≡ of_bits (λ k. bit_of l.chosen (k / 4)) (4 * l.place)
