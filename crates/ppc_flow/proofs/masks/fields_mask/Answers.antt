use Rattle.std.proofs.Common.{◌≡◌, ◌*◌, ◌/◌, arith, ◌∙◌, ap}
use Rattle.std.proofs.lemmas.Bool.Decides.{nat_tests}
use Rattle.word_kit.specs.Prelude.{bit_of, of_bits}
use Rattle.ppc_isa.specs.FieldRows.{fields_mask}
use Rattle.ppc_flow.proofs.FieldMasks.{init, sum_fits, step_on, step_off}
use Rattle.ppc_flow.proofs.masks.fields_mask.Goals as goal
use Rattle.ppc_flow.proofs.masks.fields_mask.Goals.{then-chosen-place-eq1, else-chosen-place-eq1}

pub loop-place-init : goal.loop-place-init
loop-place-init c = init (λ k. bit_of c.args.chosen (k / 4))

pub overflow_add-mask : goal.overflow_add-mask
overflow_add-mask c = record { fits = sum_fits (λ k. bit_of c.args.chosen (k / 4)) c.loop-place.mask c.loop-place.place c.loop-place.invariant c.loop-place-test.true }

pub loop-place-preserved : goal.loop-place-preserved
loop-place-preserved c = elim c.if-chosen-place-eq1.branch [
  | then-chosen-place-eq1 w ↦ let t = w.if-chosen-place-eq1.true in step_on c.args.chosen c.loop-place.mask _ c.loop-place.place c.loop-place.invariant c.loop-place-test.true (grind (arith, nat_tests)) w.mask-is
  | else-chosen-place-eq1 w ↦ let f = w.if-chosen-place-eq1.false in step_off c.args.chosen c.loop-place.mask _ c.loop-place.place c.loop-place.invariant (grind (arith, nat_tests)) w.mask-is
]

pub returns : goal.returns
unfolding fields_mask
returns c = let e : c.loop-place.place ≡ 8 = omega (arith, c.loop-place-test.false, c.loop-place.auto.place-end) in
    c.loop-place.invariant ∙ ap (λ n. of_bits (λ k. bit_of c.args.chosen (k / 4)) (4 * n)) e
