use Rattle.std.proofs.Common.{◌∙◌}
use Rattle.base_alu.proofs.FieldLoops.{chosen_field, no_field}
use Rattle.base_alu.proofs.conditions.move_to_cr.Goals as goal

pub loop-f-preserved : goal.loop-f-preserved
loop-f-preserved c = chosen_field c.loop-f.f c.args.s c.args.mask c.loop-f.made.items c.extend_from_slice.new.self.items c.as_slice.result.now _ c.loop-f-test.true (c.as_slice.ensures.value ∙ c.in_ok-field.ensures) c.in_ok-extend_from_slice.ensures.items c.loop-f.invariant

pub returns : goal.returns
returns c = no_field c.loop-f.f c.args.s c.args.mask c.loop-f.made.items _ c.loop-f-test.false c.loop-f.invariant
