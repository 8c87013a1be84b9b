use Rattle.std.proofs.Common.{arith}
use Rattle.base_alu.proofs.FieldLoops.{first_field, one_field, last_field}
use Rattle.base_alu.proofs.conditions.move_from_cr.Goals as goal

pub loop-f-init : goal.loop-f-init
loop-f-init c = first_field c.args.d c.in_ok-made.made.items c.in_ok-made.ensures.items

pub loop-f-preserved : goal.loop-f-preserved
loop-f-preserved c = one_field c.loop-f.f c.args.d c.loop-f.made.items c.extend_from_slice.new.self.items c.next_field.result _ c.loop-f-test.true c.next_field.ensures c.in_ok-extend_from_slice.ensures.items c.loop-f.invariant

pub returns : goal.returns
returns c = last_field c.loop-f.f c.args.d c.loop-f.made.items c.push.new.self.items _ (omega (arith, c.loop-f-test.false)) c.in_ok-push.ensures.items c.loop-f.invariant
