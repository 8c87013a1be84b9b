use Rattle.std.proofs.Common.{IsTrue, ◌↔◌, ◌&&◌, sym, ◌∙◌, ap, subst, arith}
use Rattle.access_circuits.specs.Lists.{HaveSameShapes}
use Rattle.access_circuits.proofs.Shapes.{shapes_begin, shapes_step, shapes_end, same_shapes_are}
use Rattle.access_circuits.proofs.accesses.same_shapes.Goals as goal
use Rattle.access_circuits.proofs.accesses.same_shapes.Goals.{then-same, else-same}

pub returns-clause-made : goal.returns-clause-made
returns-clause-made c = shapes_end c.loop-i.i c.args.xs.now c.args.ys.now _ c.loop-i.invariant.count (omega arith) c.loop-i.invariant.same

pub loop-i-init : goal.loop-i-init
loop-i-init c = record { count = omega arith; same = shapes_begin c.args.xs.now c.args.ys.now }

pub loop-i-preserved : goal.loop-i-preserved
loop-i-preserved c = record {
  count = c.loop-i.invariant.count;
  same = shapes_step c.loop-i.i c.args.xs.now c.args.ys.now _ _ c.loop-i.same c.shaped_alike-alike.result _ (omega arith) (omega arith) c.loop-i.invariant.same c.shaped_alike-alike.ensures
      (elim c.if-same.branch [
        | then-same w ↦ w.same-is ∙ sym (ap (λ b. b && c.shaped_alike-alike.result) w.if-same.true)
        | else-same w ↦ w.same-is ∙ w.if-same.false ∙ sym (ap (λ b. b && c.shaped_alike-alike.result) w.if-same.false)
      ]);
}

pub returns-clause-shapes : goal.returns-clause-shapes
returns-clause-shapes c = subst (λ b. IsTrue b ↔ HaveSameShapes c.args.xs.now c.args.ys.now) (sym (shapes_end c.loop-i.i c.args.xs.now c.args.ys.now _ c.loop-i.invariant.count (omega arith) c.loop-i.invariant.same)) (same_shapes_are c.args.xs.now c.args.ys.now)
