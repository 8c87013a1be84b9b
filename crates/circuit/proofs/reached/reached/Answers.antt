use Rattle.std.proofs.Common.{◌≡◌, ◌∙◌, ap, subst, refl, length, arith}
use Rattle.circuit.proofs.Marking.{MarksStand, marks_start, marks_step, marks_end, reads_marks, written}
use Rattle.circuit.proofs.reached.reached.Goals as goal

pub loop-k-init : goal.loop-k-init
loop-k-init c = marks_start c.args.nodes.now c.args.clause.now _ c.in_ok-marks.marks.items refl c.in_ok-marks.ensures c.requires.named

pub mark_inputs-requires : goal.mark_inputs-requires
mark_inputs-requires c = reads_marks c.args.nodes.now c.args.clause.now c.loop-k.k c.loop-k.marks.items c.deref_mut.result.now c.requires.ordered c.loop-k-test.true (omega arith) c.loop-k.invariant c.deref_mut.ensures.value

pub loop-k-preserved-then-index : goal.loop-k-preserved-then-index
loop-k-preserved-then-index c =
    let w = written c.loop-k.marks.len c.mark_inputs.new.marks c.loop-k.marks.items (omega (arith, c.mark_inputs.auto.marks, ap length c.deref_mut.ensures.value)) (omega arith) in
    marks_step c.args.nodes.now c.args.clause.now c.loop-k.k c.loop-k.marks.items _ c.index.result.now c.requires.ordered c.loop-k-test.true (omega arith) c.loop-k.invariant
    c.index.ensures c.if-index.true (w ∙ c.mark_inputs.ensures ∙ rw c.deref_mut.ensures.value refl)

pub returns-clause-exact : goal.returns-clause-exact
returns-clause-exact c = let e : c.loop-k.k ≡ 0 = omega arith in
    marks_end c.args.nodes.now c.args.clause.now c.loop-k.marks.items (subst (λ k. MarksStand c.args.nodes.now c.args.clause.now k c.loop-k.marks.items) e c.loop-k.invariant)
