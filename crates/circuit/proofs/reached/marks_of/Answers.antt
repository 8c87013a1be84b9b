use Rattle.std.proofs.Common.{◌≡◌, ◌∙◌, ap, sym, false, replicate, get_or, length, arith, rules, to_z, of_z, w32, pos}
use Rattle.std.proofs.lemmas.Int.{to_z-of_z}
use Rattle.circuit.proofs.Marking.{marked_more, written}
use Rattle.circuit.proofs.reached.marks_of.Goals as goal

pub loop-literal-preserved : goal.loop-literal-preserved
loop-literal-preserved c =
    let i = c.loop-literal.literal-index in
    let z : to_z w32 (of_z w32 (get_or c.args.clause.now i (pos 0))) ≡ get_or c.args.clause.now i (pos 0) = to_z-of_z w32 (get_or c.args.clause.now i (pos 0)) (search rules) in
    let w = written c.loop-literal.marks.len c.mark.new.marks c.loop-literal.marks.items (omega (arith, c.mark.auto.marks, ap length c.deref_mut.ensures.value)) (omega arith) in
    let m = marked_more c.args.clause.now i (pos 0) (replicate c.args.count false) c.loop-literal-test.true in
    let e = c.mark.ensures in
    let v = c.deref_mut.ensures.value in
    let n = c.loop-literal.invariant in
    w ∙ e ∙ rw (z, v, n) (sym m)
