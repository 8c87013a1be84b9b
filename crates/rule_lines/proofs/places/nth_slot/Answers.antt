use Rattle.std.proofs.Common.{◌≡◌, ◌+◌, length, drop, sym, ap, ◌∙◌, arith}
use Rattle.rule_lines.specs.Lines.{nth_slot}
use Rattle.rule_lines.proofs.Parameters.{at_slot, past_slot, past_home, past_all}
use Rattle.rule_lines.proofs.places.nth_slot.Goals as goal
use Rattle.rule_lines.proofs.places.nth_slot.Goals.{then-slots-k+else-left-eq0, else-slots-k}

pub returns-then-left-eq0-clause-place : goal.returns-then-left-eq0-clause-place
returns-then-left-eq0-clause-place c =
    let is = c.loop-k.invariant in
    let z = at_slot c.args.slots.now c.loop-k.k c.loop-k.left c.loop-k-test.true c.if-slots-k.true c.if-left-eq0.true in
    omega (arith, is, z)

pub loop-k-preserved : goal.loop-k-preserved
loop-k-preserved c =
    let slots = c.args.slots.now in
    let k = c.loop-k.k in
    elim c.if-slots-k.branch [
      | then-slots-k+else-left-eq0 w ↦ sym (past_slot slots k c.loop-k.left c.if-slots-k.left c.loop-k-test.true w.if-slots-k.true (omega (arith, w.left-is, w.if-left-eq0.false))) ∙ c.loop-k.invariant
      | else-slots-k w ↦ ap (λ n. k + 1 + nth_slot (drop (k + 1) slots) n) w.left-is ∙ sym (past_home slots k c.loop-k.left c.loop-k-test.true w.if-slots-k.false) ∙ c.loop-k.invariant
    ]

pub returns-clause-place : goal.returns-clause-place
returns-clause-place c =
    let slots = c.args.slots.now in
    let e : c.loop-k.k ≡ length slots = omega arith in
    let is = c.loop-k.invariant in
    let z = ap (λ x. nth_slot (drop x slots) c.loop-k.left) e ∙ past_all slots c.loop-k.left in
    omega (arith, e, is, z)
