use Rattle.std.proofs.Common.{◌∙◌, sym, take, arith}
use Rattle.rule_body.specs.Prelude.{guests_of}
use Rattle.rule_body.proofs.Guests.{length-guests}
use Rattle.rule_form.proofs.Growing.{other-count, length-take}
use Rattle.rule_form.proofs.window.with_slots.Goals as goal

pub returns-then-goal-eq0 : goal.returns-then-goal-eq0
returns-then-goal-eq0 c = λ p.
    let n = length-guests c.args.goal.words c.args.goal.free c.args.goal.count (omega arith) (omega arith) in
    let some = p.some in
    omega (arith, n, some, c.if-goal-eq0.true)

pub returns-then-slots-goal : goal.returns-then-slots-goal
returns-then-slots-goal c = λ p.
    let n = length-take c.args.slots.count c.args.slots.slots (omega (arith, c.requires.slots.count)) in
    other-count (guests_of c.args.goal) c.requires.goal.window p.window (take c.args.slots.count c.args.slots.slots) c.args.goal.parameters c.requires.goal.is.words p.is.words c.requires.goal.parameters p.parameters
    (λ e. c.if-slots-goal.true (sym n ∙ e))
