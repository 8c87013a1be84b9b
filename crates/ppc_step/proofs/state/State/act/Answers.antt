use Rattle.std.proofs.Common.{◌≡◌, ◌-◌, ◌*◌, refl, sym, ◌∙◌, ap, subst}
use Rattle.machines.specs.Prelude.{Instr, Multiple, Lmw, Stmw, effect_of, at_next, results}
use Rattle.ppc_step.specs.Prelude.{Form, IsState}
use Rattle.ppc_step.proofs.States.{acted, went}
use Rattle.ppc_step.proofs.state.State.act.Goals as goal

pub returns-in-Immediate-clause-leads : goal.returns-in-Immediate-clause-leads
returns-in-Immediate-clause-leads c = λ p g is.
    acted p g c.args.instr.now _ (effect_of c.args.instr.now g) _ _ c.in-Immediate.is (went p _ _ _ c.give_d.ensures.event
    (subst (λ (f : Form). IsState p c.give_d.new.self (at_next (results f.carries f.records c.in-Immediate.d (effect_of c.args.instr.now g).d (effect_of c.args.instr.now g) g.locs) g)) c.immediate_form.ensures
    (c.give_d.ensures.state p g is)))

pub returns-in-LogicImmediate-clause-leads : goal.returns-in-LogicImmediate-clause-leads
returns-in-LogicImmediate-clause-leads c = λ p g is.
    acted p g c.args.instr.now _ (effect_of c.args.instr.now g) _ _ c.in-LogicImmediate.is (went p _ _ _ c.give_a.ensures.event
    (subst (λ (f : Form). IsState p c.give_a.new.self (at_next (results f.carries f.records c.in-LogicImmediate.a (effect_of c.args.instr.now g).a (effect_of c.args.instr.now g) g.locs) g)) c.logic_immediate_form.ensures
    (c.give_a.ensures.state p g is)))

pub returns-in-Arithmetic-clause-leads : goal.returns-in-Arithmetic-clause-leads
returns-in-Arithmetic-clause-leads c = λ p g is.
    acted p g c.args.instr.now _ (effect_of c.args.instr.now g) _ _ c.in-Arithmetic.is (went p _ _ _ c.give_d-in-Arithmetic.ensures.event
    (subst (λ (f : Form). IsState p c.give_d-in-Arithmetic.new.self (at_next (results f.carries f.records c.in-Arithmetic.d (effect_of c.args.instr.now g).d (effect_of c.args.instr.now g) g.locs) g)) c.arithmetic_form.ensures
    (c.give_d-in-Arithmetic.ensures.state p g is)))

pub returns-in-ArithmeticUnary-clause-leads : goal.returns-in-ArithmeticUnary-clause-leads
returns-in-ArithmeticUnary-clause-leads c = λ p g is.
    acted p g c.args.instr.now _ (effect_of c.args.instr.now g) _ _ c.in-ArithmeticUnary.is (went p _ _ _ c.give_d-in-ArithmeticUnary.ensures.event
    (subst (λ (f : Form). IsState p c.give_d-in-ArithmeticUnary.new.self (at_next (results f.carries f.records c.in-ArithmeticUnary.d (effect_of c.args.instr.now g).d (effect_of c.args.instr.now g) g.locs) g)) c.arithmetic_unary_form.ensures
    (c.give_d-in-ArithmeticUnary.ensures.state p g is)))

pub returns-in-Logic-clause-leads : goal.returns-in-Logic-clause-leads
returns-in-Logic-clause-leads c = λ p g is.
    acted p g c.args.instr.now _ (effect_of c.args.instr.now g) _ _ c.in-Logic.is (went p _ _ _ c.give_a-in-Logic.ensures.event
    (subst (λ (f : Form). IsState p c.give_a-in-Logic.new.self (at_next (results f.carries f.records c.in-Logic.a (effect_of c.args.instr.now g).a (effect_of c.args.instr.now g) g.locs) g)) c.logic_form.ensures
    (c.give_a-in-Logic.ensures.state p g is)))

pub returns-in-Rotate-clause-leads : goal.returns-in-Rotate-clause-leads
returns-in-Rotate-clause-leads c = λ p g is.
    acted p g c.args.instr.now _ (effect_of c.args.instr.now g) _ _ c.in-Rotate.is (went p _ _ _ c.give_a-in-Rotate.ensures.event (c.give_a-in-Rotate.ensures.state p g is))

pub returns-in-ShiftImmediate-clause-leads : goal.returns-in-ShiftImmediate-clause-leads
returns-in-ShiftImmediate-clause-leads c = λ p g is.
    acted p g c.args.instr.now _ (effect_of c.args.instr.now g) _ _ c.in-ShiftImmediate.is (went p _ _ _ c.give_a-in-ShiftImmediate.ensures.event (c.give_a-in-ShiftImmediate.ensures.state p g is))

pub returns-in-LogicUnary-clause-leads : goal.returns-in-LogicUnary-clause-leads
returns-in-LogicUnary-clause-leads c = λ p g is.
    acted p g c.args.instr.now _ (effect_of c.args.instr.now g) _ _ c.in-LogicUnary.is (went p _ _ _ c.give_a-in-LogicUnary.ensures.event (c.give_a-in-LogicUnary.ensures.state p g is))

pub returns-in-Compare-clause-leads : goal.returns-in-Compare-clause-leads
returns-in-Compare-clause-leads c = λ p g is.
    acted p g c.args.instr.now _ (effect_of c.args.instr.now g) _ _ c.in-Compare.is (went p _ _ _ c.give_cr-in-Compare.ensures.event (c.give_cr-in-Compare.ensures.state p g is))

pub returns-in-MoveToSpr-clause-leads : goal.returns-in-MoveToSpr-clause-leads
returns-in-MoveToSpr-clause-leads c = λ p g is.
    acted p g c.args.instr.now _ (effect_of c.args.instr.now g) _ _ c.in-MoveToSpr.is (went p _ _ _ c.give_special.ensures.event (c.give_special.ensures.state p g is))

pub returns-in-Load-clause-leads : goal.returns-in-Load-clause-leads
returns-in-Load-clause-leads c = λ p g is.
    acted p g c.args.instr.now _ (effect_of c.args.instr.now g) _ _ c.in-Load.is (c.load.ensures.leads p g is)

pub returns-in-Store-clause-leads : goal.returns-in-Store-clause-leads
returns-in-Store-clause-leads c = λ p g is.
    acted p g c.args.instr.now _ (effect_of c.args.instr.now g) _ _ c.in-Store.is (c.store.ensures.leads p g is)

pub returns-in-LoadUpdate-clause-leads : goal.returns-in-LoadUpdate-clause-leads
returns-in-LoadUpdate-clause-leads c = λ p g is.
    acted p g c.args.instr.now _ (effect_of c.args.instr.now g) _ _ c.in-LoadUpdate.is (c.load_update.ensures.leads p g is)

pub returns-in-StoreUpdate-clause-leads : goal.returns-in-StoreUpdate-clause-leads
returns-in-StoreUpdate-clause-leads c = λ p g is.
    acted p g c.args.instr.now _ (effect_of c.args.instr.now g) _ _ c.in-StoreUpdate.is (c.store_update.ensures.leads p g is)

pub returns-in-Trap-clause-leads : goal.returns-in-Trap-clause-leads
returns-in-Trap-clause-leads c = λ p g is.
    acted p g c.args.instr.now _ (effect_of c.args.instr.now g) _ _ c.in-Trap.is (c.trap-in-Trap.ensures.leads p g is)

pub returns-in-LoadIndexed-clause-leads : goal.returns-in-LoadIndexed-clause-leads
returns-in-LoadIndexed-clause-leads c = λ p g is.
    acted p g c.args.instr.now _ (effect_of c.args.instr.now g) _ _ c.in-LoadIndexed.is (c.load-in-LoadIndexed.ensures.leads p g is)

pub returns-in-StoreIndexed-clause-leads : goal.returns-in-StoreIndexed-clause-leads
returns-in-StoreIndexed-clause-leads c = λ p g is.
    acted p g c.args.instr.now _ (effect_of c.args.instr.now g) _ _ c.in-StoreIndexed.is (c.store-in-StoreIndexed.ensures.leads p g is)

pub returns-in-LoadIndexedUpdate-clause-leads : goal.returns-in-LoadIndexedUpdate-clause-leads
returns-in-LoadIndexedUpdate-clause-leads c = λ p g is.
    acted p g c.args.instr.now _ (effect_of c.args.instr.now g) _ _ c.in-LoadIndexedUpdate.is (c.load_update-in-LoadIndexedUpdate.ensures.leads p g is)

pub returns-in-StoreIndexedUpdate-clause-leads : goal.returns-in-StoreIndexedUpdate-clause-leads
returns-in-StoreIndexedUpdate-clause-leads c = λ p g is.
    acted p g c.args.instr.now _ (effect_of c.args.instr.now g) _ _ c.in-StoreIndexedUpdate.is (c.store_update-in-StoreIndexedUpdate.ensures.leads p g is)

pub returns-in-Lmw-clause-leads : goal.returns-in-Lmw-clause-leads
returns-in-Lmw-clause-leads c = λ p g is.
    let i = c.in-Multiple in
    let same : c.args.instr.now ≡ Multiple Lmw i.d i.a i.imm = i.is ∙ ap (λ o. Multiple o i.d i.a i.imm) c.in-Lmw.is in
    acted p g c.args.instr.now (Multiple Lmw i.d i.a i.imm) (effect_of c.args.instr.now g) _ _ same
    (c.load_multiple.ensures.leads p g is (subst (λ (j : Instr). (effect_of j g).width ≡ 4 * (32 - i.d)) (sym same) refl))

pub returns-in-Stmw-clause-leads : goal.returns-in-Stmw-clause-leads
returns-in-Stmw-clause-leads c = λ p g is.
    let i = c.in-Multiple in
    let same : c.args.instr.now ≡ Multiple Stmw i.d i.a i.imm = i.is ∙ ap (λ o. Multiple o i.d i.a i.imm) c.in-Stmw.is in
    acted p g c.args.instr.now (Multiple Stmw i.d i.a i.imm) (effect_of c.args.instr.now g) _ _ same
    (c.store_multiple.ensures.leads p g is (subst (λ (j : Instr). (effect_of j g).width ≡ 4 * (32 - i.d)) (sym same) refl))
