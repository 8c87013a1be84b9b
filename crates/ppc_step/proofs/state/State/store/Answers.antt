use Rattle.std.proofs.Common.{◌≤◌, ◌∙◌, sym, subst}
use Rattle.std.proofs.lemmas.Bool.{OnTrue_at}
use Rattle.machines.specs.Prelude.{Effect, store_big}
use Rattle.ppc_step.specs.Prelude.{told}
use Rattle.ppc_step.proofs.Rows.{store_width, no_load}
use Rattle.ppc_step.proofs.States.{with_memory, store_goes, store_stops}
use Rattle.ppc_step.proofs.state.State.store.Goals as goal

pub effect-effect-requires-clause-other : goal.effect-effect-requires-clause-other
effect-effect-requires-clause-other c = no_load c.args.instr.now c.requires.store

pub store_big-requires : goal.store_big-requires
store_big-requires c =
    let r = c.effect-effect.ensures.row in
    subst (λ (e : Effect). e.width ≤ 4) (sym r.1) (store_width c.args.instr.now r.0 c.requires.store)

pub returns-then-not-store_big-clause-leads : goal.returns-then-not-store_big-clause-leads
returns-then-not-store_big-clause-leads c = λ p g is.
    let e = told c.effect-effect.result in
    rw (← c.effect-effect.ensures.effect p g is)
    (store_stops p c.args.self.now g e (store_big e.width e.address e.stored g.bytes) g.locs (sym (c.store_big.ensures.answer p g.bytes is.memory) ∙ c.if-not-store_big.true))

pub returns-clause-leads : goal.returns-clause-leads
returns-clause-leads c = λ p g is.
    let e = told c.effect-effect.result in
    rw (← c.effect-effect.ensures.effect p g is)
    (store_goes p c.go_on.new.self g e c.go_on.result (store_big e.width e.address e.stored g.bytes) g.locs c.go_on.ensures.event
    (sym (c.store_big.ensures.answer p g.bytes is.memory) ∙ c.if-not-store_big.false)
    (c.go_on.ensures.state p _ (with_memory p c.args.self.now g _ _ is (OnTrue_at c.if-not-store_big.false c.store_big.ensures.stored p g.bytes is.memory))))
