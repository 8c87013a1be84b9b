use Rattle.std.proofs.Common.{◌≡◌, ◌∙◌, sym, ap, subst, true, ◌-◌, ◌*◌}
use Rattle.machines.specs.Prelude.{each_byte, rights_of, store_registers, Effect}
use Rattle.ppc_step.specs.Prelude.{told}
use Rattle.ppc_step.proofs.States.{store_goes, store_stops}
use Rattle.ppc_step.proofs.state.State.store_multiple.Goals as goal

pub returns-then-not-holds-clause-leads : goal.returns-then-not-holds-clause-leads
returns-then-not-holds-clause-leads c = λ p g is wide.
    let e = told c.effect-effect.result in
    let h = c.holds.ensures p g.bytes is.memory in
    rw (← c.effect-effect.ensures.effect p g is)
    (store_stops p c.args.self.now g e (store_registers (32 - c.args.s) c.args.s e.address g.locs g.bytes) g.locs
    (ap (λ n. each_byte (rights_of p).writable n e.address) (sym c.from.ensures) ∙ sym h ∙ c.if-not-holds.true))

pub returns-clause-leads : goal.returns-clause-leads
returns-clause-leads c = λ p g is wide.
    let e = told c.effect-effect.result in
    let h = c.holds.ensures p g.bytes is.memory in
    let inside : each_byte (rights_of p).writable e.width e.address ≡ true = ap (λ n. each_byte (rights_of p).writable n e.address) (sym c.from.ensures) ∙ sym h ∙ c.if-not-holds.false in
    let width : e.width ≡ 4 * (32 - c.args.s) = ap (λ (x : Effect). x.width) (c.effect-effect.ensures.effect p g is) ∙ wide in
    rw (← c.effect-effect.ensures.effect p g is)
    (store_goes p c.go_on.new.self g e c.go_on.result (store_registers (32 - c.args.s) c.args.s e.address g.locs g.bytes) g.locs c.go_on.ensures.event inside
    (c.go_on.ensures.state p _ (c.store_words.ensures p g is (subst (λ n. each_byte (rights_of p).writable n e.address ≡ true) width inside))))
