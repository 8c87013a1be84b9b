use Rattle.std.proofs.Common.{◌≡◌, ◌∙◌, sym, ap, subst, true, ◌-◌, ◌*◌}
use Rattle.machines.specs.Prelude.{each_byte, rights_of, put_loaded, Effect}
use Rattle.ppc_step.specs.Prelude.{told}
use Rattle.ppc_step.proofs.States.{load_goes, load_stops}
use Rattle.ppc_step.proofs.state.State.load_multiple.Goals as goal

pub returns-then-not-holds-clause-leads : goal.returns-then-not-holds-clause-leads
returns-then-not-holds-clause-leads c = λ p g is wide.
    let e = told c.effect-effect.result in
    let h = c.holds.ensures p g.bytes is.memory in
    rw (← c.effect-effect.ensures.effect p g is)
    (load_stops p c.args.self.now g e (put_loaded c.args.d e.address g.bytes g.locs) (ap (λ n. each_byte (rights_of p).held n e.address) (sym c.from.ensures) ∙ sym h ∙ c.if-not-holds.true))

pub returns-clause-leads : goal.returns-clause-leads
returns-clause-leads c = λ p g is wide.
    let e = told c.effect-effect.result in
    let h = c.holds.ensures p g.bytes is.memory in
    let inside : each_byte (rights_of p).held e.width e.address ≡ true = ap (λ n. each_byte (rights_of p).held n e.address) (sym c.from.ensures) ∙ sym h ∙ c.if-not-holds.false in
    let width : e.width ≡ 4 * (32 - c.args.d) = ap (λ (x : Effect). x.width) (c.effect-effect.ensures.effect p g is) ∙ wide in
    rw (← c.effect-effect.ensures.effect p g is)
    (load_goes p c.go_on.new.self g e c.go_on.result (put_loaded c.args.d e.address g.bytes g.locs) c.go_on.ensures.event inside
    (c.go_on.ensures.state p _ (c.load_words.ensures p g is (subst (λ n. each_byte (rights_of p).held n e.address ≡ true) width inside))))
