use Rattle.std.proofs.Common.{refl, subst}
use Rattle.sat_core.specs.Prelude.{IsVariable, AreRead, Reaches}
use Rattle.sat_core.proofs.Models.{model-of}
use Rattle.sat_core.proofs.Reaching.{rooted-searching, conflict-of}
use Rattle.sat_core.proofs.search.Search.turn.Goals as goal

pub decide-requires : goal.decide-requires
decide-requires c =
    let r = c.requires.rooted in
    rooted-searching _ (record { ready = r.ready; bare = r.bare; room = r.room; formula = r.formula; literals = r.literals }) c.requires.open_root

pub lesson-requires : goal.lesson-requires
lesson-requires c =
    let r = c.requires.rooted in
    conflict-of c.len-root.result _ _ c.decide.new.self c.in-Some.last c.len-root.ensures
    (record { ready = r.ready; bare = r.bare; room = r.room; formula = r.formula; literals = r.literals }) c.requires.open_root
    (subst (Reaches _ _ c.decide.new.self) c.in-Some.is c.in_ok-last.ensures)

pub returns-in_ok-values-in-None : goal.returns-in_ok-values-in-None
returns-in_ok-values-in-None c =
    let a = c.args.self.now in
    let b = c.decide.new.self in
    let h = subst (Reaches (IsVariable a.formula.now.variables) _ b) c.in-None.is c.in_ok-last.ensures in
    model-of a.formula.now a.formula.now.clauses a.steps.items b.assumed.items b.propagator.trail.literals c.in_ok-values-in-None.field-0.items c.requires.rooted.formula
    refl h.leads.0 h.leads.2
    (subst (λ f. AreRead b.propagator.trail.literals f.variables c.in_ok-values-in-None.field-0.items) h.keeps.formula c.in_ok-values-in-None.ensures)
