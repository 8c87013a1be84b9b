use Rattle.std.proofs.Common.{inr, sym, subst}
use Rattle.sat_core.specs.Prelude.{IsVariable, Reaches}
use Rattle.sat_core.proofs.Reaching.{reaches-on, reaches-going, searching-on}
use Rattle.sat_core.proofs.search.Search.decide.Goals as goal

pub assume_variables-requires : goal.assume_variables-requires
assume_variables-requires c =
    searching-on _ c.args.self.now c.assume_all.new.self c.requires
    (reaches-going _ c.args.self.now c.assume_all.new.self c.in_ok-last.last (sym c.if-is_some.ensures) c.in_ok-last.ensures)

pub returns : goal.returns
returns c =
    let a = c.args.self.now in
    let b = c.assume_all.new.self in
    let h = reaches-going _ a b c.in_ok-last.last (sym c.if-is_some.ensures) c.in_ok-last.ensures in
    reaches-on _ (IsVariable a.formula.now.variables) (IsVariable a.formula.now.variables) a b c.assume_variables.new.self c.in_ok-last-2.last (λ x m. inr m) h
    (subst (λ f. Reaches (IsVariable f.variables) b c.assume_variables.new.self c.in_ok-last-2.last) h.keeps.formula c.in_ok-last-2.ensures)
