use Rattle.std.proofs.Common.{◌++◌, false, set, sym, subst, ap, ◌∙◌, option_to_list}
use Rattle.watched_literals.specs.Prelude.{IsTruth}
use Rattle.watched_literals.proofs.Truths.{truth-pop}
use Rattle.watched_literals.proofs.trail.Trail.pop.Goals as goal

pub invariant_of-self : goal.invariant_of-self
invariant_of-self c =
    subst (λ k. IsTruth (set c.self.inside.truth.items k false) c.pop.new.self.items) (sym c.code.ensures.code)
    (truth-pop c.self.inside.truth.items c.pop.new.self.items c.in-Some.literal
    (subst (IsTruth c.self.inside.truth.items) (c.pop.ensures.items ∙ ap (λ o. c.pop.new.self.items ++ option_to_list o) c.in-Some.is) c.self.invariant))
