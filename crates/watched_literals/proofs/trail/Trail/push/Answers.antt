use Rattle.std.proofs.Common.{◌≡◌, ◌++◌, ◌∷◌, [], true, false, set, sym, subst}
use Rattle.std.specs.List.{list_any}
use Rattle.std.specs.Ordering.{int_eq}
use Rattle.watched_literals.specs.Prelude.{IsTruth, IsWithin}
use Rattle.watched_literals.proofs.Truths.{truth-push}
use Rattle.watched_literals.proofs.trail.Trail.push.Goals as goal

pub invariant_of-self-2 : goal.invariant_of-self-2
invariant_of-self-2 c =
    let t = c.self.inside.truth.items in
    subst (λ xs. IsTruth (set t c.code.result true) xs) (sym c.in_ok-push-2.ensures.items)
    (subst (λ k. IsTruth (set t k true) (c.self.inside.literals.items ++ c.args.literal ∷ [])) (sym c.code.ensures.code)
    (truth-push t c.self.inside.literals.items c.args.literal c.self.invariant
    (subst (λ v. IsWithin v.room c.args.literal) (sym c.self.view_is) c.requires.within)
    (subst (λ v. list_any (int_eq c.args.literal) v.literals ≡ false) (sym c.self.view_is) c.requires.fresh)))
