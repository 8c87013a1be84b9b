use Rattle.std.proofs.Common.{◌≡◌, ◌++◌, ◌∷◌, [], inl, inr, false, true, neg_ℤ, refl, sym, subst, ap, ◌∙◌}
use Rattle.std.specs.List.{All, list_any}
use Rattle.std.specs.Ordering.{int_eq}
use Rattle.std.proofs.lemmas.Bool.{false≢true}
use Rattle.std.proofs.lemmas.List.Elements.{All-push}
use Rattle.watched_literals.proofs.Trails.{listed, unlisted}
use Rattle.watched_literals.specs.Prelude.{IsWithin, Spreads}
use Rattle.sat_core.specs.Prelude.{IsLiteralOf, known}
use Rattle.sat_core.proofs.Chosen.{leads-valued, leads-false, leads-open}
use Rattle.sat_core.proofs.Reaching.{within-neg, some-none}
use Rattle.sat_core.proofs.search.Search.assume.Goals as goal
use Rattle.sat_core.proofs.search.Search.assume.Goals.{then-holds-via-then-holds, then-holds-via-else-holds+then-holds-2}

pub returns-then-holds : goal.returns-then-holds
returns-then-holds c =
    let s = c.args.self.now in
    let z = c.args.literal in
    let q = c.opposite-negated.ensures in
    let keys = s.propagator.trail.literals in
    record {
      keeps = record { formula = refl; steps = refl; room = refl; above = λ root h. h };
      within = c.requires.within;
      complete = λ none. c.requires.complete;
      leads = leads-valued s.propagator.trail.room (known s) s.assumed.items keys z
          (elim c.then-holds.branch [
            | then-holds-via-then-holds w ↦ inl (listed keys z (sym w.if-holds.ensures))
            | then-holds-via-else-holds+then-holds-2 w ↦ inr (listed keys (neg_ℤ z) (subst (λ y. list_any (int_eq y) keys ≡ true) q (sym w.if-holds-2.ensures)))
          ]) c.requires.closed;
    }

pub returns-then-branch : goal.returns-then-branch
returns-then-branch c =
    let s = c.args.self.now in
    let z = c.args.literal in
    let q = c.opposite-negated.ensures in
    let keys = s.propagator.trail.literals in
    let fresh = unlisted keys z (sym c.if-holds.ensures) in
    let free = unlisted keys (neg_ℤ z) (subst (λ y. list_any (int_eq y) keys ≡ false) q (sym c.if-holds-2.ensures)) in
    let is : IsWithin s.propagator.trail.room z = c.if-not-is_within.ensures.0 refl in
    let items = c.in_ok-push.ensures.items ∙ ap (λ x. s.assumed.items ++ x ∷ []) q in
    record {
      keeps = record { formula = refl; steps = refl; room = c.in_ok-assume.ensures.room; above = λ root h. c.in_ok-assume.ensures.above (known s) root h };
      within = subst (All (IsWithin s.propagator.trail.room)) (sym items) (All-push (IsWithin s.propagator.trail.room) s.assumed.items (neg_ℤ z) c.requires.within (within-neg s.propagator.trail.room z is));
      complete = λ none. absurd (some-none _ none);
      leads = leads-false (known s) s.assumed.items keys z c.assume.new.self.trail.literals c.push.new.self.items _ (IsLiteralOf s.propagator.trail.room (z ∷ [])) is.is_literal fresh free c.requires.closed items q
          (subst (Spreads (known s) _ c.assume.new.self.trail.literals) c.if-branch.true (c.in_ok-assume.ensures.spreads (known s) c.requires.above.0 c.requires.above.1));
    }

pub returns : goal.returns
returns c =
    let s = c.args.self.now in
    let z = c.args.literal in
    let q = c.opposite-negated.ensures in
    let keys = s.propagator.trail.literals in
    let fresh = unlisted keys z (sym c.if-holds.ensures) in
    let free = unlisted keys (neg_ℤ z) (subst (λ y. list_any (int_eq y) keys ≡ false) q (sym c.if-holds-2.ensures)) in
    let is : IsWithin s.propagator.trail.room z = c.if-not-is_within.ensures.0 refl in
    let items = c.in_ok-push.ensures.items ∙ ap (λ x. s.assumed.items ++ x ∷ []) q in
    record {
      keeps = record { formula = refl; steps = refl; room = c.in_ok-assume.ensures.room; above = λ root h. c.in_ok-assume.ensures.above (known s) root h };
      within = subst (All (IsWithin s.propagator.trail.room)) (sym items) (All-push (IsWithin s.propagator.trail.room) s.assumed.items (neg_ℤ z) c.requires.within (within-neg s.propagator.trail.room z is));
      complete = λ none. c.in_ok-assume.ensures.complete (λ yes. false≢true (sym c.if-branch.false ∙ yes));
      leads = leads-open s.propagator.trail.room (known s) s.assumed.items keys z c.assume.new.self.trail.literals c.push.new.self.items is.is_literal fresh free c.requires.closed items
          (subst (Spreads (known s) _ c.assume.new.self.trail.literals) c.if-branch.false (c.in_ok-assume.ensures.spreads (known s) c.requires.above.0 c.requires.above.1));
    }
