use Rattle.std.proofs.Common.{◌≡◌, ◌++◌, ◌∷◌, [], neg_ℤ, cond, take, refl, sym, subst, ap, ◌∙◌}
use Rattle.std.specs.List.{list_any}
use Rattle.std.specs.Ordering.{int_eq}
use Rattle.std.proofs.lemmas.List.Elements.{All-contains}
use Rattle.indexmap.specs.IndexSet.{insert_key}
use Rattle.watched_literals.specs.Prelude.{IsWithin, AreReasoned, IsDenied}
use Rattle.watched_literals.proofs.Reasons.{reasoned-none}
use Rattle.watched_literals.proofs.Trails.{denied-start, denied-more, denied-true, listed, unlisted, inserted, item-inside, take-item}
use Rattle.watched_literals.proofs.propagator.deny.Goals as goal
use Rattle.watched_literals.proofs.propagator.deny.Goals.{then-not-holds+in_ok-push, else-not-holds}

pub loop-literal-init : goal.loop-literal-init
loop-literal-init c = record { room = refl; reasons = λ clauses h. h; denied = denied-start c.args.clause.now c.args.trail.now.literals }

pub returns-then-holds-clause-denies : goal.returns-then-holds-clause-denies
returns-then-holds-clause-denies c =
    denied-true c.args.clause.now (take c.loop-literal.literal-index c.args.clause.now) c.args.trail.now.literals c.loop-literal.trail.literals c.literal-item.result
    (item-inside c.args.clause.now c.loop-literal.literal-index c.literal-item.result c.loop-literal-test.true c.literal-item.is)
    (listed c.loop-literal.trail.literals c.literal-item.result (sym c.if-holds.ensures))
    c.loop-literal.invariant.denied

pub loop-literal-preserved : goal.loop-literal-preserved
loop-literal-preserved c =
    let z = c.literal-item.result in
    let clause = c.args.clause.now in
    let old = c.args.trail.now.literals in
    let before = c.loop-literal.trail.literals in
    let done = take c.loop-literal.literal-index clause in
    let more = take-item clause c.loop-literal.literal-index z c.loop-literal-test.true c.literal-item.is in
    let q = c.opposite-off.ensures in
    let inside = item-inside clause c.loop-literal.literal-index z c.loop-literal-test.true c.literal-item.is in
    let is = (All-contains (IsWithin c.args.trail.now.room) clause z c.requires inside).is_literal in
    let fresh = unlisted before z (sym c.if-holds.ensures) in
    elim c.if-not-holds.branch [
      | then-not-holds+in_ok-push w ↦
          let off = ap (λ x. list_any (int_eq x) before) (sym q) ∙ sym w.if-not-holds.ensures in
          let now : c.if-not-holds.trail.literals ≡ insert_key int_eq before (neg_ℤ z) =
          ap (λ t. t.literals) w.trail-is ∙ w.in_ok-push.ensures.literals ∙ ap (λ x. before ++ x ∷ []) q ∙ sym (inserted before (neg_ℤ z) (unlisted before (neg_ℤ z) off)) in
          record {
            room = ap (λ t. t.room) w.trail-is ∙ w.in_ok-push.ensures.room ∙ c.loop-literal.invariant.room;
            reasons = λ clauses h. subst (AreReasoned clauses) (sym w.trail-is)
                (reasoned-none clauses c.loop-literal.trail w.push.new.self c.opposite-off.result w.in_ok-push.ensures.literals w.in_ok-push.ensures.reasons
                (c.loop-literal.invariant.reasons clauses h));
            denied = subst (λ xs. IsDenied clause xs old c.if-not-holds.trail.literals) (sym more)
                (denied-more clause done old before c.if-not-holds.trail.literals z inside is fresh now c.loop-literal.invariant.denied);
          }
      | else-not-holds w ↦
          let on = ap (λ x. list_any (int_eq x) before) (sym q) ∙ sym w.if-not-holds.ensures in
          let now : c.if-not-holds.trail.literals ≡ insert_key int_eq before (neg_ℤ z) =
          ap (λ t. t.literals) w.trail-is ∙ sym (ap (λ b. cond b before (before ++ neg_ℤ z ∷ [])) on) in
          record {
            room = ap (λ t. t.room) w.trail-is ∙ c.loop-literal.invariant.room;
            reasons = λ clauses h. subst (AreReasoned clauses) (sym w.trail-is) (c.loop-literal.invariant.reasons clauses h);
            denied = subst (λ xs. IsDenied clause xs old c.if-not-holds.trail.literals) (sym more)
                (denied-more clause done old before c.if-not-holds.trail.literals z inside is fresh now c.loop-literal.invariant.denied);
          }
    ]
