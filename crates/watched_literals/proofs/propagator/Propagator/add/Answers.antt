use Rattle.std.proofs.Common.{◌++◌, ◌∷◌, [], refl, sym, subst, ◌∙◌}
use Rattle.std.proofs.lemmas.List.Elements.{All-contains}
use Rattle.watched_literals.specs.Prelude.{IsUnit, IsFalse, IsTrueIn, IsOpenAt, IsWithin, AreReasoned, IsOpen}
use Rattle.watched_literals.proofs.Trails.{tested}
use Rattle.watched_literals.proofs.Reasons.{reasoned-none, reasoned-longer}
use Rattle.watched_literals.proofs.Knowing.{open-at, open-ready, refuted-at, refuted-ready, added-true, added-open, added-ready, added-false, added-refuted, watched-front}
use Rattle.watched_literals.proofs.propagator.Propagator.add.Goals as goal

pub returns-then-self-clause-ready : goal.returns-then-self-clause-ready
returns-then-self-clause-ready c = λ known ready.
    refuted-ready (known ++ c.args.clause.now ∷ []) c.args.self.now c.if-self.true
    (added-refuted known c.args.clause.now (refuted-at known c.args.self.now c.if-self.true ready))

pub watch-requires-clause-stored : goal.watch-requires-clause-stored
watch-requires-clause-stored c = (open-at c.requires.ready.0 c.args.self.now c.if-self.false c.requires.ready.1).stored

pub push-requires-clause-fresh : goal.push-requires-clause-fresh
push-requires-clause-fresh c = tested c.args.self.now.trail.literals c.in-Unit.literal c.in-Unit.ensures.not_true

pub propagate-requires-clause-watched : goal.propagate-requires-clause-watched
propagate-requires-clause-watched c =
    let s = c.args.self.now in
    watched-front s.clauses.items s.pairs.items s.trail.literals c.push.new.self.literals c.len-visited.result c.len-visited.ensures
    (c.in-Unit.literal ∷ [], c.in_ok-push-in-Unit.ensures.literals)
    (open-at c.requires.ready.0 c.args.self.now c.if-self.false c.requires.ready.1).watched

pub returns-in-True-clause-ready : goal.returns-in-True-clause-ready
returns-in-True-clause-ready c = λ known ready.
    let s = c.args.self.now in
    open-ready (known ++ c.args.clause.now ∷ []) s c.if-self.false
    (added-true known c.args.clause.now s s.trail.literals (subst (IsTrueIn s.trail.literals) c.as_slice.ensures c.in-True.ensures) (open-at known s c.if-self.false ready))

pub returns-in_ok-watch-in-Open-clause-ready : goal.returns-in_ok-watch-in-Open-clause-ready
returns-in_ok-watch-in-Open-clause-ready c = λ known ready.
    let s = c.args.self.now in
    let new = c.watch.new.self in
    let o = added-open known c.args.clause.now s new _ s.trail.literals
    (subst (λ xs. IsOpenAt s.trail.literals xs c.in-Open.one c.in-Open.other) c.as_slice.ensures c.in-Open.ensures) c.in_ok-watch-in-Open.ensures.watches (open-at known s c.if-self.false ready) in
    open-ready (known ++ c.args.clause.now ∷ []) new (c.in_ok-watch-in-Open.ensures.refuted ∙ c.if-self.false)
    (subst (λ t. IsOpen (known ++ c.args.clause.now ∷ []) new t.literals) (sym c.in_ok-watch-in-Open.ensures.trail) o)

pub returns-in_ok-self-in-Unit-clause-ready : goal.returns-in_ok-self-in-Unit-clause-ready
returns-in_ok-self-in-Unit-clause-ready c = λ known ready.
    let s = c.args.self.now in
    let u = subst (λ xs. IsUnit s.trail.literals xs c.in-Unit.literal) c.as_slice.ensures c.in-Unit.ensures in
    let l = (All-contains (IsWithin s.trail.room) c.args.clause.now c.in-Unit.literal c.requires.literals u.inside).is_literal in
    added-ready known c.args.clause.now s _ c.propagate.new.self _ c.in-Unit.literal c.in_ok-self-in-Unit.field-0 u l
    (record { clauses = refl; pairs = refl; rows = refl; pending = refl; room = c.in_ok-push-in-Unit.ensures.room }) c.in_ok-push-in-Unit.ensures.literals
    c.in_ok-self-in-Unit.ensures.keeps c.in_ok-self-in-Unit.ensures.propagates
    (record { clauses = refl; pairs = refl; rows = refl; pending = refl; room = refl }) refl refl (open-at known s c.if-self.false ready)

pub returns-in-False-clause-ready : goal.returns-in-False-clause-ready
returns-in-False-clause-ready c = λ known ready.
    added-false known c.args.clause.now c.args.self.now c.args.self.now.trail.literals
    (subst (IsFalse c.args.self.now.trail.literals) c.as_slice.ensures c.in-False.ensures) (open-at known c.args.self.now c.if-self.false ready)

pub returns-in_ok-watch-in-Open-clause-reasons : goal.returns-in_ok-watch-in-Open-clause-reasons
returns-in_ok-watch-in-Open-clause-reasons c = λ h.
    subst (AreReasoned c.watch.new.self.clauses.items) (sym c.in_ok-watch-in-Open.ensures.trail)
    (subst (λ cs. AreReasoned cs c.args.self.now.trail) (sym c.in_ok-watch-in-Open.ensures.watches.clauses)
    (reasoned-longer c.args.self.now.clauses.items (c.args.clause.now ∷ []) c.args.self.now.trail h))

pub returns-in_ok-self-in-Unit-clause-reasons : goal.returns-in_ok-self-in-Unit-clause-reasons
returns-in_ok-self-in-Unit-clause-reasons c = λ h.
    c.in_ok-self-in-Unit.ensures.reasons (reasoned-none c.args.self.now.clauses.items c.args.self.now.trail c.push.new.self c.in-Unit.literal
    c.in_ok-push-in-Unit.ensures.literals c.in_ok-push-in-Unit.ensures.reasons h)
