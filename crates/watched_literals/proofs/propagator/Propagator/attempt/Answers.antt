use Rattle.std.proofs.Common.{refl, subst}
use Rattle.watched_literals.specs.Prelude.{Denies}
use Rattle.watched_literals.proofs.Knowing.{watched-front, tried-denied, tried-end}
use Rattle.watched_literals.proofs.propagator.Propagator.attempt.Goals as goal

pub propagate-requires-clause-watched : goal.propagate-requires-clause-watched
propagate-requires-clause-watched c =
    let s = c.args.self.now in
    let d = subst (Denies c.args.clause.now s.trail.literals c.deny.new.trail.literals) c.if-branch.false c.in_ok-deny.ensures.denies in
    watched-front s.clauses.items s.pairs.items s.trail.literals c.deny.new.trail.literals c.len-visited.result c.len-visited.ensures d.extends c.requires.complete

pub returns-then-branch-clause-tried : goal.returns-then-branch-clause-tried
returns-then-branch-clause-tried c =
    let s = c.args.self.now in
    tried-denied c.args.clause.now s _ c.requires.stored c.requires.idle
    (record { clauses = refl; pairs = refl; rows = refl; pending = refl; room = c.in_ok-deny.ensures.room })
    (subst (Denies c.args.clause.now s.trail.literals c.deny.new.trail.literals) c.if-branch.true c.in_ok-deny.ensures.denies)

pub returns-clause-tried : goal.returns-clause-tried
returns-clause-tried c =
    let s = c.args.self.now in
    tried-end c.args.clause.now s _ c.propagate.new.self c.in_ok-fails.fails
    (record { clauses = refl; pairs = refl; rows = refl; pending = refl; room = c.in_ok-deny.ensures.room })
    (subst (Denies c.args.clause.now s.trail.literals c.deny.new.trail.literals) c.if-branch.false c.in_ok-deny.ensures.denies)
    c.in_ok-fails.ensures.keeps c.in_ok-fails.ensures.propagates

pub returns-then-branch-clause-reasons : goal.returns-then-branch-clause-reasons
returns-then-branch-clause-reasons c = c.in_ok-deny.ensures.reasons c.args.self.now.clauses.items

pub returns-clause-reasons : goal.returns-clause-reasons
returns-clause-reasons c = λ h. c.in_ok-fails.ensures.reasons (c.in_ok-deny.ensures.reasons c.args.self.now.clauses.items h)
