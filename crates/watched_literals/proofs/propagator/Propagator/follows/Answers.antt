use Rattle.std.proofs.Common.{refl, ◌∙◌}
use Rattle.watched_literals.proofs.Trails.{follows-refuted}
use Rattle.watched_literals.proofs.Reasons.{reasoned-take}
use Rattle.watched_literals.proofs.Knowing.{open-at, open-ready, refuted-at, tried-verdict, tried-back}
use Rattle.watched_literals.proofs.propagator.Propagator.follows.Goals as goal

pub returns-then-self-clause-follows : goal.returns-then-self-clause-follows
returns-then-self-clause-follows c = λ known ready.
    follows-refuted known c.args.clause.now (refuted-at known c.args.self.now c.if-self.true ready)

pub attempt-requires-clause-stored : goal.attempt-requires-clause-stored
attempt-requires-clause-stored c = (open-at c.requires.ready.0 c.args.self.now c.if-self.false c.requires.ready.1).stored

pub attempt-requires-clause-idle : goal.attempt-requires-clause-idle
attempt-requires-clause-idle c = (open-at c.requires.ready.0 c.args.self.now c.if-self.false c.requires.ready.1).idle

pub attempt-requires-clause-complete : goal.attempt-requires-clause-complete
attempt-requires-clause-complete c = (open-at c.requires.ready.0 c.args.self.now c.if-self.false c.requires.ready.1).watched

pub returns-clause-follows : goal.returns-clause-follows
returns-clause-follows c = λ known ready.
    tried-verdict known c.args.clause.now c.args.self.now c.attempt.new.self c.in_ok-follows.follows c.in_ok-follows.ensures.tried
    (open-at known c.args.self.now c.if-self.false ready)

pub returns-clause-ready : goal.returns-clause-ready
returns-clause-ready c = λ known ready.
    let s = c.args.self.now in
    open-ready known _ (c.in_ok-follows.ensures.keeps.refuted ∙ c.if-self.false)
    (tried-back known c.args.clause.now s c.attempt.new.self _ c.in_ok-follows.follows c.len-root.result c.in_ok-follows.ensures.keeps c.in_ok-follows.ensures.tried
    c.len-root.ensures (record { clauses = refl; pairs = refl; rows = refl; pending = refl; room = c.truncate.ensures.room }) c.truncate.ensures.literals
    (open-at known s c.if-self.false ready))

pub returns-clause-reasons : goal.returns-clause-reasons
returns-clause-reasons c = λ h.
    reasoned-take c.attempt.new.self.clauses.items c.attempt.new.self.trail c.truncate.new.self c.len-root.result c.truncate.ensures.literals c.truncate.ensures.reasons
    (c.in_ok-follows.ensures.reasons h)
