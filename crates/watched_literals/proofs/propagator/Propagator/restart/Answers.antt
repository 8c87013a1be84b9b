use Rattle.std.proofs.Common.{refl}
use Rattle.watched_literals.proofs.Reasons.{reasoned-take}
use Rattle.watched_literals.proofs.Knowing.{open-alike, open-ready, above-back, above-cut}
use Rattle.watched_literals.proofs.propagator.Propagator.restart.Goals as goal

pub returns-clause-reasons : goal.returns-clause-reasons
returns-clause-reasons c = λ h.
    reasoned-take c.args.self.now.clauses.items c.args.self.now.trail c.truncate.new.self c.args.count c.truncate.ensures.literals c.truncate.ensures.reasons h

pub returns-clause-ready : goal.returns-clause-ready
returns-clause-ready c = λ known root at h.
    open-ready known _ h.open_root (above-back known root c.args.self.now _ c.args.count at
    (record { clauses = refl; pairs = refl; rows = refl; pending = refl; room = c.truncate.ensures.room }) c.truncate.ensures.literals h)

pub returns-clause-above : goal.returns-clause-above
returns-clause-above c = λ known root within h.
    record {
      open_root = h.open_root;
      base = open-alike known c.args.self.now _ root
          (record { clauses = refl; pairs = refl; rows = refl; pending = refl; room = c.truncate.ensures.room }) h.base;
      above = above-cut root c.args.self.now.trail.literals c.truncate.new.self.literals c.args.count within h.above c.truncate.ensures.literals;
    }
