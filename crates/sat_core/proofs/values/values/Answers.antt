use Rattle.std.proofs.Common.{◌+◌, sym, subst}
use Rattle.sat_core.specs.Prelude.{AreRead}
use Rattle.sat_core.proofs.Models.{read-more}
use Rattle.sat_core.proofs.values.values.Goals as goal

pub loop-index-preserved : goal.loop-index-preserved
loop-index-preserved c =
    subst (AreRead c.args.propagator.now.trail.literals (c.loop-index.index + 1)) (sym c.in_ok-push.ensures.items)
    (read-more c.args.propagator.now.trail.literals c.loop-index.index c.loop-index.items.items c.is_true.result c.is_true.ensures c.loop-index.invariant)
