use Rattle.std.proofs.Common.{[], None, take, sym, ◌+◌}
use Rattle.sat_core.specs.Prelude.{IsLiteralOf}
use Rattle.sat_core.proofs.Reaching.{reaches-start, none-of, searching-on, reaches-next, reaches-going, reaches-stopped, reaches-all}
use Rattle.sat_core.proofs.search.Search.assume_all.Goals as goal

pub loop-literal-init : goal.loop-literal-init
loop-literal-init c = reaches-start (IsLiteralOf c.args.self.now.propagator.trail.room []) c.args.self.now (none-of c.args.self.now.propagator.trail.room) c.requires

pub assume-requires : goal.assume-requires
assume-requires c =
    searching-on (IsLiteralOf c.args.self.now.propagator.trail.room (take c.loop-literal.literal-index c.args.literals.now)) c.args.self.now c.loop-literal.self c.requires c.loop-literal.invariant

pub loop-literal-preserved : goal.loop-literal-preserved
loop-literal-preserved c =
    let n = c.loop-literal.literal-index in
    reaches-next c.args.literals.now c.args.self.now c.loop-literal.self c.assume.new.self n _ None c.loop-literal-test.true c.literal-item.is c.loop-literal.invariant
    (reaches-going _ c.loop-literal.self c.assume.new.self c.in_ok-last.last (sym c.if-is_some.ensures) c.in_ok-last.ensures)

pub returns-then-is_some : goal.returns-then-is_some
returns-then-is_some c =
    let n = c.loop-literal.literal-index in
    let room = c.args.self.now.propagator.trail.room in
    reaches-stopped (IsLiteralOf room (take (n + 1) c.args.literals.now)) (IsLiteralOf room c.args.literals.now) c.args.self.now c.assume.new.self c.in_ok-last.last
    (sym c.if-is_some.ensures)
    (reaches-next c.args.literals.now c.args.self.now c.loop-literal.self c.assume.new.self n _ c.in_ok-last.last c.loop-literal-test.true c.literal-item.is
    c.loop-literal.invariant c.in_ok-last.ensures)

pub returns : goal.returns
returns c =
    reaches-all c.args.literals.now c.args.self.now c.loop-literal.self c.loop-literal.literal-index c.loop-literal-test.false c.loop-literal.invariant
