use Rattle.std.proofs.Common.{◌+◌, None, pos, min, sym, subst, arith}
use Rattle.watched_literals.specs.Prelude.{IsWithin}
use Rattle.watched_literals.proofs.Numbers.{within-of}
use Rattle.sat_core.specs.Prelude.{IsVariable}
use Rattle.sat_core.proofs.Reaching.{reaches-start, no-variable, searching-on, reaches-variable, reaches-going, reaches-stopped, reaches-variables}
use Rattle.sat_core.proofs.search.Search.assume_variables.Goals as goal

pub loop-index-init : goal.loop-index-init
loop-index-init c = reaches-start (IsVariable 0) c.args.self.now no-variable c.requires

pub assume-requires : goal.assume-requires
assume-requires c = searching-on (IsVariable c.loop-index.index) c.args.self.now c.loop-index.self c.requires c.loop-index.invariant

pub loop-index-preserved : goal.loop-index-preserved
loop-index-preserved c =
    let n = c.loop-index.index in
    let is = c.of_variable-literal.ensures in
    let within : IsWithin c.args.self.now.propagator.trail.room (pos (n + 1)) =
    within-of (pos (n + 1)) (min c.args.self.now.formula.now.variables 2147483647) c.args.self.now.propagator.trail.room c.requires.room
    (record { nonzero = omega arith; within = omega (arith, c.loop-index-test.true, c.min-index-end.ensures) }) (omega (arith, c.loop-index-test.true, c.min-index-end.ensures)) in
    reaches-variable c.args.self.now c.loop-index.self c.assume.new.self n _ None is (subst (IsWithin c.args.self.now.propagator.trail.room) (sym is) within) c.loop-index.invariant
    (reaches-going _ c.loop-index.self c.assume.new.self c.in_ok-last.last (sym c.if-is_some.ensures) c.in_ok-last.ensures)

pub returns-then-is_some : goal.returns-then-is_some
returns-then-is_some c =
    let n = c.loop-index.index in
    let is = c.of_variable-literal.ensures in
    let within : IsWithin c.args.self.now.propagator.trail.room (pos (n + 1)) =
    within-of (pos (n + 1)) (min c.args.self.now.formula.now.variables 2147483647) c.args.self.now.propagator.trail.room c.requires.room
    (record { nonzero = omega arith; within = omega (arith, c.loop-index-test.true, c.min-index-end.ensures) }) (omega (arith, c.loop-index-test.true, c.min-index-end.ensures)) in
    reaches-stopped (IsVariable (n + 1)) (IsVariable c.args.self.now.formula.now.variables) c.args.self.now c.assume.new.self c.in_ok-last.last (sym c.if-is_some.ensures)
    (reaches-variable c.args.self.now c.loop-index.self c.assume.new.self n _ c.in_ok-last.last is (subst (IsWithin c.args.self.now.propagator.trail.room) (sym is) within) c.loop-index.invariant
    c.in_ok-last.ensures)

pub returns : goal.returns
returns c =
    reaches-variables c.args.self.now c.loop-index.self c.loop-index.index c.args.self.now.formula.now.variables (omega (arith, c.loop-index-test.false, c.min-index-end.ensures)) c.loop-index.invariant
