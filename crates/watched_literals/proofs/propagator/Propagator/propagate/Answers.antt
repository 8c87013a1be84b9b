use Rattle.std.proofs.Common.{◌<◌, length, refl, sym, subst, ap, ◌∙◌, arith}
use Rattle.std.proofs.lemmas.Bool.{false≢true}
use Rattle.watched_literals.specs.Prelude.{Fails, Rises, unset}
use Rattle.watched_literals.proofs.Watching.{keeps-on, keeps-same, moves-on, rises-on, rises-keeps, rises-same, rises-longer, moves-same, measure-falls, watched-more, watched-all, fails-risen}
use Rattle.watched_literals.proofs.propagator.Propagator.propagate.Goals as goal

pub loop-visited-init : goal.loop-visited-init
loop-visited-init c = record {
  keeps = keeps-same c.args.self.now;
  reasons = λ h. h;
  stored = c.requires.stored;
  idle = c.requires.idle;
  moves = moves-same c.args.self.now.trail.literals c.args.self.now.pairs.items;
  rises = rises-same c.args.self.now.clauses.items c.args.self.now.trail.literals;
  within = c.requires.from;
  watched = c.requires.watched;
}

pub loop-visited-smaller : goal.loop-visited-smaller
loop-visited-smaller c =
    let old = c.loop-visited.self in
    let new = c.visit.new.self in
    let test : c.loop-visited.visited < length old.trail.literals = omega (arith, c.len.ensures, c.loop-visited-test.true) in
    let k = ap (λ cs. unset cs new.trail.literals) c.in_ok-visit.ensures.keeps.clauses in
    omega (arith, k, measure-falls old.clauses.items old.trail.literals new.trail.literals c.loop-visited.visited test c.in_ok-visit.ensures.visits.rises)

pub loop-visited-preserved : goal.loop-visited-preserved
loop-visited-preserved c =
    let first = c.args.self.now in
    let old = c.loop-visited.self in
    let new = c.visit.new.self in
    let test : c.loop-visited.visited < length old.trail.literals = omega (arith, c.len.ensures, c.loop-visited-test.true) in
    let i = c.loop-visited.invariant in
    let v = c.in_ok-visit.ensures.visits in
    record {
      keeps = keeps-on first old new i.keeps c.in_ok-visit.ensures.keeps;
      reasons = λ h. c.in_ok-visit.ensures.reasons (i.reasons h);
      stored = v.stored;
      idle = v.idle;
      moves = moves-on first.trail.literals old.trail.literals first.pairs.items old.pairs.items new.pairs.items
          (rises-keeps first.clauses.items first.trail.literals old.trail.literals i.rises) i.moves v.moves;
      rises = rises-on first.clauses.items first.trail.literals old.trail.literals new.trail.literals i.rises
          (subst (λ cs. Rises cs old.trail.literals new.trail.literals) i.keeps.clauses v.rises);
      within = omega (arith, test, rises-longer old.clauses.items old.trail.literals new.trail.literals v.rises);
      watched = watched-more c.get-literal.result c.loop-visited.visited old new c.in_ok-visit.field-0 test c.get-literal.ensures.literal
          (λ k. false≢true (sym c.if-branch.false ∙ k)) i.watched c.in_ok-visit.ensures.keeps v;
    }

pub returns-then-branch-clause-keeps : goal.returns-then-branch-clause-keeps
returns-then-branch-clause-keeps c = keeps-on c.args.self.now c.loop-visited.self c.visit.new.self c.loop-visited.invariant.keeps c.in_ok-visit.ensures.keeps

pub returns-then-branch-clause-propagates : goal.returns-then-branch-clause-propagates
returns-then-branch-clause-propagates c =
    let first = c.args.self.now in
    let old = c.loop-visited.self in
    let new = c.visit.new.self in
    let i = c.loop-visited.invariant in
    let v = c.in_ok-visit.ensures.visits in
    record {
      stored = v.stored;
      idle = v.idle;
      moves = moves-on first.trail.literals old.trail.literals first.pairs.items old.pairs.items new.pairs.items
          (rises-keeps first.clauses.items first.trail.literals old.trail.literals i.rises) i.moves v.moves;
      rises = rises-on first.clauses.items first.trail.literals old.trail.literals new.trail.literals i.rises
          (subst (λ cs. Rises cs old.trail.literals new.trail.literals) i.keeps.clauses v.rises);
      watched = λ k. absurd (k refl);
      failure = λ k. fails-risen first.clauses.items first.trail.literals old.trail.literals i.rises
          (subst (λ cs. Fails cs old.trail.literals) i.keeps.clauses (v.failure c.if-branch.true));
    }

pub returns-clause-propagates : goal.returns-clause-propagates
returns-clause-propagates c =
    let s = c.loop-visited.self in
    record {
      stored = c.loop-visited.invariant.stored;
      idle = c.loop-visited.invariant.idle;
      moves = c.loop-visited.invariant.moves;
      rises = c.loop-visited.invariant.rises;
      watched = λ k. watched-all s.clauses.items s.pairs.items s.trail.literals c.loop-visited.visited
          (omega (arith, c.len.ensures, c.loop-visited-test.false)) c.loop-visited.invariant.within c.loop-visited.invariant.watched;
      failure = λ k. absurd (false≢true k);
    }
