use Rattle.std.proofs.Common.{◌∷◌, [], refl, sym, subst, ◌∙◌}
use Rattle.std.specs.List.{Contains}
use Rattle.std.proofs.lemmas.List.Elements.{Contains-append_left}
use Rattle.watched_literals.proofs.Trails.{tested, extends-on}
use Rattle.watched_literals.specs.Prelude.{Spreads}
use Rattle.watched_literals.proofs.Reasons.{reasoned-none}
use Rattle.watched_literals.proofs.Knowing.{watched-front, above-more, assumed-above, assumed-spreads, assumed-stays}
use Rattle.watched_literals.proofs.propagator.Propagator.assume.Goals as goal

pub push-requires-clause-fresh : goal.push-requires-clause-fresh
push-requires-clause-fresh c = tested c.args.self.now.trail.literals c.args.literal c.requires.fresh

pub propagate-requires-clause-watched : goal.propagate-requires-clause-watched
propagate-requires-clause-watched c =
    let s = c.args.self.now in
    watched-front s.clauses.items s.pairs.items s.trail.literals c.push.new.self.literals c.len-visited.result c.len-visited.ensures
    (c.args.literal ∷ [], c.in_ok-push.ensures.literals) c.requires.complete

pub returns-clause-reasons : goal.returns-clause-reasons
returns-clause-reasons c = λ h.
    c.in_ok-fails.ensures.reasons (reasoned-none c.args.self.now.clauses.items c.args.self.now.trail c.push.new.self c.args.literal
    c.in_ok-push.ensures.literals c.in_ok-push.ensures.reasons h)

pub returns-clause-above : goal.returns-clause-above
returns-clause-above c = λ known root h.
    let s = c.args.self.now in
    let p = c.in_ok-fails.ensures.propagates in
    let now = above-more root s.trail.literals c.push.new.self.literals c.args.literal h.above c.in_ok-push.ensures.literals in
    record {
      open_root = c.in_ok-fails.ensures.keeps.refuted ∙ h.open_root;
      base = assumed-above known root s _ c.propagate.new.self c.in_ok-fails.fails now
          (record { clauses = refl; pairs = refl; rows = refl; pending = refl; room = c.in_ok-push.ensures.room }) c.in_ok-fails.ensures.keeps p h.base;
      above = extends-on root c.push.new.self.literals c.propagate.new.self.trail.literals now p.rises.extends;
    }

pub returns-clause-complete : goal.returns-clause-complete
returns-clause-complete c = c.in_ok-fails.ensures.propagates.watched

pub returns-clause-spreads : goal.returns-clause-spreads
returns-clause-spreads c = λ known root h.
    let s = c.args.self.now in
    let now = above-more root s.trail.literals c.push.new.self.literals c.args.literal h.above c.in_ok-push.ensures.literals in
    subst (λ xs. Spreads known xs c.propagate.new.self.trail.literals c.in_ok-fails.fails) c.in_ok-push.ensures.literals
    (assumed-spreads known root s _ c.propagate.new.self c.in_ok-fails.fails now
    (record { clauses = refl; pairs = refl; rows = refl; pending = refl; room = c.in_ok-push.ensures.room }) c.in_ok-fails.ensures.keeps
    c.in_ok-fails.ensures.propagates h.base)

pub returns-clause-watched : goal.returns-clause-watched
returns-clause-watched c =
    let s = c.args.self.now in
    assumed-stays s _ c.propagate.new.self c.in_ok-fails.fails
    (λ x m. subst (λ xs. Contains xs x) (sym c.in_ok-push.ensures.literals) (Contains-append_left s.trail.literals (c.args.literal ∷ []) x m))
    (record { clauses = refl; pairs = refl; rows = refl; pending = refl; room = c.in_ok-push.ensures.room }) c.in_ok-fails.ensures.keeps c.in_ok-fails.ensures.propagates
