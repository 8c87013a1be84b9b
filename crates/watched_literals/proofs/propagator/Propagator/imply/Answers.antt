use Rattle.std.proofs.Common.{◌++◌, ◌∷◌, [], length, take, get_or, refl, sym, subst, ap, ◌∙◌, arith, length-append}
use Rattle.std.specs.List.{Contains}
use Rattle.std.proofs.Math.Seq.{get_or-append_seam}
use Rattle.watched_literals.specs.Prelude.{AllWatched, AreReasoned, IsUnit}
use Rattle.watched_literals.proofs.Trails.{tested}
use Rattle.watched_literals.proofs.Reasons.{reasoned-longer, reasoned-unit}
use Rattle.watched_literals.proofs.Knowing.{unit-front, implied}
use Rattle.watched_literals.proofs.propagator.Propagator.imply.Goals as goal

pub push-requires-clause-fresh : goal.push-requires-clause-fresh
push-requires-clause-fresh c =
    tested c.watch.new.self.trail.literals c.args.literal
    (subst (λ t. ¬ Contains t.literals c.args.literal) (sym c.in_ok-watch.ensures.trail) c.requires.unit.not_true)

pub propagate-requires-clause-watched : goal.propagate-requires-clause-watched
propagate-requires-clause-watched c =
    let s = c.args.self.now in
    let mid = c.watch.new.self in
    let w = c.in_ok-watch.ensures.watches in
    let now = c.push.new.self.literals in
    let n = c.len-visited.result in
    subst (λ cs. AllWatched cs mid.pairs.items (take n now) now) (sym w.clauses)
    (subst (λ ps. AllWatched (s.clauses.items ++ c.args.clause.now ∷ []) ps (take n now) now) (sym w.pairs)
    (unit-front s.clauses.items s.pairs.items s.trail.literals now c.args.clause.now _ c.args.literal n c.requires.ready.2.base.stored.paired
    (c.len-visited.ensures ∙ ap (λ t. length t.literals) c.in_ok-watch.ensures.trail)
    (c.in_ok-push.ensures.literals ∙ ap (λ t. t.literals ++ c.args.literal ∷ []) c.in_ok-watch.ensures.trail) c.requires.unit.inside c.requires.complete))

pub returns-clause-reasons : goal.returns-clause-reasons
returns-clause-reasons c = λ h.
    let s = c.args.self.now in
    let mid = c.watch.new.self in
    let clause = c.args.clause.now in
    let w = c.in_ok-watch.ensures.watches in
    let at = c.len-place.ensures ∙ s.clauses.ok.0 in
    let stands = ap (λ cs. get_or cs c.len-place.result []) w.clauses ∙ ap (λ n. get_or (s.clauses.items ++ clause ∷ []) n []) at
    ∙ get_or-append_seam s.clauses.items clause [] [] in
    c.in_ok-fails.ensures.reasons
    (reasoned-unit mid.clauses.items mid.trail c.push.new.self c.args.literal c.len-place.result c.in_ok-push.ensures.literals c.in_ok-push.ensures.reasons
    (omega (arith, at, ap length w.clauses, length-append s.clauses.items (clause ∷ [])))
    (subst (λ t. IsUnit t.literals (get_or mid.clauses.items c.len-place.result []) c.args.literal) (sym c.in_ok-watch.ensures.trail)
    (subst (λ xs. IsUnit s.trail.literals xs c.args.literal) (sym stands) c.requires.unit))
    (subst (AreReasoned mid.clauses.items) (sym c.in_ok-watch.ensures.trail)
    (subst (λ cs. AreReasoned cs s.trail) (sym w.clauses) (reasoned-longer s.clauses.items (clause ∷ []) s.trail h))))

pub returns-clause-implies : goal.returns-clause-implies
returns-clause-implies c =
    let s = c.args.self.now in
    implied c.args.clause.now c.args.literal c.args.other s c.watch.new.self _ c.propagate.new.self c.in_ok-fails.fails c.requires.unit c.requires.other.0 c.requires.other.1
    c.requires.ready.2.base.stored c.in_ok-watch.ensures.trail c.in_ok-watch.ensures.watches
    (record { clauses = refl; pairs = refl; rows = refl; pending = refl; room = c.in_ok-push.ensures.room })
    (c.in_ok-push.ensures.literals ∙ ap (λ t. t.literals ++ c.args.literal ∷ []) c.in_ok-watch.ensures.trail) c.in_ok-watch.ensures.refuted
    c.in_ok-fails.ensures.keeps c.in_ok-fails.ensures.propagates
