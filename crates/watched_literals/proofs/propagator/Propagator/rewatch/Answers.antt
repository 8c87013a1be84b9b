use Rattle.std.proofs.Common.{◌++◌, ◌∷◌, [], neg_ℤ, get_or, refl, sym, subst, ap, ◌∙◌, arith}
use Rattle.std.specs.List.{All, Contains, list_any}
use Rattle.std.specs.Ordering.{int_eq}
use Rattle.std.proofs.lemmas.List.Elements.{All-contains}
use Rattle.watched_literals.specs.Prelude.{IsWithin}
use Rattle.watched_literals.proofs.Trails.{listed, unlisted}
use Rattle.watched_literals.proofs.Watching.{watch-at, watch-within, watch-apart, opposite-within, clause-read, rewatch-true, rewatch-move, rewatch-false, rewatch-unit, unit-of}
use Rattle.watched_literals.proofs.Reasons.{reasoned-unit}
use Rattle.watched_literals.proofs.propagator.Propagator.rewatch.Goals as goal

pub index-pair-requires : goal.index-pair-requires
index-pair-requires c = omega (arith, c.requires.inside, c.requires.stored.paired, c.args.self.now.pairs.ok.0)

pub index_mut-requires : goal.index_mut-requires
index_mut-requires c = omega (arith, c.requires.inside, c.requires.stored.paired, c.args.self.now.pairs.ok.0)

pub holds-requires : goal.holds-requires
holds-requires c =
    let s = c.args.self.now in
    let places = s.pending ++ c.args.place ∷ [] in
    watch-within s c.args.off places c.args.place c.beside-other.result c.requires.stored c.requires.inside
    (watch-at s c.args.off places c.args.place c.index-pair.result.now c.beside-other.result c.requires.stored c.requires.inside c.index-pair.ensures c.beside-other.ensures.watch)

pub returns-then-holds-clause-rewatches : goal.returns-then-holds-clause-rewatches
returns-then-holds-clause-rewatches c =
    let s = c.args.self.now in
    let places = s.pending ++ c.args.place ∷ [] in
    rewatch-true s _ c.args.off c.args.place c.beside-other.result c.requires.stored c.requires.off.code_in
    (watch-at s c.args.off places c.args.place c.index-pair.result.now c.beside-other.result c.requires.stored c.requires.inside c.index-pair.ensures c.beside-other.ensures.watch)
    (listed s.trail.literals c.beside-other.result (sym c.if-holds.ensures))
    (record { keeps = record { clauses = refl; room = refl; refuted = refl }; pairs = refl; rows = c.in_ok-list.ensures; pending = refl; literals = refl })

pub unfalse-requires : goal.unfalse-requires
unfalse-requires c =
    let s = c.args.self.now in
    subst (All (IsWithin s.trail.room))
    (sym (clause-read s.clauses.items c.args.place c.index.result.now c.as_slice.result.now c.requires.inside c.index.ensures c.as_slice.ensures))
    (c.requires.stored.within c.args.place c.requires.inside)

pub list-requires-in-Some : goal.list-requires-in-Some
list-requires-in-Some c =
    let s = c.args.self.now in
    let clause = clause-read s.clauses.items c.args.place c.index.result.now c.as_slice.result.now c.requires.inside c.index.ensures c.as_slice.ensures in
    let is : IsWithin s.trail.room c.in-Some.one =
    All-contains (IsWithin s.trail.room) (get_or s.clauses.items c.args.place []) c.in-Some.one (c.requires.stored.within c.args.place c.requires.inside)
    (subst (λ xs. Contains xs c.in-Some.one) clause c.in-Some.ensures.0) in
    omega (arith, is.code_in, c.requires.stored.rowed)

pub returns-in_ok-list-in-Some-clause-rewatches : goal.returns-in_ok-list-in-Some-clause-rewatches
returns-in_ok-list-in-Some-clause-rewatches c =
    let s = c.args.self.now in
    let places = s.pending ++ c.args.place ∷ [] in
    let clause = clause-read s.clauses.items c.args.place c.index.result.now c.as_slice.result.now c.requires.inside c.index.ensures c.as_slice.ensures in
    rewatch-move s _ c.args.off c.args.place c.in-Some.one c.beside-other.result c.requires.stored
    (watch-at s c.args.off places c.args.place c.index-pair.result.now c.beside-other.result c.requires.stored c.requires.inside c.index-pair.ensures c.beside-other.ensures.watch)
    (c.beside-other.ensures.apart (watch-apart s c.args.off places c.args.place c.index-pair.result.now c.requires.stored c.requires.inside c.index-pair.ensures))
    c.requires.false_off (subst (λ xs. Contains xs c.in-Some.one) clause c.in-Some.ensures.0) c.in-Some.ensures.1 c.in-Some.ensures.2
    (record { keeps = record { clauses = refl; room = refl; refuted = refl }; pairs = refl; rows = c.in_ok-list-in-Some.ensures; pending = refl; literals = refl })

pub holds-requires-in-None : goal.holds-requires-in-None
holds-requires-in-None c =
    let s = c.args.self.now in
    let places = s.pending ++ c.args.place ∷ [] in
    subst (IsWithin s.trail.room) (sym c.opposite.ensures) (opposite-within s.trail.room c.beside-other.result
    (watch-within s c.args.off places c.args.place c.beside-other.result c.requires.stored c.requires.inside
    (watch-at s c.args.off places c.args.place c.index-pair.result.now c.beside-other.result c.requires.stored c.requires.inside c.index-pair.ensures c.beside-other.ensures.watch)))

pub returns-then-holds-2-clause-rewatches : goal.returns-then-holds-2-clause-rewatches
returns-then-holds-2-clause-rewatches c =
    let s = c.args.self.now in
    let clause = clause-read s.clauses.items c.args.place c.index.result.now c.as_slice.result.now c.requires.inside c.index.ensures c.as_slice.ensures in
    rewatch-false s _ c.args.off c.args.place c.beside-other.result c.requires.stored
    (listed s.trail.literals (neg_ℤ c.beside-other.result) (ap (λ l. list_any (int_eq l) s.trail.literals) (sym c.opposite.ensures) ∙ sym c.if-holds-2.ensures))
    (λ l i ne. c.in-None.ensures l (subst (λ xs. Contains xs l) (sym clause) i) ne)
    (record { keeps = record { clauses = refl; room = refl; refuted = refl }; pairs = refl; rows = refl; pending = c.in_ok-push-in-None.ensures; literals = refl })

pub push-requires-in-None-clause-within : goal.push-requires-in-None-clause-within
push-requires-in-None-clause-within c =
    let s = c.args.self.now in
    let places = s.pending ++ c.args.place ∷ [] in
    watch-within s c.args.off places c.args.place c.beside-other.result c.requires.stored c.requires.inside
    (watch-at s c.args.off places c.args.place c.index-pair.result.now c.beside-other.result c.requires.stored c.requires.inside c.index-pair.ensures c.beside-other.ensures.watch)

pub returns-in_ok-list-in-None-clause-rewatches : goal.returns-in_ok-list-in-None-clause-rewatches
returns-in_ok-list-in-None-clause-rewatches c =
    let s = c.args.self.now in
    let places = s.pending ++ c.args.place ∷ [] in
    let clause = clause-read s.clauses.items c.args.place c.index.result.now c.as_slice.result.now c.requires.inside c.index.ensures c.as_slice.ensures in
    rewatch-unit s _ c.args.off c.args.place c.beside-other.result c.requires.stored c.requires.off.code_in
    (unit-of s c.args.off places c.args.place c.beside-other.result c.requires.stored c.requires.inside
    (watch-at s c.args.off places c.args.place c.index-pair.result.now c.beside-other.result c.requires.stored c.requires.inside c.index-pair.ensures c.beside-other.ensures.watch)
    (unlisted s.trail.literals c.beside-other.result (sym c.if-holds.ensures))
    (unlisted s.trail.literals (neg_ℤ c.beside-other.result) (ap (λ l. list_any (int_eq l) s.trail.literals) (sym c.opposite.ensures) ∙ sym c.if-holds-2.ensures))
    (λ l i ne. c.in-None.ensures l (subst (λ xs. Contains xs l) (sym clause) i) ne))
    (record {
      keeps = record { clauses = refl; room = c.in_ok-push-in-None-2.ensures.room; refuted = refl };
      pairs = refl;
      rows = c.in_ok-list-in-None.ensures;
      pending = refl;
      literals = c.in_ok-push-in-None-2.ensures.literals;
    })

pub returns-in_ok-list-in-None-clause-reasons : goal.returns-in_ok-list-in-None-clause-reasons
returns-in_ok-list-in-None-clause-reasons c =
    let s = c.args.self.now in
    let places = s.pending ++ c.args.place ∷ [] in
    let clause = clause-read s.clauses.items c.args.place c.index.result.now c.as_slice.result.now c.requires.inside c.index.ensures c.as_slice.ensures in
    λ h. reasoned-unit s.clauses.items s.trail c.push-in-None.new.self c.beside-other.result c.args.place
    c.in_ok-push-in-None-2.ensures.literals c.in_ok-push-in-None-2.ensures.reasons c.requires.inside
    (unit-of s c.args.off places c.args.place c.beside-other.result c.requires.stored c.requires.inside
    (watch-at s c.args.off places c.args.place c.index-pair.result.now c.beside-other.result c.requires.stored c.requires.inside c.index-pair.ensures c.beside-other.ensures.watch)
    (unlisted s.trail.literals c.beside-other.result (sym c.if-holds.ensures))
    (unlisted s.trail.literals (neg_ℤ c.beside-other.result) (ap (λ l. list_any (int_eq l) s.trail.literals) (sym c.opposite.ensures) ∙ sym c.if-holds-2.ensures))
    (λ l i ne. c.in-None.ensures l (subst (λ xs. Contains xs l) (sym clause) i) ne)) h
