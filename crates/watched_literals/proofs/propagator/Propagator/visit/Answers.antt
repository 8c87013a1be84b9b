use Rattle.std.proofs.Common.{◌≡◌, ◌∷◌, [], pos, neg_ℤ, length, set, length-append, append-nil, refl, sym, subst, ap, ◌∙◌, arith}
use Rattle.std.proofs.Math.IntN.{neg_ℤ-neg_ℤ}
use Rattle.std.specs.List.{Contains}
use Rattle.watched_literals.specs.Prelude.{IsWithin, IsStored}
use Rattle.watched_literals.proofs.Watching.{inside-of, opposite-within, rises-keeps, visiting-begin, visiting-more, visiting-popped, visits-ended, visits-done}
use Rattle.watched_literals.proofs.propagator.Propagator.visit.Goals as goal

pub loop-place-init : goal.loop-place-init
loop-place-init c =
    let s = c.args.self.now in
    record {
      reasons = λ h. h;
      visiting = visiting-begin s _ c.opposite-off.result (pos 0) c.code-row.result c.index_mut.result.now
          (subst (IsWithin s.trail.room) (sym c.opposite-off.ensures) (opposite-within s.trail.room c.args.literal c.requires.literal)) c.requires.stored
          c.code-row.ensures.code c.index_mut.ensures.value c.requires.idle
          (record {
            keeps = record { clauses = refl; room = refl; refuted = refl };
            pairs = refl;
            rows = ap (set s.rows.items c.code-row.result) c.swap.ensures.x_after;
            pending = c.swap.ensures.y_after;
            literals = refl;
          });
    }

pub rewatch-requires-clause-inside : goal.rewatch-requires-clause-inside
rewatch-requires-clause-inside c =
    inside-of c.loop-place.self c.opposite-off.result c.pop.new.self c.in-Some.place
    (subst (IsStored c.loop-place.self c.opposite-off.result) c.in-Some.ensures.items c.loop-place.invariant.visiting.stored)

pub rewatch-requires-clause-stored : goal.rewatch-requires-clause-stored
rewatch-requires-clause-stored c =
    subst (IsStored c.loop-place.self c.opposite-off.result) c.in-Some.ensures.items c.loop-place.invariant.visiting.stored

pub rewatch-requires-clause-off : goal.rewatch-requires-clause-off
rewatch-requires-clause-off c =
    let s = c.args.self.now in
    let off = subst (IsWithin s.trail.room) (sym c.opposite-off.ensures) (opposite-within s.trail.room c.args.literal c.requires.literal) in
    subst (λ n. IsWithin n c.opposite-off.result) (sym c.loop-place.invariant.visiting.keeps.room) off

pub rewatch-requires-clause-false_off : goal.rewatch-requires-clause-false_off
rewatch-requires-clause-false_off c =
    let s = c.args.self.now in
    subst (Contains c.loop-place.self.trail.literals) (sym (ap neg_ℤ c.opposite-off.ensures ∙ neg_ℤ-neg_ℤ c.args.literal))
    (rises-keeps s.clauses.items s.trail.literals c.loop-place.self.trail.literals c.loop-place.invariant.visiting.rises c.args.literal c.requires.is_true)

pub loop-place-smaller : goal.loop-place-smaller
loop-place-smaller c =
    let k = c.in_ok-rewatch.ensures.rewatches.rest c.if-branch.false in
    omega (arith, ap length k, ap length c.in-Some.ensures.items, length-append c.pop.new.self (c.in-Some.place ∷ []))

pub loop-place-preserved : goal.loop-place-preserved
loop-place-preserved c =
    let s = c.args.self.now in
    record {
      reasons = λ h. c.in_ok-rewatch.ensures.reasons (c.loop-place.invariant.reasons h);
      visiting = visiting-more c.opposite-off.result c.in-Some.place s _ c.rewatch.new.self c.in_ok-rewatch.field-0
          (visiting-popped c.opposite-off.result c.in-Some.place s c.loop-place.self _ c.in-Some.ensures.items refl refl refl refl refl c.loop-place.invariant.visiting)
          c.in_ok-rewatch.ensures.keeps c.in_ok-rewatch.ensures.rewatches;
    }

pub returns-then-branch-clause-visits : goal.returns-then-branch-clause-visits
returns-then-branch-clause-visits c =
    let s = c.args.self.now in
    let off = subst (IsWithin s.trail.room) (sym c.opposite-off.ensures) (opposite-within s.trail.room c.args.literal c.requires.literal) in
    visits-ended c.args.literal c.opposite-off.result c.in-Some.place s _ c.rewatch.new.self _ c.code-row.result
    c.index_mut-then-branch.result.now c.append.new.self c.append.new.other c.in_ok-rewatch.field-0 off
    (visiting-popped c.opposite-off.result c.in-Some.place s c.loop-place.self _ c.in-Some.ensures.items refl refl refl refl refl c.loop-place.invariant.visiting)
    c.in_ok-rewatch.ensures.keeps c.in_ok-rewatch.ensures.rewatches c.if-branch.true
    c.code-row.ensures.code c.index_mut-then-branch.ensures.value c.in_ok-append.ensures.items c.in_ok-append.ensures.other
    (record { keeps = record { clauses = refl; room = refl; refuted = refl }; pairs = refl; rows = refl; pending = refl; literals = refl })

pub returns-clause-visits : goal.returns-clause-visits
returns-clause-visits c =
    let s = c.args.self.now in
    let empty = c.in_default.ensures.empty in
    let k : c.pop.new.self ≡ [] = sym (append-nil c.pop.new.self) ∙ sym c.in_default.ensures.items ∙ empty in
    visits-done c.args.literal c.opposite-off.result s c.loop-place.self _ c.opposite-off.ensures empty c.loop-place.invariant.visiting
    (record { keeps = record { clauses = refl; room = refl; refuted = refl }; pairs = refl; rows = refl; pending = k; literals = refl })
