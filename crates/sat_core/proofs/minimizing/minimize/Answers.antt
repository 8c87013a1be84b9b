use Rattle.std.proofs.Common.{reverse, [], refl, sym, subst, ap, ◌∙◌}
use Rattle.std.specs.List.{All}
use Rattle.watched_literals.specs.Prelude.{without, IsWithin, IsReady}
use Rattle.watched_literals.proofs.Trails.{differs, equals}
use Rattle.sat_core.proofs.Without.{all-within, without-within}
use Rattle.sat_core.proofs.Tight.{IsTightened, tightened-start, tightened-next_out, tightened-next_stays, tightened-next_last, tightened-lesson, tightened-end}
use Rattle.sat_core.proofs.minimizing.minimize.Goals as goal
use Rattle.sat_core.proofs.minimizing.minimize.Goals.{then-ne+in_ok-rest+in_ok-follows+then-branch, then-ne+in_ok-rest+in_ok-follows+else-branch, else-ne}

pub follows-requires-clause-ready : goal.follows-requires-clause-ready
follows-requires-clause-ready c = (c.requires.ready.0, c.loop-literal.invariant.ready c.requires.ready.0 c.requires.ready.1)

pub follows-requires-clause-literals : goal.follows-requires-clause-literals
follows-requires-clause-literals c =
    let room = c.args.propagator.now.trail.room in
    subst (λ n. All (IsWithin n) c.as_slice-then-ne.result.now) (sym c.loop-literal.invariant.room)
    (subst (All (IsWithin room)) (sym (c.as_slice-then-ne.ensures.value ∙ c.in_ok-rest.ensures ∙ ap (without _) c.as_slice.ensures.value))
    (all-within (IsWithin room) (without _ c.loop-literal.kept.items) c.loop-literal.kept.items (without-within _ c.loop-literal.kept.items) c.loop-literal.invariant.within))

pub loop-literal-preserved : goal.loop-literal-preserved
loop-literal-preserved c =
    let n = c.loop-literal.literal-index in
    let room = c.args.propagator.now.trail.room in
    let candidates = c.deref-literal-items.result.now in
    let z = c.literal-item.result in
    let e = c.literal-item.is in
    elim c.if-ne.branch [
      | then-ne+in_ok-rest+in_ok-follows+then-branch w ↦ record {
        room = ap (λ p. p.trail.room) w.propagator-is ∙ w.in_ok-follows.ensures.room ∙ c.loop-literal.invariant.room;
        within = subst (All (IsWithin room)) (sym (ap (λ v. v.items) w.kept-is ∙ w.in_ok-rest.ensures ∙ ap (without _) w.as_slice.ensures.value))
            (all-within (IsWithin room) (without _ c.loop-literal.kept.items) c.loop-literal.kept.items (without-within _ c.loop-literal.kept.items) c.loop-literal.invariant.within);
        ready = λ known r. subst (IsReady known) (sym w.propagator-is) (w.in_ok-follows.ensures.ready known (c.loop-literal.invariant.ready known r));
        tightened = λ known r h.
            tightened-next_out known candidates _ n c.loop-literal.kept.items c.if-ne.kept.items w.in_ok-rest.rest.items
            w.as_slice-then-ne.result.now _ w.in_ok-follows.field-0 c.loop-literal-test.true e
            (differs z c.args.last (sym c.ne.ensures ∙ w.if-ne.true)) (w.in_ok-rest.ensures ∙ ap (without _) w.as_slice.ensures.value)
            w.as_slice-then-ne.ensures.value (w.in_ok-follows.ensures.follows known (c.loop-literal.invariant.ready known r)) w.if-branch.true (ap (λ v. v.items) w.kept-is)
            (c.loop-literal.invariant.tightened known r h);
      }
      | then-ne+in_ok-rest+in_ok-follows+else-branch w ↦ record {
        room = ap (λ p. p.trail.room) w.propagator-is ∙ w.in_ok-follows.ensures.room ∙ c.loop-literal.invariant.room;
        within = subst (All (IsWithin room)) (sym (ap (λ v. v.items) w.kept-is)) c.loop-literal.invariant.within;
        ready = λ known r. subst (IsReady known) (sym w.propagator-is) (w.in_ok-follows.ensures.ready known (c.loop-literal.invariant.ready known r));
        tightened = λ known r h.
            tightened-next_stays known candidates _ n c.loop-literal.kept.items c.if-ne.kept.items w.in_ok-rest.rest.items
            w.as_slice-then-ne.result.now _ w.in_ok-follows.field-0 c.loop-literal-test.true e
            (w.in_ok-rest.ensures ∙ ap (without _) w.as_slice.ensures.value)
            w.as_slice-then-ne.ensures.value (w.in_ok-follows.ensures.follows known (c.loop-literal.invariant.ready known r)) w.if-branch.false (ap (λ v. v.items) w.kept-is)
            (c.loop-literal.invariant.tightened known r h);
      }
      | else-ne w ↦ record {
        room = ap (λ p. p.trail.room) w.propagator-is ∙ c.loop-literal.invariant.room;
        within = subst (All (IsWithin room)) (sym (ap (λ v. v.items) w.kept-is)) c.loop-literal.invariant.within;
        ready = λ known r. subst (IsReady known) (sym w.propagator-is) (c.loop-literal.invariant.ready known r);
        tightened = λ known r h.
            tightened-next_last known candidates _ n c.loop-literal.kept.items c.if-ne.kept.items _ c.loop-literal-test.true e
            (equals z c.args.last (sym c.ne.ensures ∙ w.if-ne.false)) (ap (λ v. v.items) w.kept-is) (c.loop-literal.invariant.tightened known r h);
      }
    ]

pub returns-clause-lesson : goal.returns-clause-lesson
returns-clause-lesson c = λ known r h.
    tightened-lesson known c.deref-literal-items.result.now _ c.loop-literal.kept.items
    (tightened-end known c.deref-literal-items.result.now _ c.loop-literal.kept.items c.loop-literal.literal-index c.loop-literal-test.false c.loop-literal.auto.literal-index-end
    (c.loop-literal.invariant.tightened known r h))

pub loop-literal-init : goal.loop-literal-init
loop-literal-init c =
    let e = c.in_ok-kept.ensures.items in
    let last = c.args.last in
    let tried = c.deref-literal-items.ensures.value ∙ c.reverse.ensures.items ∙ ap reverse c.in_ok-candidates.ensures.items in
    record {
      room = refl;
      within = subst (All (IsWithin c.args.propagator.now.trail.room)) (sym e) c.requires.within;
      ready = λ known r. r;
      tightened = λ known r h. subst (λ xs. IsTightened known c.deref-literal-items.result.now last [] xs) (sym e)
          (subst (λ xs. IsTightened known xs last [] c.args.clause.now) (sym tried) (tightened-start known c.args.clause.now last h));
    }
