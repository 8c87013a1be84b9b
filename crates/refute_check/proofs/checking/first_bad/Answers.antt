use Rattle.std.proofs.Common.{◌++◌, ◌∷◌, [], take, below_more, sym, subst, ap, ◌∙◌, arith}
use Rattle.std.proofs.lemmas.List.{get_or_read}
use Rattle.watched_literals.specs.Prelude.{IsReady}
use Rattle.refute_check.specs.Refutations.{StepFollows}
use Rattle.refute_check.proofs.Steps.{step-judged, bad-step, steps-front}
use Rattle.refute_check.proofs.checking.first_bad.Goals as goal

pub returns-then-not-branch : goal.returns-then-not-branch
returns-then-not-branch c =
    let v = c.in_ok-follows.ensures.follows (c.args.formula.now ++ take c.loop-place.place c.args.steps.now) c.loop-place.invariant.ready in
    let d = step-judged c.args.formula.now c.args.steps.now c.loop-place.place c.as_slice.result.now c.index-steps-place.result c.in_ok-follows.field-0
    c.loop-place-test.true c.as_slice.ensures c.index-steps-place.is v in
    record {
      within = c.loop-place-test.true;
      before = c.loop-place.invariant.follow;
      bad = bad-step (StepFollows c.args.formula.now c.args.steps.now c.loop-place.place) c.in_ok-follows.field-0 d c.if-not-branch.true;
    }

pub loop-place-preserved : goal.loop-place-preserved
loop-place-preserved c =
    let known = c.args.formula.now ++ take c.loop-place.place c.args.steps.now in
    let v = c.in_ok-follows.ensures.follows known c.loop-place.invariant.ready in
    let d = step-judged c.args.formula.now c.args.steps.now c.loop-place.place c.as_slice.result.now c.index-steps-place.result c.in_ok-follows.field-0
    c.loop-place-test.true c.as_slice.ensures c.index-steps-place.is v in
    let is = get_or_read c.args.steps.now c.loop-place.place c.index-steps-place-in-loop-place.result c.loop-place-test.true c.index-steps-place-in-loop-place.is [] in
    record {
      room = c.in_ok-add.ensures.room ∙ c.in_ok-follows.ensures.room ∙ c.loop-place.invariant.room;
      ready = subst (λ ks. IsReady ks c.add.new.self)
          (ap (λ x. known ++ x ∷ []) is ∙ sym (steps-front c.args.formula.now c.args.steps.now c.loop-place.place c.loop-place-test.true))
          (c.in_ok-add.ensures.ready known (c.in_ok-follows.ensures.ready known c.loop-place.invariant.ready));
      follow = below_more (StepFollows c.args.formula.now c.args.steps.now) c.loop-place.place c.loop-place.invariant.follow (d.0 c.if-not-branch.false);
    }

pub returns : goal.returns
returns c = λ k h. c.loop-place.invariant.follow k (omega (arith, h, c.loop-place-test.false))
