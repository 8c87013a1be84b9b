use Rattle.std.proofs.Common.{arith, ◌-◌, ◌+◌}
use Rattle.runner.proofs.Runs.{reached_start, reached_more, attended_over, attended_running, attended_partly, step_over, step_on}
use Rattle.runner.proofs.Answering.{if_err}
use Rattle.runner.proofs.running.run.Goals as goal

pub loop-init : goal.loop-init
loop-init g c = record {
  later = grind arith;
  free = c.requires.free;
  stands = c.requires.stands;
  reached = λ step start before shows told. reached_start _ step start _ before shows told;
}

pub returns-in-Some-clause-attended : goal.returns-in-Some-clause-attended
returns-in-Some-clause-attended g c = λ step start before shows told.
    let r = c.loop.invariant.reached step start before shows told in
    attended_over (g.M.Machine.shows c.loop.machine step) step start c.args.steps c.loop.counter (c.args.steps - (c.loop.counter + 1)) _ _ _ before c.in-Some.end (omega (arith, c.loop-test.true)) r
    (step_over (g.M.Machine.shows c.make_step.new.machine step) step r.s _ _ r.middle c.in_ok-end.field-0 c.in-Some.end c.in-Some.is (c.in_ok-end.ensures.made step r.s r.middle r.shows r.told))

pub loop-preserved : goal.loop-preserved
loop-preserved g c = record {
  later = omega (arith, c.loop.invariant.later, c.make_step.ensures.later);
  free = c.in_ok-end.ensures.free;
  stands = c.in_ok-end.ensures.goes c.in-None.is;
  reached = λ step start before shows told.
      let r = c.loop.invariant.reached step start before shows told in
      reached_more (g.M.Machine.shows c.loop.machine step) (g.M.Machine.shows c.make_step.new.machine step) step start c.loop.counter _ _ _ before r
      (step_on (g.M.Machine.shows c.make_step.new.machine step) step r.s _ _ r.middle c.in_ok-end.field-0 c.in-None.is (c.in_ok-end.ensures.made step r.s r.middle r.shows r.told));
}

pub returns-clause-attended : goal.returns-clause-attended
returns-clause-attended g c = λ step start before shows told.
    attended_running (g.M.Machine.shows c.loop.machine step) step start c.args.steps c.loop.counter _ _ before (omega (arith, c.loop-test.false)) (c.loop.invariant.reached step start before shows told)

pub returns-in_err-end-clause-partly : goal.returns-in_err-end-clause-partly
returns-in_err-end-clause-partly g c = if_err c.from_residual.result _ (λ step start before shows told.
    let r = c.loop.invariant.reached step start before shows told in
    attended_partly (g.M.Machine.shows c.loop.machine step) step start c.args.steps c.loop.counter _ _ _ before (omega (arith, c.loop-test.true)) r (c.in_err-end.ensures.in_vain step r.s r.middle r.shows r.told))
