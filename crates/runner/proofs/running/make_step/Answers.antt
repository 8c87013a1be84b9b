use Rattle.std.proofs.Common.{refl}
use Rattle.machines.specs.Prelude.{Goes}
use Rattle.runner.specs.Prelude.{streams_by}
use Rattle.runner.proofs.Runs.{went, asked, waits, over, went_on, resumed, never_dry}
use Rattle.runner.proofs.Answering.{if_err}
use Rattle.runner.proofs.running.make_step.Goals as goal

pub returns-in-Went-clause-made : goal.returns-in-Went-clause-made
returns-in-Went-clause-made g c = λ step s before shows told.
    let made = c.in-Went.ensures.steps step (Goes s) shows in
    went (g.M.Machine.shows c.step.new.self step) step s (g.M.Machine.memory c.step.new.self) _ before (step s) refl told made.0 made.1

pub returns-in_ok-attend-in-Asked-clause-made : goal.returns-in_ok-attend-in-Asked-clause-made
returns-in_ok-attend-in-Asked-clause-made g c = λ step s before shows told.
    let made = c.in-Asked.ensures.steps step (Goes s) shows in
    asked (g.M.Machine.shows c.attend.new.machine step) step s (g.M.Machine.shows c.step.new.self step) (g.M.Machine.memory c.step.new.self) c.in-Asked.call (streams_by g.I.Source.left g.I.Source.faults g.O.Sink.shown g.O.Sink.faults g.E.Sink.shown g.E.Sink.faults c.args.input.now c.args.output.now c.args.errors.now) _ before (step s) refl made.0 made.1
    (λ listed next waiting describes. c.in_ok-attend-in-Asked.ensures.answered step listed next before waiting describes told)

pub returns-in-Ended-clause-made : goal.returns-in-Ended-clause-made
returns-in-Ended-clause-made g c = λ step s before shows told.
    let made = c.in-Ended.ensures.steps step (Goes s) shows in
    over (g.M.Machine.shows c.step.new.self step) step s (g.M.Machine.memory c.step.new.self) _ before c.in-Ended.end (step s) refl told made.1

pub step-requires-clause-stands : goal.step-requires-clause-stands
step-requires-clause-stands g c = (c.requires.stands.0, Goes c.requires.stands.1, c.requires.stands.2)

pub returns-in-Went-clause-goes : goal.returns-in-Went-clause-goes
returns-in-Went-clause-goes g c = λ none.
    let made = c.in-Went.ensures.steps c.requires.stands.0 (Goes c.requires.stands.1) c.requires.stands.2 in
    went_on (g.M.Machine.shows c.step.new.self) (g.M.Machine.memory c.step.new.self) c.requires.stands.0 _ made.0 made.1

pub returns-in_ok-attend-in-Asked-clause-goes : goal.returns-in_ok-attend-in-Asked-clause-goes
returns-in_ok-attend-in-Asked-clause-goes g c = λ none.
    let made = c.in-Asked.ensures.steps c.requires.stands.0 (Goes c.requires.stands.1) c.requires.stands.2 in
    resumed (g.M.Machine.shows c.step.new.self) (g.M.Machine.shows c.attend.new.machine) (g.M.Machine.memory c.step.new.self) c.in-Asked.call c.requires.stands.0 _ made.0 made.1 c.in_ok-attend-in-Asked.ensures.goes

pub returns-in-Ended-clause-answered : goal.returns-in-Ended-clause-answered
returns-in-Ended-clause-answered g c =
    let made = c.in-Ended.ensures.steps c.requires.stands.0 (Goes c.requires.stands.1) c.requires.stands.2 in
    never_dry (g.M.Machine.memory c.step.new.self) c.in-Ended.end _ made.1

pub returns-in_err-attend-in-Asked-clause-in_vain : goal.returns-in_err-attend-in-Asked-clause-in_vain
returns-in_err-attend-in-Asked-clause-in_vain g c = if_err c.from_residual.result _ (λ step s before shows told.
    let made = c.in-Asked.ensures.steps step (Goes s) shows in
    waits (g.M.Machine.shows c.attend.new.machine step) step s (g.M.Machine.shows c.step.new.self step) (g.M.Machine.memory c.step.new.self) c.in-Asked.call (streams_by g.I.Source.left g.I.Source.faults g.O.Sink.shown g.O.Sink.faults g.E.Sink.shown g.E.Sink.faults c.args.input.now c.args.output.now c.args.errors.now) _ before (step s) refl made.0 made.1
    (λ listed next waiting describes. c.in_err-attend-in-Asked.ensures.in_vain step listed next before waiting describes told))
